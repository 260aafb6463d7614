-- Rounding to the nearest whole number, by the quotient that is rounded down.
use Rattle.std.proofs.Common.{◌≡◌, ℕ, ◌*◌, ◌^◌, ◌<◌, ◌≤◌, Bool, true, false, T, ℤ, pos, negsuc, ◌+ℤ◌, ◌-ℤ◌, nat_abs, sym, ◌∙◌, subst, div-le_self, arith, w64, to_z, of_z}
use lib.Signed.{lt_z, non_neg}
use Rattle.ring.proofs.Limits.{back}
use Rattle.std.proofs.lemmas.Int.{ints, to_z_pos}
use Rattle.std.specs.Int.{int_div_euclid, int_rem_euclid}
use Rattle.algebra.proofs.Floor.{floor_euclid}
use Rattle.planes.specs.Planes.{Nearest}
use Rattle.planes.proofs.Division.{nearest_above, nearest_below}

-- the quotient is no larger than what is divided
pub quotient_bound : (z : ℤ) (n : ℕ) → nat_abs (int_div_euclid z (pos n)) ≤ nat_abs z
quotient_bound (pos a) n = div-le_self a n
quotient_bound (negsuc a) n = let h = div-le_self a n in omega (arith, h)

module _ (z : ℤ) (n : ℕ) (q r : ℤ) (some : 0 < n) (e : q ≡ int_div_euclid z (pos n)) (f : r ≡ int_rem_euclid z (pos n)) where
  pub rounds_down : 2 * nat_abs r ≤ n → Nearest z n q
  rounds_down h = subst (Nearest z n) (sym e) (nearest_below z n (int_div_euclid z (pos n)) (nat_abs (int_rem_euclid z (pos n))) (floor_euclid z n some) (subst (λ (s : ℤ). 2 * nat_abs s ≤ n) f h))

  pub rounds_up : n ≤ 2 * nat_abs r → Nearest z n (q +ℤ pos 1)
  rounds_up h = subst (λ (s : ℤ). Nearest z n (s +ℤ pos 1)) (sym e) (nearest_above z n (int_div_euclid z (pos n)) (nat_abs (int_rem_euclid z (pos n))) (floor_euclid z n some) (subst (λ (s : ℤ). n ≤ 2 * nat_abs s) f h))

  pub rounded_bound : nat_abs q ≤ nat_abs z
  rounded_bound = subst (λ (s : ℤ). nat_abs s ≤ nat_abs z) (sym e) (quotient_bound z n)

-- the test of the code, by which it rounds up
module _ (n : ℕ) (r : ℤ) (natural : T (non_neg r)) (below : nat_abs r < n) (small : n ≤ 3 * 2 ^ 60) where
  abbrev test : Bool
  test = lt_z (to_z w64 (of_z w64 (to_z w64 n -ℤ to_z w64 (of_z w64 r)))) (to_z w64 (of_z w64 r))

  test_is : test ≡ lt_z (pos n -ℤ r) r
  test_is =
      let e = back r (omega arith) in
      let f = to_z_pos w64 n (omega arith) in
      let d : nat_abs (pos n -ℤ r) ≤ 2 ^ 62 = omega (arith, ints) in
      let g = back (pos n -ℤ r) d in
      rw (e, f, g)

  pub past_half : test ≡ true → n ≤ 2 * nat_abs r
  past_half h = go r natural (sym test_is ∙ h)
    where
      go : (s : ℤ) → T (non_neg s) → lt_z (pos n -ℤ s) s ≡ true → n ≤ 2 * nat_abs s
      go (pos s) t k = grind (arith, ints)
      go (negsuc s) t k = absurd t

  pub up_to_half : test ≡ false → 2 * nat_abs r ≤ n
  up_to_half h = go r natural (sym test_is ∙ h)
    where
      go : (s : ℤ) → T (non_neg s) → lt_z (pos n -ℤ s) s ≡ false → 2 * nat_abs s ≤ n
      go (pos s) t k = grind (arith, ints)
      go (negsuc s) t k = absurd t

-- as the code returns it
module _ (z : ℤ) (n : ℕ) (q : ℤ) (b : nat_abs q ≤ 3 * 2 ^ 60) where
  abbrev Returned : ℤ → Type 0
  Returned r = record { value : Nearest z n r; bound : nat_abs r ≤ 2 ^ 62 }

  pub this : Nearest z n q → Returned (to_z w64 (of_z w64 q))
  this h = let e = back q (omega arith) in rw e (record { value = h; bound = omega (arith, b) })

  pub next : Nearest z n (q +ℤ pos 1) → Returned (to_z w64 (of_z w64 (to_z w64 (of_z w64 q) +ℤ pos 1)))
  next h =
      let e = back q (omega arith) in
      let d : nat_abs (q +ℤ pos 1) ≤ 2 ^ 62 = omega (arith, ints) in
      let f = back (q +ℤ pos 1) d in
      rw (e, f) (record { value = h; bound = d })
