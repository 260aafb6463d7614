-- Numbers of 128 bits.
use Rattle.std.proofs.Common.{◌≡◌, ◌*◌, ◌^◌, ◌≤◌, ℤ, ◌+ℤ◌, ◌-ℤ◌, ◌*ℤ◌, nat_abs, mul-le-mul, arith, w64, SFits, to_z, of_z}
use mir.Syntax.{w128}
use Rattle.std.proofs.lemmas.Int.{ints, to_z-of_z, unsigned_abs-mul}
use Rattle.ring.proofs.Limits.{back}

pub wide_fits : (z : ℤ) → nat_abs z ≤ 2 ^ 126 → SFits w128 z
wide_fits z h = omega (arith, ints)

pub wide_back : (z : ℤ) → nat_abs z ≤ 2 ^ 126 → to_z w128 (of_z w128 z) ≡ z
wide_back z h = to_z-of_z w128 z (wide_fits z h)

-- sums and differences as the code computes them
module _ (u v : ℤ) (p : nat_abs u ≤ 2 ^ 124) (q : nat_abs v ≤ 2 ^ 124) where
  eu : to_z w128 (of_z w128 u) ≡ u
  eu = wide_back u (omega arith)

  ev : to_z w128 (of_z w128 v) ≡ v
  ev = wide_back v (omega arith)

  pub wide_difference_fits : SFits w128 (to_z w128 (of_z w128 u) -ℤ to_z w128 (of_z w128 v))
  wide_difference_fits = rw (eu, ev) (wide_fits (u -ℤ v) (omega (arith, ints)))

  pub wide_difference : to_z w128 (of_z w128 (to_z w128 (of_z w128 u) -ℤ to_z w128 (of_z w128 v))) ≡ u -ℤ v
  wide_difference = rw (eu, ev) (wide_back (u -ℤ v) (omega (arith, ints)))

  pub wide_sum : to_z w128 (of_z w128 (to_z w128 (of_z w128 u) +ℤ to_z w128 (of_z w128 v))) ≡ u +ℤ v
  wide_sum = rw (eu, ev) (wide_back (u +ℤ v) (omega (arith, ints)))

  module _ (z : ℤ) (r : nat_abs z ≤ 2 ^ 124) where
    pub wide_sum_less_fits : SFits w128 (to_z w128 (of_z w128 (to_z w128 (of_z w128 u) +ℤ to_z w128 (of_z w128 v))) -ℤ to_z w128 (of_z w128 z))
    wide_sum_less_fits =
        let e = wide_back z (omega arith) in
        rw (wide_sum, e) (wide_fits (u +ℤ v -ℤ z) (omega (arith, ints)))

    pub wide_sum_less : to_z w128 (of_z w128 (to_z w128 (of_z w128 (to_z w128 (of_z w128 u) +ℤ to_z w128 (of_z w128 v))) -ℤ to_z w128 (of_z w128 z))) ≡ u +ℤ v -ℤ z
    wide_sum_less =
        let e = wide_back z (omega arith) in
        rw (wide_sum, e) (wide_back (u +ℤ v -ℤ z) (omega (arith, ints)))

-- a small difference fits 64 bits
pub narrowed : (u v : ℤ) → nat_abs u ≤ 2 ^ 62 → nat_abs v ≤ 3 * 2 ^ 124 → nat_abs (u -ℤ v) ≤ 2 ^ 62 → to_z w64 (of_z w64 (to_z w128 (of_z w128 (to_z w128 (of_z w128 u) -ℤ to_z w128 (of_z w128 v))))) ≡ u -ℤ v
narrowed u v p q r =
    let e = wide_back u (omega arith) in
    let f = wide_back v (omega arith) in
    let g = wide_back (u -ℤ v) (omega (arith, r)) in
    rw (e, f, g) (back (u -ℤ v) r)

-- a product of two numbers of 64 bits
module _ (a b : ℤ) (p : nat_abs a ≤ 2 ^ 62) (q : nat_abs b ≤ 2 ^ 62) where
  few : nat_abs (a *ℤ b) ≤ 2 ^ 124
  few = rw unsigned_abs-mul (mul-le-mul p q)

  pub wide_product_bound : nat_abs (to_z w128 (of_z w128 (to_z w128 (of_z w128 a) *ℤ to_z w128 (of_z w128 b)))) ≤ 2 ^ 124
  wide_product_bound =
      let e = wide_back a (omega arith) in
      let f = wide_back b (omega arith) in
      let g = wide_back (a *ℤ b) (omega (arith, few)) in
      rw (e, f, g) few
