-- The canonical elements of norm 1 to 64, by one computed test over all these norms.
use Rattle.std.proofs.Common.{◌≡◌, ℕ, zero, suc, ◌≤◌, Bool, true, false, ◌&&◌, leb, List, [], ◌∷◌, length, ℤ, filter, sym, refl, ap, ◌∙◌, ap₂, ⊎_elim, true≢false, arith}
use Rattle.std.proofs.lemmas.Bool.{cases_eq}
use Rattle.algebra.specs.Quadratic.{Quad}
use Rattle.ring.specs.Elements.{same}
use Rattle.ring.proofs.Places.{both, same_true}
use Rattle.planes.specs.declared.Plane.{Plane}
use Rattle.planes.specs.declared.Plane.TheVariants.{Square, Hexagonal}
use Rattle.planes.specs.Planes.{axes, canonical, canonical_of, near}

abbrev all_upto : (ℕ → Bool) → ℕ → Bool
all_upto f zero = true
all_upto f (suc n) = f (suc n) && all_upto f n

upto : (f : ℕ → Bool) (m n : ℕ) → all_upto f m ≡ true → 1 ≤ n → n ≤ m → f n ≡ true
upto f zero n h k l = absurd (omega (arith, k, l))
upto f (suc m) n h k l =
    let b = both (f (suc m)) (all_upto f m) h in
    ⊎_elim (λ e. ap f e ∙ b.0) (λ d. upto f m n b.1 k (omega (arith, d, l))) (cases_eq n (suc m))

abbrev same_lists : Plane → List (Quad ℤ) → List (Quad ℤ) → Bool
same_lists p [] [] = true
same_lists p [] (y ∷ ys) = false
same_lists p (x ∷ xs) [] = false
same_lists p (x ∷ xs) (y ∷ ys) = same (axes p) x y && same_lists p xs ys

same_lists_true : (p : Plane) (xs ys : List (Quad ℤ)) → same_lists p xs ys ≡ true → xs ≡ ys
same_lists_true p [] [] h = refl
same_lists_true p [] (y ∷ ys) h = absurd (true≢false (sym h))
same_lists_true p (x ∷ xs) [] h = absurd (true≢false (sym h))
same_lists_true p (x ∷ xs) (y ∷ ys) h =
    let b = both (same (axes p) x y) (same_lists p xs ys) h in
    ap₂ ◌∷◌ (same_true (axes p) x y b.0) (same_lists_true p xs ys b.1)

abbrev test : Plane → ℕ → Bool
test p n = leb (length (canonical p n)) 8 && same_lists p (canonical p n) (filter (canonical_of p n) near)

computed : (p : Plane) → all_upto (test p) 64 ≡ true
unfolding near
computed Square = refl
computed Hexagonal = refl

module _ (p : Plane) (n : ℕ) (low : 1 ≤ n) (high : n ≤ 64) where
  passed : (leb (length (canonical p n)) 8 ≡ true) × (same_lists p (canonical p n) (filter (canonical_of p n) near) ≡ true)
  passed = both (leb (length (canonical p n)) 8) (same_lists p (canonical p n) (filter (canonical_of p n) near)) (upto (test p) 64 n (computed p) low high)

  pub few_canonical : length (canonical p n) ≤ 8
  few_canonical = let h = passed.0 in grind arith

  pub canonical_near : canonical p n ≡ filter (canonical_of p n) near
  canonical_near = same_lists_true p (canonical p n) (filter (canonical_of p n) near) passed.1
