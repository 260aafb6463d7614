-- Euclid's algorithm on natural numbers: the last divisor divides both, and is a sum of multiples of both.
use Rattle.std.proofs.Common.{◌≡◌, ℕ, zero, suc, ◌+◌, ◌*◌, ◌/◌, ◌%◌, ◌<◌, ◌≤◌, [], ◌∷◌, ℤ, pos, ◌+ℤ◌, ◌-ℤ◌, ◌*ℤ◌, nat_abs, sym, refl, ap, ◌∙◌, subst, ap₂, mod-lt, mul-zero, zero-mul, arith}
use Rattle.algebra.specs.Divisors.{gcd, gcd_within}
use Rattle.algebra.specs.Statements.{IsGcd}
use Rattle.algebra.proofs.Integers.{ℤ_ring}
use Rattle.algebra.proofs.Quote.{ring, quoteℤ}
use Rattle.std.proofs.lemmas.Int.{unsigned_abs-mul}

one_times : (z : ℤ) → z ≡ pos 1 *ℤ z
one_times z = ring ℤ_ring (z ∷ []) (λ k. search quoteℤ) (λ k. search quoteℤ) refl

zero_times : (z : ℤ) → pos 0 ≡ pos 0 *ℤ z
zero_times z = ring ℤ_ring (z ∷ []) (λ k. search quoteℤ) (λ k. search quoteℤ) refl

one_and_none : (z : ℤ) → z ≡ pos 1 *ℤ z +ℤ pos 0 *ℤ pos 0
one_and_none z = ring ℤ_ring (z ∷ []) (λ k. search quoteℤ) (λ k. search quoteℤ) refl

multiples_add : (q x y g : ℤ) → q *ℤ (x *ℤ g) +ℤ y *ℤ g ≡ (q *ℤ x +ℤ y) *ℤ g
multiples_add q x y g = ring ℤ_ring (q ∷ x ∷ y ∷ g ∷ []) (λ k. search quoteℤ) (λ k. search quoteℤ) refl

combination_moves : (u v q b r : ℤ) → u *ℤ b +ℤ v *ℤ r ≡ v *ℤ (q *ℤ b +ℤ r) +ℤ (u -ℤ v *ℤ q) *ℤ b
combination_moves u v q b r = ring ℤ_ring (u ∷ v ∷ q ∷ b ∷ r ∷ []) (λ k. search quoteℤ depth 9) (λ k. search quoteℤ depth 9) refl

gcd-zero : (a : ℕ) → IsGcd a 0 a
gcd-zero a = record {
  divides_left = (pos 1, one_times (pos a));
  divides_right = (pos 0, zero_times (pos a));
  combination = (pos 1, pos 0, one_and_none (pos a));
}

-- one division: a = q·b + r
gcd_divided : (a b q r g : ℕ) → a ≡ q * b + r → IsGcd b r g → IsGcd a b g
gcd_divided a b q r g e i =
    let x = i.divides_left.0 in
    let y = i.divides_right.0 in
    let u = i.combination.0 in
    let v = i.combination.1 in
    let whole : pos a ≡ pos q *ℤ pos b +ℤ pos r = ap pos e in
    record {
      divides_left = (pos q *ℤ x +ℤ y, whole ∙ ap₂ (λ (s t : ℤ). pos q *ℤ s +ℤ t) i.divides_left.1 i.divides_right.1 ∙ multiples_add (pos q) x y (pos g));
      divides_right = (x, i.divides_left.1);
      combination = (v, u -ℤ v *ℤ pos q, i.combination.2 ∙ combination_moves u v (pos q) (pos b) (pos r) ∙ ap (λ (t : ℤ). v *ℤ t +ℤ (u -ℤ v *ℤ pos q) *ℤ pos b) (sym whole));
    }

gcd_within_is : (fuel a b : ℕ) → b ≤ fuel → IsGcd a b (gcd_within fuel a b)
gcd_within_is zero a b h = let e : b ≡ 0 = omega arith in subst (λ n. IsGcd a n a) (sym e) (gcd-zero a)
gcd_within_is (suc fuel) a zero h = gcd-zero a
gcd_within_is (suc fuel) a (suc b) h =
    let small : a % suc b < suc b = mod-lt a (omega arith) in
    gcd_divided a (suc b) (a / suc b) (a % suc b) (gcd_within fuel (suc b) (a % suc b)) (omega arith) (gcd_within_is fuel (suc b) (a % suc b) (omega arith))

pub gcd_is : (m n : ℕ) → IsGcd m n (gcd m n)
gcd_is m n = gcd_within_is n m n (omega arith)

-- a common divisor divides every combination
divides_combination : (g a b u v x y : ℤ) → a ≡ x *ℤ g → b ≡ y *ℤ g → u *ℤ a +ℤ v *ℤ b ≡ (u *ℤ x +ℤ v *ℤ y) *ℤ g
divides_combination g a b u v x y h k =
    ap₂ (λ (s t : ℤ). u *ℤ s +ℤ v *ℤ t) h k ∙ ring ℤ_ring (g ∷ u ∷ v ∷ x ∷ y ∷ []) (λ k. search quoteℤ depth 9) (λ k. search quoteℤ depth 9) refl

gcd_divides : (m n g h : ℕ) → IsGcd m n g → IsGcd m n h → (k : ℕ) × (h ≡ k * g)
gcd_divides m n g h i j =
    let c = j.combination in
    let k = c.0 *ℤ i.divides_left.0 +ℤ c.1 *ℤ i.divides_right.0 in
    (nat_abs k, ap nat_abs (c.2 ∙ divides_combination (pos g) (pos m) (pos n) c.0 c.1 i.divides_left.0 i.divides_right.0 i.divides_left.1 i.divides_right.1) ∙ unsigned_abs-mul k (pos g))

both_divide : (g h j k : ℕ) → h ≡ k * g → g ≡ j * h → g ≡ h
both_divide g h j zero e f = let z : j * h ≡ 0 = ap (λ (n : ℕ). j * n) (e ∙ zero-mul g) ∙ mul-zero j in omega (arith, e, f, z, zero-mul g)
both_divide g h j (suc zero) e f = omega (arith, e)
both_divide zero h j (suc (suc k)) e f = omega (arith, e)
both_divide (suc g) h zero (suc (suc k)) e f = absurd (omega (arith, f, zero-mul h))
both_divide (suc g) h (suc j) (suc (suc k)) e f =
    let s : h ≤ suc j * h = omega arith in
    absurd (omega (arith, e, f, s))

-- there is only one
pub gcd_unique : (m n g h : ℕ) → IsGcd m n g → IsGcd m n h → g ≡ h
gcd_unique m n g h i j =
    let k = gcd_divides m n g h i j in
    let l = gcd_divides m n h g j i in
    both_divide g h l.0 k.0 k.1 l.1

-- to divide leaves it as it is
pub gcd_step : (a b q r : ℕ) → a ≡ q * b + r → gcd b r ≡ gcd a b
gcd_step a b q r e = gcd_unique a b (gcd b r) (gcd a b) (gcd_divided a b q r (gcd b r) e (gcd_is b r)) (gcd_is a b)
