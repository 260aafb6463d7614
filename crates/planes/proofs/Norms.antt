-- The norm of a plane: it is positive, multiplicative, and bounds the coordinates.
use Rattle.std.proofs.Common.{◌≡◌, ℕ, zero, suc, ◌+◌, ◌*◌, ◌≤◌, [], ◌∷◌, ℤ, pos, negsuc, ◌+ℤ◌, ◌-ℤ◌, ◌*ℤ◌, nat_abs, refl, ap, ◌∙◌, subst, ap₂, arith}
use Rattle.std.proofs.lemmas.Int.{ints, unsigned_abs-mul}
use Rattle.algebra.specs.Integers.{ℤ_ops}
use Rattle.algebra.specs.Quadratic.{Quad, quad_ops, conjugate, norm_form}
use Rattle.algebra.proofs.Integers.{ℤ_ring}
use Rattle.algebra.proofs.Quadratic.{quadratic}
use Rattle.algebra.proofs.Quote.{ring, quoteℤ}
use Rattle.algebra.proofs.Whole.{zero_from_unsigned_abs}
use Rattle.planes.specs.declared.Plane.{Plane}
use Rattle.planes.specs.declared.Plane.TheVariants.{Square, Hexagonal}
use Rattle.planes.specs.Planes.{norm, pair, span, trace}

abbrev pub form : Plane → Quad ℤ → ℤ
form p z = norm_form ℤ_ops (negsuc 0) (trace p) z

pub square_abs : (z : ℤ) → z *ℤ z ≡ pos (nat_abs z * nat_abs z)
square_abs (pos n) = refl
square_abs (negsuc n) = refl

-- 4 − t²
abbrev defect : Plane → ℕ
defect Square = 4
defect Hexagonal = 3

defect_is : (p : Plane) → pos 4 -ℤ trace p *ℤ trace p ≡ pos (defect p)
defect_is Square = refl
defect_is Hexagonal = refl

four_form : (t x y : ℤ) → pos 4 *ℤ norm_form ℤ_ops (negsuc 0) t (pair x y) ≡ (pos 2 *ℤ x +ℤ t *ℤ y) *ℤ (pos 2 *ℤ x +ℤ t *ℤ y) +ℤ (pos 4 -ℤ t *ℤ t) *ℤ (y *ℤ y)
four_form t x y = ring ℤ_ring (t ∷ x ∷ y ∷ []) (λ k. search quoteℤ depth 9) (λ k. search quoteℤ depth 9) refl

quarter : (z : ℤ) (k : ℕ) → pos 4 *ℤ z ≡ pos k → (z ≡ pos (nat_abs z)) × (4 * nat_abs z ≡ k)
quarter (pos n) k h = (refl, ap nat_abs h)
quarter (negsuc n) k h = absurd (omega (arith, ints, h))

at_most : (b n : ℕ) → 3 * (b * b) ≤ 4 * n → b ≤ n
at_most zero n h = omega arith
at_most (suc zero) n h = omega arith
at_most (suc (suc b)) n h = omega (arith, h)

-- since b² is at least 4b − 4
within_span : (b n : ℕ) → 3 * (b * b) ≤ 4 * n → b ≤ span n
within_span zero n h = omega arith
within_span (suc zero) n h = omega arith
within_span (suc (suc b)) n h = omega (arith, h)

module _ (p : Plane) (z : Quad ℤ) where
  lead : ℕ
  lead = nat_abs (pos 2 *ℤ z.re +ℤ trace p *ℤ z.im)

  four_norm : (form p z ≡ pos (norm p z)) × (4 * norm p z ≡ lead * lead + defect p * (nat_abs z.im * nat_abs z.im))
  unfolding lead
  four_norm =
      quarter (form p z) (lead * lead + defect p * (nat_abs z.im * nat_abs z.im))
      (four_form (trace p) z.re z.im ∙ ap₂ ◌+ℤ◌ (square_abs (pos 2 *ℤ z.re +ℤ trace p *ℤ z.im)) (ap₂ ◌*ℤ◌ (defect_is p) (square_abs z.im)))

  pub form_is_norm : form p z ≡ pos (norm p z)
  form_is_norm = four_norm.0

  three_squares : 3 * (nat_abs z.im * nat_abs z.im) ≤ 4 * norm p z
  three_squares = go p four_norm.1
    where
      go : (q : Plane) → 4 * norm p z ≡ lead * lead + defect q * (nat_abs z.im * nat_abs z.im) → 3 * (nat_abs z.im * nat_abs z.im) ≤ 4 * norm p z
      go Square h = omega (arith, h)
      go Hexagonal h = omega (arith, h)

  pub im_bound : nat_abs z.im ≤ norm p z
  im_bound = at_most (nat_abs z.im) (norm p z) three_squares

  pub im_span : nat_abs z.im ≤ span (norm p z)
  im_span = within_span (nat_abs z.im) (norm p z) three_squares

-- the form is the same with the coordinates exchanged
form_swap : (t x y : ℤ) → norm_form ℤ_ops (negsuc 0) t (pair x y) ≡ norm_form ℤ_ops (negsuc 0) t (pair y x)
form_swap t x y = ring ℤ_ring (t ∷ x ∷ y ∷ []) (λ k. search quoteℤ depth 9) (λ k. search quoteℤ depth 9) refl

module _ (p : Plane) (z : Quad ℤ) where
  pub re_bound : nat_abs z.re ≤ norm p z
  re_bound = subst (λ (n : ℕ). nat_abs z.re ≤ n) (ap nat_abs (form_swap (trace p) z.im z.re)) (im_bound p (pair z.im z.re))

  pub re_span : nat_abs z.re ≤ span (norm p z)
  re_span = subst (λ (n : ℕ). nat_abs z.re ≤ span n) (ap nat_abs (form_swap (trace p) z.im z.re)) (im_span p (pair z.im z.re))

  pub zero_from_norm : norm p z ≡ 0 → z ≡ pair (pos 0) (pos 0)
  zero_from_norm h = λ i. pair (zero_from_unsigned_abs z.re (omega (arith, re_bound, h)) i) (zero_from_unsigned_abs z.im (omega (arith, im_bound p z, h)) i)

pub norm-mul : (p : Plane) (z w : Quad ℤ) → norm p ((quad_ops ℤ_ops (negsuc 0) (trace p)).mul z w) ≡ norm p z * norm p w
norm-mul p z w = ap nat_abs ((quadratic ℤ_ring (negsuc 0) (trace p)).norm_form-mul z w) ∙ unsigned_abs-mul (form p z) (form p w)

-- z times its conjugate is its norm
pub mul-conjugate_is_norm : (p : Plane) (z : Quad ℤ) → (quad_ops ℤ_ops (negsuc 0) (trace p)).mul z (conjugate ℤ_ops (negsuc 0) (trace p) z) ≡ pair (pos (norm p z)) (pos 0)
mul-conjugate_is_norm p z = (quadratic ℤ_ring (negsuc 0) (trace p)).mul-conjugate z ∙ ap (λ (x : ℤ). pair x (pos 0)) (form_is_norm p z)

form-conjugate : (t x y : ℤ) → norm_form ℤ_ops (negsuc 0) t (conjugate ℤ_ops (negsuc 0) t (pair x y)) ≡ norm_form ℤ_ops (negsuc 0) t (pair x y)
form-conjugate t x y = ring ℤ_ring (t ∷ x ∷ y ∷ []) (λ k. search quoteℤ depth 9 fits 3000) (λ k. search quoteℤ depth 9) refl

pub norm-conjugate : (p : Plane) (z : Quad ℤ) → norm p (conjugate ℤ_ops (negsuc 0) (trace p) z) ≡ norm p z
norm-conjugate p z = ap nat_abs (form-conjugate (trace p) z.re z.im)
