-- The forms of the two planes, as the code computes them.
use Rattle.std.proofs.Common.{◌≡◌, [], ◌∷◌, ℤ, pos, negsuc, ◌+ℤ◌, ◌-ℤ◌, ◌*ℤ◌, sym, refl, ap, ◌∙◌, subst}
use Rattle.algebra.specs.Integers.{ℤ_ops}
use Rattle.algebra.specs.Quadratic.{Quad, norm_form}
use Rattle.algebra.proofs.Integers.{ℤ_ring}
use Rattle.algebra.proofs.Quote.{ring, quoteℤ}
use Rattle.planes.specs.declared.Plane.{Plane}
use Rattle.planes.specs.declared.Plane.TheVariants.{Square, Hexagonal}
use Rattle.planes.specs.Planes.{left_over, over, pair, trace}

square_identity : (x y : ℤ) → x *ℤ x +ℤ y *ℤ y ≡ norm_form ℤ_ops (negsuc 0) (pos 0) (pair x y)
square_identity x y = ring ℤ_ring (x ∷ y ∷ []) (λ k. search quoteℤ depth 9) (λ k. search quoteℤ depth 9) refl

hexagonal_identity : (x y : ℤ) → x *ℤ x +ℤ y *ℤ y -ℤ x *ℤ y ≡ norm_form ℤ_ops (negsuc 0) (negsuc 0) (pair x y)
hexagonal_identity x y = ring ℤ_ring (x ∷ y ∷ []) (λ k. search quoteℤ depth 9) (λ k. search quoteℤ depth 9) refl

module _ (p : Plane) (x y r : ℤ) where
  pub square_form : p ≡ Square → r ≡ x *ℤ x +ℤ y *ℤ y → r ≡ norm_form ℤ_ops (negsuc 0) (trace p) (pair x y)
  square_form e h = subst (λ (q : Plane). r ≡ norm_form ℤ_ops (negsuc 0) (trace q) (pair x y)) (sym e) (h ∙ square_identity x y)

  pub hexagonal_form : p ≡ Hexagonal → r ≡ x *ℤ x +ℤ y *ℤ y -ℤ x *ℤ y → r ≡ norm_form ℤ_ops (negsuc 0) (trace p) (pair x y)
  hexagonal_form e h = subst (λ (q : Plane). r ≡ norm_form ℤ_ops (negsuc 0) (trace q) (pair x y)) (sym e) (h ∙ hexagonal_identity x y)

-- a times the conjugate of b
module _ (p : Plane) (a b c d x y : ℤ) where
  pub square_over : p ≡ Square → x ≡ a *ℤ c +ℤ b *ℤ d → y ≡ b *ℤ c -ℤ a *ℤ d → pair x y ≡ over p (pair a b) (pair c d)
  square_over e h k = subst (λ (q : Plane). pair x y ≡ over q (pair a b) (pair c d)) (sym e) (λ i. pair ((h ∙ re) i) ((k ∙ im) i))
    where
      re : a *ℤ c +ℤ b *ℤ d ≡ (over Square (pair a b) (pair c d)).re
      re = ring ℤ_ring (a ∷ b ∷ c ∷ d ∷ []) (λ k. search quoteℤ depth 9 fits 3000) (λ k. search quoteℤ depth 9 fits 3000) refl

      im : b *ℤ c -ℤ a *ℤ d ≡ (over Square (pair a b) (pair c d)).im
      im = ring ℤ_ring (a ∷ b ∷ c ∷ d ∷ []) (λ k. search quoteℤ depth 9 fits 3000) (λ k. search quoteℤ depth 9 fits 3000) refl

  pub hexagonal_over : p ≡ Hexagonal → x ≡ a *ℤ c +ℤ b *ℤ d -ℤ a *ℤ d → y ≡ b *ℤ c -ℤ a *ℤ d → pair x y ≡ over p (pair a b) (pair c d)
  hexagonal_over e h k = subst (λ (q : Plane). pair x y ≡ over q (pair a b) (pair c d)) (sym e) (λ i. pair ((h ∙ re) i) ((k ∙ im) i))
    where
      re : a *ℤ c +ℤ b *ℤ d -ℤ a *ℤ d ≡ (over Hexagonal (pair a b) (pair c d)).re
      re = ring ℤ_ring (a ∷ b ∷ c ∷ d ∷ []) (λ k. search quoteℤ depth 9 fits 3000) (λ k. search quoteℤ depth 9 fits 3000) refl

      im : b *ℤ c -ℤ a *ℤ d ≡ (over Hexagonal (pair a b) (pair c d)).im
      im = ring ℤ_ring (a ∷ b ∷ c ∷ d ∷ []) (λ k. search quoteℤ depth 9 fits 3000) (λ k. search quoteℤ depth 9 fits 3000) refl

-- what is left of a without q times b: e is q.x·b.x − q.y·b.y, f the other coordinate
module _ (p : Plane) (a b c d q r e f : ℤ) where
  abbrev left : Quad ℤ
  left = left_over p (pair a b) (pair c d) (pair q r)

  product_re : e ≡ q *ℤ c -ℤ r *ℤ d → a -ℤ e ≡ left.re
  product_re h = ap (λ (v : ℤ). a -ℤ v) (h ∙ same)
    where
      same : q *ℤ c -ℤ r *ℤ d ≡ q *ℤ c +ℤ negsuc 0 *ℤ (r *ℤ d)
      same = ring ℤ_ring (q ∷ c ∷ r ∷ d ∷ []) (λ k. search quoteℤ depth 9) (λ k. search quoteℤ depth 9) refl

  pub square_left : p ≡ Square → e ≡ q *ℤ c -ℤ r *ℤ d → f ≡ q *ℤ d +ℤ r *ℤ c → pair (a -ℤ e) (b -ℤ f) ≡ left
  square_left h k l = λ i. pair (product_re k i) ((ap (λ (v : ℤ). b -ℤ v) (l ∙ same) ∙ ap (λ (s : Plane). (left_over s (pair a b) (pair c d) (pair q r)).im) (sym h)) i)
    where
      same : q *ℤ d +ℤ r *ℤ c ≡ q *ℤ d +ℤ r *ℤ c +ℤ pos 0 *ℤ (r *ℤ d)
      same = ring ℤ_ring (q ∷ c ∷ r ∷ d ∷ []) (λ k. search quoteℤ depth 9) (λ k. search quoteℤ depth 9) refl

  pub hexagonal_left : p ≡ Hexagonal → e ≡ q *ℤ c -ℤ r *ℤ d → f ≡ q *ℤ d +ℤ r *ℤ c -ℤ r *ℤ d → pair (a -ℤ e) (b -ℤ f) ≡ left
  hexagonal_left h k l = λ i. pair (product_re k i) ((ap (λ (v : ℤ). b -ℤ v) (l ∙ same) ∙ ap (λ (s : Plane). (left_over s (pair a b) (pair c d) (pair q r)).im) (sym h)) i)
    where
      same : q *ℤ d +ℤ r *ℤ c -ℤ r *ℤ d ≡ q *ℤ d +ℤ r *ℤ c +ℤ negsuc 0 *ℤ (r *ℤ d)
      same = ring ℤ_ring (q ∷ c ∷ r ∷ d ∷ []) (λ k. search quoteℤ depth 9) (λ k. search quoteℤ depth 9) refl
