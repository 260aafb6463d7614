-- The determinant of sums of columns is the determinant of the coefficients times that of the columns.
use Rattle.std.proofs.Common.{◌≡◌, [], ◌∷◌, refl}
use Rattle.algebra.specs.Ring.{CommRing, Ops}
use Rattle.algebra.proofs.Quote.{quote, ring}
use Rattle.lattice.specs.Vectors.{Vec, combine}
use Rattle.lattice.specs.Determinants.{det}

module _ {A : Type 0} {o : Ops A} (R : CommRing o) where
  pub det_one : (a : Vec A 1) (p : Vec A 1) → det o 1 (combine o 1 (p.0 ∷ []) (a ∷ []) ∷ []) ≡ o.mul (det o 1 (p ∷ [])) (det o 1 (a ∷ []))
  det_one a p = ring R (a.0 ∷ p.0 ∷ []) (λ k. search quote depth 20 fits 5000) (λ k. search quote depth 20 fits 5000) refl

  pub det_two : (a b : Vec A 2) (p q : Vec A 2) → det o 2 (combine o 2 (p.0 ∷ p.1.0 ∷ []) (a ∷ b ∷ []) ∷ combine o 2 (q.0 ∷ q.1.0 ∷ []) (a ∷ b ∷ []) ∷ []) ≡ o.mul (det o 2 (p ∷ q ∷ [])) (det o 2 (a ∷ b ∷ []))
  det_two a b p q = ring R (a.0 ∷ a.1.0 ∷ b.0 ∷ b.1.0 ∷ p.0 ∷ p.1.0 ∷ q.0 ∷ q.1.0 ∷ []) (λ k. search quote depth 40 fits 20000) (λ k. search quote depth 40 fits 20000) refl

  pub det_three : (a b c : Vec A 3) (p q r : Vec A 3) → det o 3 (combine o 3 (p.0 ∷ p.1.0 ∷ p.1.1.0 ∷ []) (a ∷ b ∷ c ∷ []) ∷ combine o 3 (q.0 ∷ q.1.0 ∷ q.1.1.0 ∷ []) (a ∷ b ∷ c ∷ []) ∷ combine o 3 (r.0 ∷ r.1.0 ∷ r.1.1.0 ∷ []) (a ∷ b ∷ c ∷ []) ∷ []) ≡ o.mul (det o 3 (p ∷ q ∷ r ∷ [])) (det o 3 (a ∷ b ∷ c ∷ []))
  det_three a b c p q r =
      ring R (a.0 ∷ a.1.0 ∷ a.1.1.0 ∷ b.0 ∷ b.1.0 ∷ b.1.1.0 ∷ c.0 ∷ c.1.0 ∷ c.1.1.0 ∷ p.0 ∷ p.1.0 ∷ p.1.1.0 ∷ q.0 ∷ q.1.0 ∷ q.1.1.0 ∷ r.0 ∷ r.1.0 ∷ r.1.1.0 ∷ []) (λ k. search quote depth 80 fits 100000) (λ k. search quote depth 80 fits 100000) refl
