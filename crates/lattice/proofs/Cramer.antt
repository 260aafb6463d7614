-- Cramer's rule: the determinant times any vector is a sum of the columns.
use Rattle.std.proofs.Common.{[], ◌∷◌, refl}
use Rattle.algebra.specs.Ring.{CommRing, Ops}
use Rattle.algebra.proofs.Quote.{quote, ring}
use Rattle.lattice.specs.Vectors.{Sublattice, Vec, vscale}
use Rattle.lattice.specs.Determinants.{det}
use Rattle.lattice.specs.Statements.{FullByDeterminant}
use Rattle.lattice.proofs.Vectors.{cons}

module _ {A : Type 0} {o : Ops A} (R : CommRing o) where
  pub cramer_one : (a v : Vec A 1) → Sublattice o 1 (a ∷ []) (vscale o 1 (det o 1 (a ∷ [])) v)
  cramer_one a v =
      (det o 1 (v ∷ []) ∷ [], cons (ring R (a.0 ∷ v.0 ∷ []) (λ k. search quote depth 20 fits 5000) (λ k. search quote depth 20 fits 5000) refl) refl)

  pub cramer_two : (a b v : Vec A 2) → Sublattice o 2 (a ∷ b ∷ []) (vscale o 2 (det o 2 (a ∷ b ∷ [])) v)
  cramer_two a b v =
      let env = a.0 ∷ a.1.0 ∷ b.0 ∷ b.1.0 ∷ v.0 ∷ v.1.0 ∷ [] in
      (det o 2 (v ∷ b ∷ []) ∷ det o 2 (a ∷ v ∷ []) ∷ [], cons (ring R env (λ k. search quote depth 20 fits 5000) (λ k. search quote depth 20 fits 5000) refl) (cons (ring R env (λ k. search quote depth 20 fits 5000) (λ k. search quote depth 20 fits 5000) refl) refl))

  pub cramer_three : (a b c v : Vec A 3) → Sublattice o 3 (a ∷ b ∷ c ∷ []) (vscale o 3 (det o 3 (a ∷ b ∷ c ∷ [])) v)
  cramer_three a b c v =
      let env = a.0 ∷ a.1.0 ∷ a.1.1.0 ∷ b.0 ∷ b.1.0 ∷ b.1.1.0 ∷ c.0 ∷ c.1.0 ∷ c.1.1.0 ∷ v.0 ∷ v.1.0 ∷ v.1.1.0 ∷ [] in
      (det o 3 (v ∷ b ∷ c ∷ []) ∷ det o 3 (a ∷ v ∷ c ∷ []) ∷ det o 3 (a ∷ b ∷ v ∷ []) ∷ [], cons (ring R env (λ k. search quote depth 40 fits 20000) (λ k. search quote depth 40 fits 20000) refl) (cons (ring R env (λ k. search quote depth 40 fits 20000) (λ k. search quote depth 40 fits 20000) refl) (cons (ring R env (λ k. search quote depth 40 fits 20000) (λ k. search quote depth 40 fits 20000) refl) refl)))

  pub full_by_determinant : FullByDeterminant o
  full_by_determinant = record {
    one = λ a n. (det o 1 (a ∷ []), n, cramer_one a);
    two = λ a b n. (det o 2 (a ∷ b ∷ []), n, cramer_two a b);
    three = λ a b c n. (det o 3 (a ∷ b ∷ c ∷ []), n, cramer_three a b c);
  }
