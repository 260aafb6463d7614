-- Two elements are congruent exactly if their residues are equal.
use Rattle.std.proofs.Common.{◌≡◌, ℕ, Some, ap, ◌∙◌, subst, ap₂}
use Rattle.std.specs.List.{slice_get}
use Rattle.algebra.specs.Ring.{Ops, CommRing}
use Rattle.algebra.specs.Divisors.{Congruent, sub}
use Rattle.algebra.specs.Euclidean.{Euclidean, EuclideanLaws, Listed, Modulus}
use Rattle.ideal.proofs.Multiples.{through, less_multiples, around, three_multiples}

module _ {A : Type 0} {o : Ops A} (R : CommRing o) (m a b s t : A) (p : Congruent o m a s) (q : Congruent o m b t) where
  pub same_residue : s ≡ t → Congruent o m a b
  same_residue h = (sub o p.0 q.0, through R a b s ∙ ap₂ (sub o) p.1 (ap (sub o b) h ∙ q.1) ∙ less_multiples R p.0 q.0 m)

  residues_congruent : Congruent o m a b → Congruent o m s t
  residues_congruent h = (sub o (o.add h.0 q.0) p.0, around R a b s t ∙ ap₂ (sub o) (ap₂ o.add h.1 q.1) p.1 ∙ three_multiples R h.0 q.0 p.0 m)

  pub residues_same : (e : Euclidean A) → EuclideanLaws o e → Modulus o e m → Listed (e.residues m) s → Listed (e.residues m) t → Congruent o m a b → s ≡ t
  residues_same e l n f g h =
      let i = l.residue_unique m n f.0 g.0 s t f.1 g.1 (residues_congruent h) in
      let w : slice_get (e.residues m) g.0 ≡ Some s = subst (λ (j : ℕ). slice_get (e.residues m) j ≡ Some s) i f.1 in
      let v = g.1 in
      cc
