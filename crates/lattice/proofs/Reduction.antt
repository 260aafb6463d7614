-- Modulo a Hermite form every vector is congruent to exactly one reduced vector.
use Rattle.std.proofs.Common.{◌≡◌, ℕ, zero, suc, Some, sym, refl, ap, ◌∙◌, subst}
use Rattle.std.specs.List.{slice_get}
use Rattle.algebra.specs.Ring.{CommRing, Ops}
use Rattle.algebra.specs.Divisors.{sub}
use Rattle.algebra.specs.Euclidean.{Euclidean, EuclideanLaws, Listed}
use Rattle.algebra.proofs.Once.{some_same}
use Rattle.lattice.specs.Vectors.{Vec, vscale, vsub}
use Rattle.lattice.specs.Forms.{Form, Hermite, Reduced}
use Rattle.lattice.proofs.Domain.{factor_zero}
use Rattle.lattice.proofs.Members.{In}
use Rattle.lattice.proofs.Vectors.{cons, vsub_swap, vsub-zero_scale}

module _ {A : Type 0} {o : Ops A} (R : CommRing o) (e : Euclidean A) (L : EuclideanLaws o e) where
  pub reduced_exists : (d : ℕ) (h : Form A d) → Hermite o e d h → (v : Vec A d) → (r : Vec A d) × Reduced o e d h r × In R e d h (vsub o d v r)
  reduced_exists zero h H v = (tt, tt, tt)
  reduced_exists (suc d) h H v =
      let x = L.residue_exists h.0 H.0 v.0 in
      let q = x.2.0 in
      let s = reduced_exists d h.2 H.2 (vsub o d v.1 (vscale o d q h.1)) in
      ((x.0, s.0), (x.1, s.1), (q, x.2.1, subst (In R e d h.2) (vsub_swap R d v.1 s.0 h.1 q) s.2))

  -- two residues modulo m that differ by a multiple of m are equal
  same_residue : (m x y : A) → Listed (e.residues m) x → Listed (e.residues m) y → ((i j : ℕ) → slice_get (e.residues m) i ≡ Some x → slice_get (e.residues m) j ≡ Some y → i ≡ j) → x ≡ y
  same_residue m x y a b same = some_same (sym a.1 ∙ ap (slice_get (e.residues m)) (same a.0 b.0 a.1 b.1) ∙ b.1)

  pub reduced_unique : (d : ℕ) (h : Form A d) → Hermite o e d h → (u v : Vec A d) → Reduced o e d h u → Reduced o e d h v → In R e d h (vsub o d u v) → u ≡ v
  reduced_unique zero h H u v a b i = refl
  reduced_unique (suc d) h H u v a b i =
      let x : u.0 ≡ v.0 = same_residue h.0 u.0 v.0 a.0 b.0 (λ s t p q. L.residue_unique h.0 H.0 s t u.0 v.0 p q (i.0, i.1)) in
      let none : o.mul i.0 h.0 ≡ o.zero = sym i.1 ∙ ap (λ (y : A). sub o y v.0) x ∙ R.add-neg v.0 in
      let q = factor_zero R e L i.0 h.0 H.0.not_zero none in
      let rest : In R e d h.2 (vsub o d u.1 v.1) = subst (In R e d h.2) (ap (λ (y : A). vsub o d (vsub o d u.1 v.1) (vscale o d y h.1)) q ∙ vsub-zero_scale R d (vsub o d u.1 v.1) h.1) i.2 in
      cons x (reduced_unique d h.2 H.2 u.1 v.1 a.1 b.1 rest)
