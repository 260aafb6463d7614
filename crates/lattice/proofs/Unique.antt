-- Two Hermite forms with the same vectors are equal.
use Rattle.std.proofs.Common.{◌≡◌, ℕ, zero, suc, sym, refl, ap, ◌∙◌, subst}
use Rattle.algebra.specs.Ring.{CommRing, Ops}
use Rattle.algebra.specs.Euclidean.{Euclidean, EuclideanLaws}
use Rattle.algebra.proofs.CommRing as Laws
use Rattle.lattice.specs.Vectors.{Vec, vscale, vsub}
use Rattle.lattice.specs.Forms.{Form, Hermite, Reduced, Spanned}
use Rattle.lattice.proofs.Domain.{factor_one, factor_zero, modulus_unique}
use Rattle.lattice.proofs.Members.{In, in_first, in_from_spanned, spanned_from_in}
use Rattle.lattice.proofs.Reduction.{reduced_unique}
use Rattle.lattice.proofs.Vectors.{vsub-one_scale, vsub-zero_scale}

module _ {A : Type 0} {o : Ops A} (R : CommRing o) (e : Euclidean A) (L : EuclideanLaws o e) where
  abbrev Below : (d : ℕ) → Form A d → Form A d → Type 0
  Below d h k = (v : Vec A d) → In R e d h v → In R e d k v

  -- the vectors with first coordinate 0 are those of the smaller form
  pub in_below : (d : ℕ) (h : Form A (suc d)) (v : Vec A d) → In R e d h.2 v → In R e (suc d) h (o.zero, v)
  in_below d h v i = (o.zero, sym (Laws.zero-mul R h.0), subst (In R e d h.2) (sym (vsub-zero_scale R d v h.1)) i)

  below_in : (d : ℕ) (h : Form A (suc d)) → Hermite o e (suc d) h → (v : Vec A d) → In R e (suc d) h (o.zero, v) → In R e d h.2 v
  below_in d h H v i =
      let q = factor_zero R e L i.0 h.0 H.0.not_zero (sym i.1) in
      subst (In R e d h.2) (ap (λ (y : A). vsub o d v (vscale o d y h.1)) q ∙ vsub-zero_scale R d v h.1) i.2

  smaller : (d : ℕ) (h k : Form A (suc d)) → Hermite o e (suc d) k → Below (suc d) h k → Below d h.2 k.2
  smaller d h k K f v i = below_in d k K v (f (o.zero, v) (in_below d h v i))

  pub form_unique : (d : ℕ) (h k : Form A d) → Hermite o e d h → Hermite o e d k → Below d h k → Below d k h → h ≡ k
  form_unique zero h k H K f g = refl
  form_unique (suc d) h k H K f g =
      let a = f (h.0, h.1) (in_first R e d h) in
      let b = g (k.0, k.1) (in_first R e d k) in
      let m : h.0 ≡ k.0 = modulus_unique R e L h.0 k.0 H.0 K.0 (a.0, a.1) (b.0, b.1) in
      let rest : h.2 ≡ k.2 = form_unique d h.2 k.2 H.2 K.2 (smaller d h k K f) (smaller d k h H g) in
      let q : a.0 ≡ o.one = factor_one R e L a.0 k.0 K.0.not_zero (sym m ∙ a.1) in
      let apart : In R e d k.2 (vsub o d h.1 k.1) = subst (In R e d k.2) (ap (λ (y : A). vsub o d h.1 (vscale o d y k.1)) q ∙ vsub-one_scale R d h.1 k.1) a.2 in
      let c : h.1 ≡ k.1 = reduced_unique R e L d k.2 K.2 h.1 k.1 (subst (λ (j : Form A d). Reduced o e d j h.1) rest H.1) K.1 apart in
      λ i. (m i, c i, rest i)

  -- stated on the vectors
  pub hermite_unique : (d : ℕ) (h k : Form A d) → Hermite o e d h → Hermite o e d k → ((v : Vec A d) → Spanned o e d h v → Spanned o e d k v) → ((v : Vec A d) → Spanned o e d k v → Spanned o e d h v) → h ≡ k
  hermite_unique d h k H K f g =
      form_unique d h k H K (λ v i. in_from_spanned R e d k v (f v (spanned_from_in R e d h v i))) (λ v i. in_from_spanned R e d h v (g v (spanned_from_in R e d k v i)))
