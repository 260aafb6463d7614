-- The reduced vectors modulo a form: each stands once in the list, and there are index-many.
use Rattle.std.proofs.Common.{◌≡◌, ℕ, zero, suc, ◌*◌, map, length, sym, refl, ap, ◌∙◌, subst}
use Rattle.std.proofs.lemmas.List.{length-map}
use Rattle.algebra.specs.Ring.{CommRing, Ops}
use Rattle.algebra.specs.Euclidean.{Euclidean, EuclideanLaws, Listed, Modulus}
use Rattle.algebra.proofs.CommRing as Laws
use Rattle.algebra.proofs.Once.{Once, joined_listed, length_joined, listed_joined, Listed-map, map-Listed, none_some, once_from_places, once_joined, Once-map}
use Rattle.lattice.specs.Vectors.{Vec}
use Rattle.lattice.specs.Forms.{Form, Hermite, Reduced, index, sites}

module _ {A : Type 0} {o : Ops A} (R : CommRing o) (e : Euclidean A) (L : EuclideanLaws o e) where
  pub reduced_listed : (d : ℕ) (h : Form A d) (v : Vec A d) → Reduced o e d h v → Listed (sites o e d h) v
  reduced_listed zero h v r = (0, refl)
  reduced_listed (suc d) h v r =
      listed_joined (λ x. map (λ (u : Vec A d). (x, u)) (sites o e d h.2)) (e.residues h.0) v.0 v r.0 (Listed-map (λ (u : Vec A d). (v.0, u)) (sites o e d h.2) v.1 (reduced_listed d h.2 v.1 r.1))

  pub listed_reduced : (d : ℕ) (h : Form A d) (v : Vec A d) → Listed (sites o e d h) v → Reduced o e d h v
  listed_reduced zero h v l = tt
  listed_reduced (suc d) h v l =
      let j = joined_listed (λ x. map (λ (u : Vec A d). (x, u)) (sites o e d h.2)) (e.residues h.0) v l in
      let m = map-Listed (λ (u : Vec A d). (j.0, u)) (sites o e d h.2) v j.2 in
      (subst (Listed (e.residues h.0)) (ap (λ (w : Vec A (suc d)). w.0) m.2) j.1, listed_reduced d h.2 v.1 (subst (Listed (sites o e d h.2)) (ap (λ (w : Vec A (suc d)). w.1) m.2) m.1))

  -- the residues of a modulus stand once in their list
  residues_once : (m : A) → Modulus o e m → Once (e.residues m)
  residues_once m M = once_from_places (e.residues m) (λ i j x a b. L.residue_unique m M i j x x a b (o.zero, R.add-neg x ∙ zero_is))
    where
      zero_is : o.zero ≡ o.mul o.zero m
      zero_is = sym (Laws.zero-mul R m)

  pub sites_once : (d : ℕ) (h : Form A d) → Hermite o e d h → Once (sites o e d h)
  sites_once zero h H = ((λ l. none_some l.1), tt)
  sites_once (suc d) h H =
      once_joined (λ x. map (λ (u : Vec A d). (x, u)) (sites o e d h.2)) (e.residues h.0) (residues_once h.0 H.0) (λ x. Once-map (λ (u : Vec A d). (x, u)) (sites o e d h.2) (λ u v p. ap (λ (w : Vec A (suc d)). w.1) p) (sites_once d h.2 H.2)) (λ x z v a b. ap (λ (w : Vec A (suc d)). w.0) ((map-Listed (λ (u : Vec A d). (x, u)) (sites o e d h.2) v a).2 ∙ sym (map-Listed (λ (u : Vec A d). (z, u)) (sites o e d h.2) v b).2))

  pub sites_count : (d : ℕ) (h : Form A d) → Hermite o e d h → length (sites o e d h) ≡ index o e d h
  sites_count zero h H = refl
  sites_count (suc d) h H =
      length_joined (λ x. map (λ (u : Vec A d). (x, u)) (sites o e d h.2)) (e.residues h.0) (index o e d h.2) (λ x. length-map (sites o e d h.2) (λ (u : Vec A d). (x, u)) ∙ sites_count d h.2 H.2) ∙ ap (λ (n : ℕ). n * index o e d h.2) (L.residues_count h.0 H.0)
