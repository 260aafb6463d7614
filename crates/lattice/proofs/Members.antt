-- The vectors of a form by recursion: the first coordinate gives the multiple of the first column.
use Rattle.std.proofs.Common.{◌≡◌, ℕ, zero, suc, List, [], ◌∷◌, map, sym, refl, ap, ◌∙◌, subst}
use Rattle.algebra.specs.Ring.{CommRing, Ops}
use Rattle.algebra.specs.Euclidean.{Euclidean}
use Rattle.algebra.proofs.CommRing as Laws
use Rattle.lattice.specs.Vectors.{Vec, combine, vadd, vscale, vsub, vzero}
use Rattle.lattice.specs.Forms.{Form, Spanned, columns}
use Rattle.lattice.proofs.Vectors.{cons, vadd-vsub, vsub_from_sum, vsub-one_scale, vsub_self, vsub-zero_scale}

module _ {A : Type 0} {o : Ops A} (R : CommRing o) (e : Euclidean A) where
  abbrev pub In : (d : ℕ) → Form A d → Vec A d → Type 0
  In zero h v = Unit {0}
  In (suc d) h v = (q : A) × (v.0 ≡ o.mul q h.0) × In d h.2 (vsub o d v.1 (vscale o d q h.1))

  pub in_zero : (d : ℕ) (h : Form A d) → In d h (vzero o d)
  in_zero zero h = tt
  in_zero (suc d) h = (o.zero, sym (Laws.zero-mul R h.0), subst (In d h.2) (sym (vsub-zero_scale R d (vzero o d) h.1)) (in_zero d h.2))

  -- the first column
  pub in_first : (d : ℕ) (h : Form A (suc d)) → In (suc d) h (h.0, h.1)
  in_first d h =
      (o.one, sym (Laws.one-mul R h.0), subst (In d h.2) (sym (vsub-one_scale R d h.1 h.1 ∙ vsub_self R d h.1)) (in_zero d h.2))

  pub combine_below : (d : ℕ) (qs : List A) (us : List (Vec A d)) → combine o (suc d) qs (map (λ v. (o.zero, v)) us) ≡ (o.zero, combine o d qs us)
  combine_below d [] us = refl
  combine_below d (q ∷ qs) [] = refl
  combine_below d (q ∷ qs) (u ∷ us) =
      ap (vadd o (suc d) (vscale o (suc d) q (o.zero, u))) (combine_below d qs us) ∙ cons (R.add-zero (o.mul q o.zero) ∙ Laws.mul-zero R q) refl

  pub combine_first : (d : ℕ) (h : Form A (suc d)) (q : A) (qs : List A) → combine o (suc d) (q ∷ qs) (columns o e (suc d) h) ≡ (o.mul q h.0, vadd o d (vscale o d q h.1) (combine o d qs (columns o e d h.2)))
  combine_first d h q qs =
      ap (vadd o (suc d) (vscale o (suc d) q (h.0, h.1))) (combine_below d qs (columns o e d h.2)) ∙ cons (R.add-zero (o.mul q h.0)) refl

  pub spanned_from_in : (d : ℕ) (h : Form A d) (v : Vec A d) → In d h v → Spanned o e d h v
  spanned_from_in zero h v i = ([], refl)
  spanned_from_in (suc d) h v i =
      let s = spanned_from_in d h.2 (vsub o d v.1 (vscale o d i.0 h.1)) i.2 in
      (i.0 ∷ s.0, sym (combine_first d h i.0 s.0 ∙ cons (sym i.1) (ap (vadd o d (vscale o d i.0 h.1)) (sym s.1) ∙ vadd-vsub R d v.1 (vscale o d i.0 h.1))))

  pub in_from_spanned : (d : ℕ) (h : Form A d) (v : Vec A d) → Spanned o e d h v → In d h v
  in_from_spanned zero h v s = tt
  in_from_spanned (suc d) h v ([], f) = subst (In (suc d) h) (sym f) (in_zero (suc d) h)
  in_from_spanned (suc d) h v (q ∷ qs, f) =
      let g = f ∙ combine_first d h q qs in
      (q, ap (λ (u : Vec A (suc d)). u.0) g, in_from_spanned d h.2 (vsub o d v.1 (vscale o d q h.1)) (qs, ap (λ (u : Vec A (suc d)). vsub o d u.1 (vscale o d q h.1)) g ∙ vsub_from_sum R d (combine o d qs (columns o e d h.2)) (vscale o d q h.1)))
