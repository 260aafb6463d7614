-- Every sublattice of full rank has a Hermite form: clear the first row, go on below it, and reduce the first column.
use Rattle.std.proofs.Common.{◌≡◌, ℕ, zero, suc, List, [], ◌∷◌, map, sym, refl, ap, ◌∙◌, subst}
use Rattle.algebra.specs.Ring.{CommRing, Ops}
use Rattle.algebra.specs.Divisors.{Associate}
use Rattle.algebra.specs.Euclidean.{Canonical, Euclidean, EuclideanLaws, Listed, Modulus}
use Rattle.algebra.proofs.CommRing as Laws
use Rattle.algebra.proofs.Once.{map-Listed, some_same}
use Rattle.algebra.proofs.Quote.{quote, ring}
use Rattle.lattice.specs.Vectors.{Sublattice, Vec, combine, vadd, vscale, vsub, vzero}
use Rattle.lattice.specs.Forms.{Form, Reduced, Spanned, columns}
use Rattle.lattice.specs.Statements.{FormOf, Full}
use Rattle.lattice.proofs.Closed.{column_in, sublattice_add, sublattice_least, sublattice_scale}
use Rattle.lattice.proofs.Domain.{factor_zero}
use Rattle.lattice.proofs.Eliminate.{Eliminated, below, eliminate}
use Rattle.lattice.proofs.Members.{In, combine_below, in_from_spanned, spanned_from_in}
use Rattle.lattice.proofs.Reduction.{reduced_exists}
use Rattle.lattice.proofs.Unique.{in_below}
use Rattle.lattice.proofs.Vectors.{cons, vsub_from_sum, vsub-zero_scale}

module _ {A : Type 0} {o : Ops A} (R : CommRing o) (e : Euclidean A) (L : EuclideanLaws o e) where
  -- u·f − (u·f − c) = c
  taken_back : (d : ℕ) (x c : Vec A d) → vadd o d x (vscale o d (o.neg o.one) (vsub o d x c)) ≡ c
  taken_back zero x c = refl
  taken_back (suc d) x c = cons (ring R (x.0 ∷ c.0 ∷ []) (λ k. search quote depth 9) (λ k. search quote depth 9) refl) (taken_back d x.1 c.1)

  -- f − w·c = w·(u·f − c) where w·u = 1
  unit_back : (d : ℕ) (w u : A) (f c : Vec A d) → o.mul u w ≡ o.one → vsub o d f (vscale o d w c) ≡ vscale o d w (vsub o d (vscale o d u f) c)
  unit_back zero w u f c h = refl
  unit_back (suc d) w u f c h =
      cons (ap (λ (x : A). o.add x (o.neg (o.mul w c.0))) (sym (Laws.one-mul R f.0) ∙ ap (λ (x : A). o.mul x f.0) (sym h)) ∙ moved w u f.0 c.0) (unit_back d w u f.1 c.1 h)
    where
      moved : (w u f c : A) → o.add (o.mul (o.mul u w) f) (o.neg (o.mul w c)) ≡ o.mul w (o.add (o.mul u f) (o.neg c))
      moved w u f c = ring R (w ∷ u ∷ f ∷ c ∷ []) (λ k. search quote depth 9) (λ k. search quote depth 9) refl

  module _ (d : ℕ) (us : List (Vec A (suc d))) (E : Eliminated R e L d us) where
    abbrev new : List (Vec A (suc d))
    new = E.first ∷ map (below R e L d) E.rest

    into_new : (v : Vec A (suc d)) → Sublattice o (suc d) us v → Sublattice o (suc d) new v
    into_new = sublattice_least R (suc d) us new E.into

    -- what the other columns generate lies in the sublattice
    lifted : (v : Vec A d) → Sublattice o d E.rest v → Sublattice o (suc d) us (o.zero, v)
    lifted v s =
        sublattice_least R (suc d) (map (below R e L d) E.rest) us (λ u l. let m = map-Listed (below R e L d) E.rest u l in subst (Sublattice o (suc d) us) m.2 (E.rest_in m.0 m.1)) (o.zero, v) (s.0, ap (λ (x : Vec A d). (o.zero, x)) s.1 ∙ sym (combine_below R e d s.0 E.rest))

    -- the first coordinate of a vector tells how often it has the first column
    new_shape : (v : Vec A (suc d)) → Sublattice o (suc d) new v → (q : A) × (v.0 ≡ o.mul q E.first.0) × Sublattice o d E.rest (vsub o d v.1 (vscale o d q E.first.1))
    new_shape v ([], h) =
        (o.zero, ap (λ (x : Vec A (suc d)). x.0) h ∙ sym (Laws.zero-mul R E.first.0), ([], vsub-zero_scale R d v.1 E.first.1 ∙ ap (λ (x : Vec A (suc d)). x.1) h))
    new_shape v (q ∷ qs, h) =
        let g = h ∙ ap (vadd o (suc d) (vscale o (suc d) q E.first)) (combine_below R e d qs E.rest) in
        (q, ap (λ (x : Vec A (suc d)). x.0) g ∙ R.add-zero (o.mul q E.first.0), (qs, ap (λ (x : Vec A (suc d)). vsub o d x.1 (vscale o d q E.first.1)) g ∙ vsub_from_sum R d (combine o d qs E.rest) (vscale o d q E.first.1)))

    module _ (full : Full o (suc d) us) where
      -- by the vector with n in the first place
      head_not_zero : E.first.0 ≡ o.zero → ⊥
      head_not_zero z =
          let k = new_shape (vscale o (suc d) full.0 (o.one, vzero o d)) (into_new (vscale o (suc d) full.0 (o.one, vzero o d)) (full.2 (o.one, vzero o d))) in
          full.1 (sym (R.mul-one full.0) ∙ k.1 ∙ ap (o.mul k.0) z ∙ Laws.mul-zero R k.0)

      rest_full : Full o d E.rest
      rest_full = (full.0, full.1, λ v. each v (new_shape (vscale o (suc d) full.0 (o.zero, v)) (into_new (vscale o (suc d) full.0 (o.zero, v)) (full.2 (o.zero, v)))))
        where
          each : (v : Vec A d) → (q : A) × (o.mul full.0 o.zero ≡ o.mul q E.first.0) × Sublattice o d E.rest (vsub o d (vscale o d full.0 v) (vscale o d q E.first.1)) → Sublattice o d E.rest (vscale o d full.0 v)
          each v k =
              let q = factor_zero R e L k.0 E.first.0 head_not_zero (sym k.1 ∙ Laws.mul-zero R full.0) in
              subst (Sublattice o d E.rest) (ap (λ (y : A). vsub o d (vscale o d full.0 v) (vscale o d y E.first.1)) q ∙ vsub-zero_scale R d (vscale o d full.0 v) E.first.1) k.2

      -- with a form of the other columns, and the associate of the first coordinate
      module _ (F : FormOf o e d E.rest) where
        abbrev f0 : A
        f0 = E.first.0

        abbrev f1 : Vec A d
        f1 = E.first.1

        chosen : (c : A) × Associate o f0 c × Canonical e c
        chosen = L.canonical_associate f0

        abbrev m : A
        m = chosen.0

        abbrev u : A
        u = chosen.1.0

        abbrev w : A
        w = chosen.1.1.0

        unit : o.mul u w ≡ o.one
        unit = chosen.1.1.1

        head_is : f0 ≡ o.mul w m
        head_is = sym (Laws.one-mul R f0) ∙ ap (λ (x : A). o.mul x f0) (sym unit) ∙ turned u w f0 ∙ ap (o.mul w) (sym chosen.1.2)
          where
            turned : (u w f : A) → o.mul (o.mul u w) f ≡ o.mul w (o.mul u f)
            turned u w f = ring R (u ∷ w ∷ f ∷ []) (λ k. search quote depth 9) (λ k. search quote depth 9) refl

        modulus : Modulus o e m
        modulus = record { canonical = chosen.2; not_zero = λ z. head_not_zero (head_is ∙ ap (o.mul w) z ∙ Laws.mul-zero R w) }

        reduced : (r : Vec A d) × Reduced o e d F.form r × In R e d F.form (vsub o d (vscale o d u f1) r)
        reduced = reduced_exists R e L d F.form F.hermite (vscale o d u f1)

        abbrev c : Vec A d
        c = reduced.0

        abbrev h : Form A (suc d)
        h = (m, c, F.form)

        off : Sublattice o d (columns o e d F.form) (vsub o d (vscale o d u f1) c)
        off = spanned_from_in R e d F.form (vsub o d (vscale o d u f1) c) reduced.2

        first_column : Sublattice o (suc d) us (m, c)
        first_column =
            let x = vscale o (suc d) u E.first in
            let y = vscale o (suc d) (o.neg o.one) (o.zero, vsub o d (vscale o d u f1) c) in
            subst (Sublattice o (suc d) us) (cons (nothing (o.mul u f0) ∙ sym chosen.1.2) (taken_back d (vscale o d u f1) c)) (sublattice_add R (suc d) us x y (sublattice_scale R (suc d) us u E.first E.first_in) (sublattice_scale R (suc d) us (o.neg o.one) (o.zero, vsub o d (vscale o d u f1) c) (lifted (vsub o d (vscale o d u f1) c) (F.only (vsub o d (vscale o d u f1) c) off))))
          where
            nothing : (x : A) → o.add x (o.mul (o.neg o.one) o.zero) ≡ x
            nothing x = ring R (x ∷ []) (λ k. search quote depth 9) (λ k. search quote depth 9) refl

        column_of : (v : Vec A (suc d)) → Listed (columns o e (suc d) h) v → Sublattice o (suc d) us v
        column_of v (zero, k) = subst (Sublattice o (suc d) us) (some_same k) first_column
        column_of v (suc i, k) =
            let l = map-Listed (λ (x : Vec A d). (o.zero, x)) (columns o e d F.form) v (i, k) in
            subst (Sublattice o (suc d) us) l.2 (lifted l.0 (F.only l.0 (column_in R d (columns o e d F.form) l.0 l.1)))

        first_in_form : In R e (suc d) h E.first
        first_in_form =
            (w, head_is, subst (In R e d F.form) (sym (unit_back d w u f1 c unit)) (in_from_spanned R e d F.form (vscale o d w (vsub o d (vscale o d u f1) c)) (sublattice_scale R d (columns o e d F.form) w (vsub o d (vscale o d u f1) c) off)))

        new_in_form : (v : Vec A (suc d)) → Listed new v → Spanned o e (suc d) h v
        new_in_form v (zero, k) = subst (Spanned o e (suc d) h) (some_same k) (spanned_from_in R e (suc d) h E.first first_in_form)
        new_in_form v (suc i, k) =
            let l = map-Listed (below R e L d) E.rest v (i, k) in
            subst (Spanned o e (suc d) h) l.2 (spanned_from_in R e (suc d) h (o.zero, l.0) (in_below R e L d h l.0 (in_from_spanned R e d F.form l.0 (F.holds l.0 (column_in R d E.rest l.0 l.1)))))

        next_form : FormOf o e (suc d) us
        next_form = record {
          form = h;
          hermite = (modulus, reduced.1, F.hermite);
          holds = λ v s. sublattice_least R (suc d) new (columns o e (suc d) h) new_in_form v (into_new v s);
          only = sublattice_least R (suc d) (columns o e (suc d) h) us column_of;
        }

  pub form_exists : (d : ℕ) (us : List (Vec A d)) → Full o d us → FormOf o e d us
  form_exists zero us full = record { form = tt; hermite = tt; holds = λ v s. ([], refl); only = λ v s. ([], refl) }
  form_exists (suc d) us full =
      let E = eliminate R e L d us in
      next_form d us E full (form_exists d E.rest (rest_full d us E full))
