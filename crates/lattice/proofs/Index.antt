-- The index of a form is the norm of the determinant of every matrix with its vectors.
use Rattle.std.proofs.Common.{◌≡◌, ℕ, zero, suc, ◌*◌, ◌≤◌, List, [], ◌∷◌, refl, ap, ◌∙◌, ap₂, arith}
use Rattle.algebra.specs.Ring.{CommRing, Ops}
use Rattle.algebra.specs.Divisors.{Divides}
use Rattle.algebra.specs.Euclidean.{Euclidean, EuclideanLaws}
use Rattle.algebra.proofs.CommRing as Laws
use Rattle.algebra.proofs.Quote.{quote, ring}
use Rattle.lattice.specs.Vectors.{Sublattice, Vec, combine, vadd, vscale, vzero}
use Rattle.lattice.specs.Determinants.{det}
use Rattle.lattice.specs.Forms.{Form, columns, index}
use Rattle.lattice.specs.Statements.{FormOf, IndexByDeterminant}
use Rattle.lattice.proofs.Vectors.{cons}
use Rattle.lattice.proofs.Closed.{column_in}
use Rattle.lattice.proofs.Multiplicative.{det_one, det_three, det_two}

multiple_least : (x y s t : ℕ) → x ≡ s * y → y ≡ t * x → x ≤ y
multiple_least x y s zero h k = let z : y ≡ 0 = omega arith in let e : s * y ≡ s * 0 = ap (λ n. s * n) z in omega arith
multiple_least x y s (suc t) h k = omega arith

module _ {A : Type 0} {o : Ops A} (R : CommRing o) where
  abbrev first : List A → A
  first [] = o.zero
  first (q ∷ qs) = q

  abbrev rest : List A → List A
  rest [] = []
  rest (q ∷ qs) = qs

  -- one coefficient for each column
  abbrev coefficients : (d : ℕ) → List A → List (Vec A d) → List A
  coefficients d qs [] = []
  coefficients d qs (u ∷ us) = first qs ∷ coefficients d (rest qs) us

  zero_column : (d : ℕ) (u : Vec A d) → vzero o d ≡ vadd o d (vscale o d o.zero u) (vzero o d)
  zero_column zero u = refl
  zero_column (suc d) u = cons (ring R (u.0 ∷ []) (λ k. search quote depth 9) (λ k. search quote depth 9) refl) (zero_column d u.1)

  combine_coefficients : (d : ℕ) (qs : List A) (us : List (Vec A d)) → combine o d qs us ≡ combine o d (coefficients d qs us) us
  combine_coefficients d [] [] = refl
  combine_coefficients d (q ∷ qs) [] = refl
  combine_coefficients d [] (u ∷ us) = zero_column d u ∙ ap (vadd o d (vscale o d o.zero u)) (combine_coefficients d [] us)
  combine_coefficients d (q ∷ qs) (u ∷ us) = ap (vadd o d (vscale o d q u)) (combine_coefficients d qs us)

  divides_one : (a x : Vec A 1) → Sublattice o 1 (a ∷ []) x → Divides o (det o 1 (a ∷ [])) (det o 1 (x ∷ []))
  divides_one a x (qs, h) =
      let p : Vec A 1 = (first qs, tt) in
      (det o 1 (p ∷ []), ap (λ u. det o 1 (u ∷ [])) (h ∙ combine_coefficients 1 qs (a ∷ [])) ∙ det_one R a p)

  divides_two : (a b x y : Vec A 2) → Sublattice o 2 (a ∷ b ∷ []) x → Sublattice o 2 (a ∷ b ∷ []) y → Divides o (det o 2 (a ∷ b ∷ [])) (det o 2 (x ∷ y ∷ []))
  divides_two a b x y (ps, h) (qs, k) =
      let p : Vec A 2 = (first ps, (first (rest ps), tt)) in
      let q : Vec A 2 = (first qs, (first (rest qs), tt)) in
      (det o 2 (p ∷ q ∷ []), ap₂ (λ u v. det o 2 (u ∷ v ∷ [])) (h ∙ combine_coefficients 2 ps (a ∷ b ∷ [])) (k ∙ combine_coefficients 2 qs (a ∷ b ∷ [])) ∙ det_two R a b p q)

  divides_three : (a b c x y z : Vec A 3) → Sublattice o 3 (a ∷ b ∷ c ∷ []) x → Sublattice o 3 (a ∷ b ∷ c ∷ []) y → Sublattice o 3 (a ∷ b ∷ c ∷ []) z → Divides o (det o 3 (a ∷ b ∷ c ∷ [])) (det o 3 (x ∷ y ∷ z ∷ []))
  divides_three a b c x y z (ps, h) (qs, k) (rs, l) =
      let us : List (Vec A 3) = a ∷ b ∷ c ∷ [] in
      let p : Vec A 3 = (first ps, (first (rest ps), (first (rest (rest ps)), tt))) in
      let q : Vec A 3 = (first qs, (first (rest qs), (first (rest (rest qs)), tt))) in
      let r : Vec A 3 = (first rs, (first (rest rs), (first (rest (rest rs)), tt))) in
      let hx = h ∙ combine_coefficients 3 ps us in
      let hy = k ∙ combine_coefficients 3 qs us in
      let hz = l ∙ combine_coefficients 3 rs us in
      (det o 3 (p ∷ q ∷ r ∷ []), (λ i. det o 3 (hx i ∷ hy i ∷ hz i ∷ [])) ∙ det_three R a b c p q r)

  module _ (e : Euclidean A) (L : EuclideanLaws o e) where
    norm_same : (x y : A) → Divides o x y → Divides o y x → e.norm x ≡ e.norm y
    norm_same x y (s, h) (t, k) =
        let a : e.norm y ≡ e.norm s * e.norm x = ap e.norm h ∙ L.norm-mul s x in
        let b : e.norm x ≡ e.norm t * e.norm y = ap e.norm k ∙ L.norm-mul t y in
        let c = multiple_least (e.norm x) (e.norm y) (e.norm t) (e.norm s) b a in
        let d = multiple_least (e.norm y) (e.norm x) (e.norm s) (e.norm t) a b in
        omega arith

    abbrev diagonal : (d : ℕ) → Form A d → A
    diagonal zero h = o.one
    diagonal (suc d) h = o.mul h.0 (diagonal d h.2)

    norm_diagonal : (d : ℕ) (h : Form A d) → e.norm (diagonal d h) ≡ index o e d h
    norm_diagonal zero h = L.norm_unit o.one (o.one, Laws.one-mul R o.one)
    norm_diagonal (suc d) h = L.norm-mul h.0 (diagonal d h.2) ∙ ap (λ n. e.norm h.0 * n) (norm_diagonal d h.2)

    det_form_one : (h : Form A 1) → det o 1 (columns o e 1 h) ≡ diagonal 1 h
    det_form_one h = ring R (h.0 ∷ []) (λ k. search quote depth 20 fits 5000) (λ k. search quote depth 20 fits 5000) refl

    det_form_two : (h : Form A 2) → det o 2 (columns o e 2 h) ≡ diagonal 2 h
    det_form_two h = ring R (h.0 ∷ h.1.0 ∷ h.2.0 ∷ []) (λ k. search quote depth 20 fits 5000) (λ k. search quote depth 20 fits 5000) refl

    det_form_three : (h : Form A 3) → det o 3 (columns o e 3 h) ≡ diagonal 3 h
    det_form_three h =
        ring R (h.0 ∷ h.1.0 ∷ h.1.1.0 ∷ h.2.0 ∷ h.2.1.0 ∷ h.2.2.0 ∷ []) (λ k. search quote depth 40 fits 20000) (λ k. search quote depth 40 fits 20000) refl

    index_one : (a : Vec A 1) (f : FormOf o e 1 (a ∷ [])) → e.norm (det o 1 (a ∷ [])) ≡ index o e 1 f.form
    index_one a f =
        let h = f.form in
        let ws = columns o e 1 h in
        let x : Vec A 1 = (h.0, tt) in
        norm_same (det o 1 (a ∷ [])) (det o 1 ws) (divides_one a x (f.only x (column_in R 1 ws x (0, refl)))) (divides_one x a (f.holds a (column_in R 1 (a ∷ []) a (0, refl)))) ∙ ap e.norm (det_form_one h) ∙ norm_diagonal 1 h

    index_two : (a b : Vec A 2) (f : FormOf o e 2 (a ∷ b ∷ [])) → e.norm (det o 2 (a ∷ b ∷ [])) ≡ index o e 2 f.form
    index_two a b f =
        let h = f.form in
        let us : List (Vec A 2) = a ∷ b ∷ [] in
        let ws = columns o e 2 h in
        let x : Vec A 2 = (h.0, h.1) in
        let y : Vec A 2 = (o.zero, (h.2.0, tt)) in
        norm_same (det o 2 us) (det o 2 ws) (divides_two a b x y (f.only x (column_in R 2 ws x (0, refl))) (f.only y (column_in R 2 ws y (1, refl)))) (divides_two x y a b (f.holds a (column_in R 2 us a (0, refl))) (f.holds b (column_in R 2 us b (1, refl)))) ∙ ap e.norm (det_form_two h) ∙ norm_diagonal 2 h

    index_three : (a b c : Vec A 3) (f : FormOf o e 3 (a ∷ b ∷ c ∷ [])) → e.norm (det o 3 (a ∷ b ∷ c ∷ [])) ≡ index o e 3 f.form
    index_three a b c f =
        let h = f.form in
        let us : List (Vec A 3) = a ∷ b ∷ c ∷ [] in
        let ws = columns o e 3 h in
        let x : Vec A 3 = (h.0, h.1) in
        let y : Vec A 3 = (o.zero, (h.2.0, h.2.1)) in
        let z : Vec A 3 = (o.zero, (o.zero, (h.2.2.0, tt))) in
        norm_same (det o 3 us) (det o 3 ws) (divides_three a b c x y z (f.only x (column_in R 3 ws x (0, refl))) (f.only y (column_in R 3 ws y (1, refl))) (f.only z (column_in R 3 ws z (2, refl)))) (divides_three x y z a b c (f.holds a (column_in R 3 us a (0, refl))) (f.holds b (column_in R 3 us b (1, refl))) (f.holds c (column_in R 3 us c (2, refl)))) ∙ ap e.norm (det_form_three h) ∙ norm_diagonal 3 h

    pub index_by_determinant : IndexByDeterminant o e
    index_by_determinant = record { one = index_one; two = index_two; three = index_three }
