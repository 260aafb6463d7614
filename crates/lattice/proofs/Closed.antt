-- A sublattice is closed under sums and multiples, so it is the least one that holds its columns.
use Rattle.std.proofs.Common.{◌≡◌, ℕ, zero, suc, List, [], ◌∷◌, sym, refl, ap, ◌∙◌, subst, ap₂}
use Rattle.algebra.specs.Ring.{CommRing, Ops}
use Rattle.algebra.specs.Euclidean.{Listed}
use Rattle.algebra.proofs.CommRing as Laws
use Rattle.algebra.proofs.Once.{none_some, some_same}
use Rattle.algebra.proofs.Quote.{quote, ring}
use Rattle.lattice.specs.Vectors.{Sublattice, Vec, combine, vadd, vscale, vzero}
use Rattle.lattice.proofs.Vectors.{cons, vadd-zero}

module _ {A : Type 0} {o : Ops A} (R : CommRing o) where
  vzero-add : (d : ℕ) (u : Vec A d) → vadd o d (vzero o d) u ≡ u
  vzero-add zero u = refl
  vzero-add (suc d) u = cons (Laws.zero-add R u.0) (vzero-add d u.1)

  vscale-zero : (d : ℕ) (q : A) → vscale o d q (vzero o d) ≡ vzero o d
  vscale-zero zero q = refl
  vscale-zero (suc d) q = cons (Laws.mul-zero R q) (vscale-zero d q)

  pub vscale-one : (d : ℕ) (u : Vec A d) → vscale o d o.one u ≡ u
  vscale-one zero u = refl
  vscale-one (suc d) u = cons (Laws.one-mul R u.0) (vscale-one d u.1)

  -- (p·u + s) + (q·u + t) = (p + q)·u + (s + t)
  add-columns : (d : ℕ) (p q : A) (u s t : Vec A d) → vadd o d (vadd o d (vscale o d p u) s) (vadd o d (vscale o d q u) t) ≡ vadd o d (vscale o d (o.add p q) u) (vadd o d s t)
  add-columns zero p q u s t = refl
  add-columns (suc d) p q u s t = cons (ring R (p ∷ q ∷ u.0 ∷ s.0 ∷ t.0 ∷ []) (λ k. search quote depth 9 fits 3000) (λ k. search quote depth 9 fits 3000) refl) (add-columns d p q u.1 s.1 t.1)

  scale_columns : (d : ℕ) (p q : A) (u s : Vec A d) → vscale o d p (vadd o d (vscale o d q u) s) ≡ vadd o d (vscale o d (o.mul p q) u) (vscale o d p s)
  scale_columns zero p q u s = refl
  scale_columns (suc d) p q u s = cons (ring R (p ∷ q ∷ u.0 ∷ s.0 ∷ []) (λ k. search quote depth 9) (λ k. search quote depth 9) refl) (scale_columns d p q u.1 s.1)

  combine-add : (d : ℕ) (ps qs : List A) (us : List (Vec A d)) → (rs : List A) × (vadd o d (combine o d ps us) (combine o d qs us) ≡ combine o d rs us)
  combine-add d [] qs us = (qs, vzero-add d (combine o d qs us))
  combine-add d (p ∷ ps) [] us = (p ∷ ps, vadd-zero R d (combine o d (p ∷ ps) us))
  combine-add d (p ∷ ps) (q ∷ qs) [] = ([], vadd-zero R d (vzero o d))
  combine-add d (p ∷ ps) (q ∷ qs) (u ∷ us) =
      let r = combine-add d ps qs us in
      (o.add p q ∷ r.0, add-columns d p q u (combine o d ps us) (combine o d qs us) ∙ ap (vadd o d (vscale o d (o.add p q) u)) r.1)

  combine_scale : (d : ℕ) (p : A) (qs : List A) (us : List (Vec A d)) → (rs : List A) × (vscale o d p (combine o d qs us) ≡ combine o d rs us)
  combine_scale d p [] us = ([], vscale-zero d p)
  combine_scale d p (q ∷ qs) [] = ([], vscale-zero d p)
  combine_scale d p (q ∷ qs) (u ∷ us) =
      let r = combine_scale d p qs us in
      (o.mul p q ∷ r.0, scale_columns d p q u (combine o d qs us) ∙ ap (vadd o d (vscale o d (o.mul p q) u)) r.1)

  module _ (d : ℕ) (us : List (Vec A d)) where
    pub sublattice_zero : Sublattice o d us (vzero o d)
    sublattice_zero = ([], refl)

    pub sublattice_add : (u v : Vec A d) → Sublattice o d us u → Sublattice o d us v → Sublattice o d us (vadd o d u v)
    sublattice_add u v a b = let r = combine-add d a.0 b.0 us in (r.0, ap₂ (vadd o d) a.1 b.1 ∙ r.1)

    pub sublattice_scale : (p : A) (u : Vec A d) → Sublattice o d us u → Sublattice o d us (vscale o d p u)
    sublattice_scale p u a = let r = combine_scale d p a.0 us in (r.0, ap (vscale o d p) a.1 ∙ r.1)

  pub column_in : (d : ℕ) (us : List (Vec A d)) (u : Vec A d) → Listed us u → Sublattice o d us u
  column_in d [] u l = none_some l.1
  column_in d (w ∷ ws) u (zero, h) = (o.one ∷ [], sym (vadd-zero R d (vscale o d o.one w) ∙ vscale-one d w ∙ some_same h))
  column_in d (w ∷ ws) u (suc i, h) = later (column_in d ws u (i, h))
    where
      later : Sublattice o d ws u → Sublattice o d (w ∷ ws) u
      later s = (o.zero ∷ s.0, s.1 ∙ sym (ap (λ (v : Vec A d). vadd o d v (combine o d s.0 ws)) (nothing d w) ∙ vzero-add d (combine o d s.0 ws)))
        where
          nothing : (k : ℕ) (v : Vec A k) → vscale o k o.zero v ≡ vzero o k
          nothing zero v = refl
          nothing (suc k) v = cons (Laws.zero-mul R v.0) (nothing k v.1)

  -- what holds the columns holds the sublattice
  pub sublattice_least : (d : ℕ) (us ws : List (Vec A d)) → ((u : Vec A d) → Listed us u → Sublattice o d ws u) → (v : Vec A d) → Sublattice o d us v → Sublattice o d ws v
  sublattice_least d us ws f v (qs, h) = subst (Sublattice o d ws) (sym h) (go us f qs)
    where
      go : (xs : List (Vec A d)) → ((u : Vec A d) → Listed xs u → Sublattice o d ws u) → (ps : List A) → Sublattice o d ws (combine o d ps xs)
      go xs g [] = sublattice_zero d ws
      go [] g (p ∷ ps) = sublattice_zero d ws
      go (x ∷ xs) g (p ∷ ps) =
          sublattice_add d ws (vscale o d p x) (combine o d ps xs) (sublattice_scale d ws p x (g x (0, refl))) (go xs (λ u l. g u (suc l.0, l.1)) ps)
