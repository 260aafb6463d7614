-- Euclid's algorithm on first coordinates: one column keeps a first coordinate, the others have 0 there.
use Rattle.std.proofs.Common.{◌≡◌, ℕ, zero, suc, ◌≤◌, List, [], ◌∷◌, map, sym, refl, ap, ◌∙◌, subst, ⊎_elim, arith}
use Rattle.std.proofs.lemmas.Bool.{cases_eq}
use Rattle.algebra.specs.Ring.{CommRing, Ops}
use Rattle.algebra.specs.Euclidean.{Euclidean, EuclideanLaws, Listed}
use Rattle.algebra.proofs.Once.{Listed-map, map-Listed, none_some, some_same}
use Rattle.algebra.proofs.Quote.{quote, ring}
use Rattle.lattice.specs.Vectors.{Sublattice, Vec, vadd, vscale, vzero}
use Rattle.lattice.proofs.Closed.{column_in, sublattice_add, sublattice_least, sublattice_scale, sublattice_zero}
use Rattle.lattice.proofs.Vectors.{cons}

module _ {A : Type 0} {o : Ops A} (R : CommRing o) (e : Euclidean A) (L : EuclideanLaws o e) where
  -- a vector with first coordinate 0
  abbrev pub below : (d : ℕ) → Vec A d → Vec A (suc d)
  below d v = (o.zero, v)

  -- a = (a − q·b) + q·b, as a multiple by −q is added
  restored : (d : ℕ) (q : A) (a b : Vec A d) → vadd o d (vadd o d a (vscale o d (o.neg q) b)) (vscale o d q b) ≡ a
  restored zero q a b = refl
  restored (suc d) q a b = cons (ring R (q ∷ a.0 ∷ b.0 ∷ []) (λ k. search quote depth 9) (λ k. search quote depth 9) refl) (restored d q a.1 b.1)

  less_multiple : (a q b r : A) → a ≡ o.add (o.mul q b) r → o.add a (o.mul (o.neg q) b) ≡ r
  less_multiple a q b r h = ap (λ (x : A). o.add x (o.mul (o.neg q) b)) h ∙ gone
    where
      gone : o.add (o.add (o.mul q b) r) (o.mul (o.neg q) b) ≡ r
      gone = ring R (q ∷ b ∷ r ∷ []) (λ k. search quote depth 9) (λ k. search quote depth 9) refl

  -- two columns with the same sublattice, the second with first coordinate 0
  pub record Cleared (d : ℕ) (a b : Vec A (suc d)) : Type 0 where
    pub first : Vec A (suc d)
    pub rest : Vec A d
    pub a_in : Sublattice o (suc d) (first ∷ below d rest ∷ []) a
    pub b_in : Sublattice o (suc d) (first ∷ below d rest ∷ []) b
    pub first_in : Sublattice o (suc d) (a ∷ b ∷ []) first
    pub rest_in : Sublattice o (suc d) (a ∷ b ∷ []) (below d rest)

  -- nothing to do
  clear_done : (d : ℕ) (a b : Vec A (suc d)) → b.0 ≡ o.zero → Cleared d a b
  clear_done d a b z =
      let same : b ≡ below d b.1 = cons z refl in
      record {
        first = a;
        rest = b.1;
        a_in = column_in R (suc d) (a ∷ below d b.1 ∷ []) a (0, refl);
        b_in = subst (Sublattice o (suc d) (a ∷ below d b.1 ∷ [])) (sym same) (column_in R (suc d) (a ∷ below d b.1 ∷ []) (below d b.1) (1, refl));
        first_in = column_in R (suc d) (a ∷ b ∷ []) a (0, refl);
        rest_in = subst (Sublattice o (suc d) (a ∷ b ∷ [])) same (column_in R (suc d) (a ∷ b ∷ []) b (1, refl));
      }

  pair_in : (d : ℕ) (a b : Vec A d) (ws : List (Vec A d)) → Sublattice o d ws a → Sublattice o d ws b → (u : Vec A d) → Listed (a ∷ b ∷ []) u → Sublattice o d ws u
  pair_in d a b ws s t u (zero, h) = subst (Sublattice o d ws) (some_same h) s
  pair_in d a b ws s t u (suc zero, h) = subst (Sublattice o d ws) (some_same h) t
  pair_in d a b ws s t u (suc (suc i), h) = none_some h

  -- one division
  clear_step : (d : ℕ) (q : A) (a b : Vec A (suc d)) → Cleared d b (vadd o (suc d) a (vscale o (suc d) (o.neg q) b)) → Cleared d a b
  clear_step d q a b c =
      let r = vadd o (suc d) a (vscale o (suc d) (o.neg q) b) in
      let ws = c.first ∷ below d c.rest ∷ [] in
      let old : (v : Vec A (suc d)) → Sublattice o (suc d) (b ∷ r ∷ []) v → Sublattice o (suc d) (a ∷ b ∷ []) v =
      sublattice_least R (suc d) (b ∷ r ∷ []) (a ∷ b ∷ []) (pair_in (suc d) b r (a ∷ b ∷ []) (column_in R (suc d) (a ∷ b ∷ []) b (1, refl)) (sublattice_add R (suc d) (a ∷ b ∷ []) a (vscale o (suc d) (o.neg q) b) (column_in R (suc d) (a ∷ b ∷ []) a (0, refl)) (sublattice_scale R (suc d) (a ∷ b ∷ []) (o.neg q) b (column_in R (suc d) (a ∷ b ∷ []) b (1, refl))))) in
      record {
        first = c.first;
        rest = c.rest;
        a_in = subst (Sublattice o (suc d) ws) (restored (suc d) q a b) (sublattice_add R (suc d) ws r (vscale o (suc d) q b) c.b_in (sublattice_scale R (suc d) ws q b c.a_in));
        b_in = c.a_in;
        first_in = old c.first c.first_in;
        rest_in = old (below d c.rest) c.rest_in;
      }

  divide : (fuel d : ℕ) (a b : Vec A (suc d)) → e.norm b.0 ≤ suc fuel → (e.norm b.0 ≡ 0 → ⊥) → ((x y : Vec A (suc d)) → e.norm y.0 ≤ fuel → Cleared d x y) → Cleared d a b
  divide fuel d a b h apart go =
      let D = L.division a.0 b.0 (λ z. apart (ap e.norm z ∙ L.norm-zero)) in
      let q = D.0 in
      let head : o.add a.0 (o.mul (o.neg q) b.0) ≡ D.1 = less_multiple a.0 q b.0 D.1 D.2.sum in
      let small : e.norm (o.add a.0 (o.mul (o.neg q) b.0)) ≤ fuel = subst (λ (x : A). e.norm x ≤ fuel) (sym head) (omega (arith, D.2.smaller, h)) in
      clear_step d q a b (go b (vadd o (suc d) a (vscale o (suc d) (o.neg q) b)) small)

  clear_within : (fuel d : ℕ) (a b : Vec A (suc d)) → e.norm b.0 ≤ fuel → Cleared d a b
  clear_within zero d a b h = clear_done d a b (L.zero_from_norm b.0 (omega (arith, h)))
  clear_within (suc fuel) d a b h =
      ⊎_elim (λ z. clear_done d a b (L.zero_from_norm b.0 z)) (λ apart. divide fuel d a b h apart (λ x y k. clear_within fuel d x y k)) (cases_eq (e.norm b.0) 0)

  clear : (d : ℕ) (a b : Vec A (suc d)) → Cleared d a b
  clear d a b = clear_within (e.norm b.0) d a b (omega arith)

  -- columns with the same sublattice, all but the first with first coordinate 0
  pub record Eliminated (d : ℕ) (us : List (Vec A (suc d))) : Type 0 where
    pub first : Vec A (suc d)
    pub rest : List (Vec A d)
    pub into : (u : Vec A (suc d)) → Listed us u → Sublattice o (suc d) (first ∷ map (below d) rest) u
    pub first_in : Sublattice o (suc d) us first
    pub rest_in : (v : Vec A d) → Listed rest v → Sublattice o (suc d) us (below d v)

  -- more columns, more sums
  widen : (d : ℕ) (w : Vec A d) (ws : List (Vec A d)) (v : Vec A d) → Sublattice o d ws v → Sublattice o d (w ∷ ws) v
  widen d w ws v s = sublattice_least R d ws (w ∷ ws) (λ u l. column_in R d (w ∷ ws) u (suc l.0, l.1)) v s

  pub eliminate : (d : ℕ) (us : List (Vec A (suc d))) → Eliminated d us
  eliminate d [] = record {
    first = vzero o (suc d);
    rest = [];
    into = λ u l. none_some l.1;
    first_in = sublattice_zero R (suc d) [];
    rest_in = λ v l. none_some l.1;
  }
  eliminate d (w ∷ ws) = joined_up d w ws (eliminate d ws)
    where
      joined_up : (d : ℕ) (w : Vec A (suc d)) (ws : List (Vec A (suc d))) → Eliminated d ws → Eliminated d (w ∷ ws)
      joined_up d w ws E =
          let C = clear d w E.first in
          let new = C.first ∷ below d C.rest ∷ map (below d) E.rest in
          let two : (v : Vec A (suc d)) → Sublattice o (suc d) (C.first ∷ below d C.rest ∷ []) v → Sublattice o (suc d) new v =
          sublattice_least R (suc d) (C.first ∷ below d C.rest ∷ []) new (pair_in (suc d) C.first (below d C.rest) new (column_in R (suc d) new C.first (0, refl)) (column_in R (suc d) new (below d C.rest) (1, refl))) in
          let old : (v : Vec A (suc d)) → Sublattice o (suc d) (w ∷ E.first ∷ []) v → Sublattice o (suc d) (w ∷ ws) v =
          sublattice_least R (suc d) (w ∷ E.first ∷ []) (w ∷ ws) (pair_in (suc d) w E.first (w ∷ ws) (column_in R (suc d) (w ∷ ws) w (0, refl)) (widen (suc d) w ws E.first E.first_in)) in
          record {
            first = C.first;
            rest = C.rest ∷ E.rest;
            into = each d w ws E new (two w C.a_in) (two E.first C.b_in) (λ v l. column_in R (suc d) new (below d v) (suc (suc (Listed-map (below d) E.rest v l).0), (Listed-map (below d) E.rest v l).1));
            first_in = old C.first C.first_in;
            rest_in = later d w ws E C.rest (old (below d C.rest) C.rest_in);
          }
        where
          each : (d : ℕ) (w : Vec A (suc d)) (ws : List (Vec A (suc d))) (E : Eliminated d ws) (new : List (Vec A (suc d))) → Sublattice o (suc d) new w → Sublattice o (suc d) new E.first → ((v : Vec A d) → Listed E.rest v → Sublattice o (suc d) new (below d v)) → (u : Vec A (suc d)) → Listed (w ∷ ws) u → Sublattice o (suc d) new u
          each d w ws E new s t f u (zero, h) = subst (Sublattice o (suc d) new) (some_same h) s
          each d w ws E new s t f u (suc i, h) =
              sublattice_least R (suc d) (E.first ∷ map (below d) E.rest) new (inside d w ws E new t f) u (E.into u (i, h))
            where
              inside : (d : ℕ) (w : Vec A (suc d)) (ws : List (Vec A (suc d))) (E : Eliminated d ws) (new : List (Vec A (suc d))) → Sublattice o (suc d) new E.first → ((v : Vec A d) → Listed E.rest v → Sublattice o (suc d) new (below d v)) → (x : Vec A (suc d)) → Listed (E.first ∷ map (below d) E.rest) x → Sublattice o (suc d) new x
              inside d w ws E new t f x (zero, h) = subst (Sublattice o (suc d) new) (some_same h) t
              inside d w ws E new t f x (suc i, h) = let m = map-Listed (below d) E.rest x (i, h) in subst (Sublattice o (suc d) new) m.2 (f m.0 m.1)

          later : (d : ℕ) (w : Vec A (suc d)) (ws : List (Vec A (suc d))) (E : Eliminated d ws) (r : Vec A d) → Sublattice o (suc d) (w ∷ ws) (below d r) → (v : Vec A d) → Listed (r ∷ E.rest) v → Sublattice o (suc d) (w ∷ ws) (below d v)
          later d w ws E r s v (zero, h) = subst (λ (x : Vec A d). Sublattice o (suc d) (w ∷ ws) (below d x)) (some_same h) s
          later d w ws E r s v (suc i, h) = widen (suc d) w ws (below d v) (E.rest_in v (i, h))
