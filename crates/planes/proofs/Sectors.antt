-- Each element but 0 has just one associate in the sector.
use Rattle.std.proofs.Common.{◌≡◌, ℕ, zero, suc, ◌+◌, ◌<◌, true, false, [], ◌∷◌, ℤ, pos, negsuc, ◌-ℤ◌, neg_ℤ, Some, None, sym, refl, ap, ◌∙◌, ap₂, inl, inr, ⊎_elim, arith, lit<, below_more}
use Rattle.std.proofs.lemmas.Int.{ints}
use Rattle.std.proofs.lemmas.Bool.{cases_Bool}
use Rattle.std.specs.List.{slice_get}
use Rattle.algebra.specs.Ring.{CommRing, Ops}
use Rattle.algebra.specs.Divisors.{Associate}
use Rattle.algebra.specs.Quadratic.{Quad}
use Rattle.algebra.proofs.Integers.{ℤ_ring}
use Rattle.algebra.proofs.Quadratic.{quad_ring}
use Rattle.algebra.proofs.Quote.{ring, quote, quoteℤ}
use Rattle.planes.specs.declared.Plane.{Plane}
use Rattle.planes.specs.declared.Plane.TheVariants.{Square, Hexagonal}
use Rattle.planes.specs.Planes.{Turned, norm, pair, sector, trace, turn, turns}
use Rattle.planes.proofs.Division.{arithmetic}
use Rattle.planes.proofs.Units.{norm-one, norm_unit, unit_from_norm, unit_listed, units}

pair_path : {a b c d : ℤ} → a ≡ b → c ≡ d → pair a c ≡ pair b d
pair_path e f = λ i. pair (e i) (f i)

-- the products by the units
module _ (x y : ℤ) where
  pub by_one : (p : Plane) → pair x y ≡ (arithmetic p).mul (pair (pos 1) (pos 0)) (pair x y)
  by_one Square = pair_path (ring ℤ_ring (x ∷ y ∷ []) (λ k. search quoteℤ depth 9) (λ k. search quoteℤ depth 9) refl) (ring ℤ_ring (x ∷ y ∷ []) (λ k. search quoteℤ depth 9) (λ k. search quoteℤ depth 9) refl)
  by_one Hexagonal = pair_path (ring ℤ_ring (x ∷ y ∷ []) (λ k. search quoteℤ depth 9) (λ k. search quoteℤ depth 9) refl) (ring ℤ_ring (x ∷ y ∷ []) (λ k. search quoteℤ depth 9) (λ k. search quoteℤ depth 9) refl)

  pub by_minus_one : (p : Plane) → pair (neg_ℤ x) (neg_ℤ y) ≡ (arithmetic p).mul (pair (negsuc 0) (pos 0)) (pair x y)
  by_minus_one Square = pair_path (ring ℤ_ring (x ∷ y ∷ []) (λ k. search quoteℤ depth 9) (λ k. search quoteℤ depth 9) refl) (ring ℤ_ring (x ∷ y ∷ []) (λ k. search quoteℤ depth 9) (λ k. search quoteℤ depth 9) refl)
  by_minus_one Hexagonal = pair_path (ring ℤ_ring (x ∷ y ∷ []) (λ k. search quoteℤ depth 9) (λ k. search quoteℤ depth 9) refl) (ring ℤ_ring (x ∷ y ∷ []) (λ k. search quoteℤ depth 9) (λ k. search quoteℤ depth 9) refl)

  pub by_i : pair (neg_ℤ y) x ≡ (arithmetic Square).mul (pair (pos 0) (pos 1)) (pair x y)
  by_i = pair_path (ring ℤ_ring (x ∷ y ∷ []) (λ k. search quoteℤ depth 9) (λ k. search quoteℤ depth 9) refl) (ring ℤ_ring (x ∷ y ∷ []) (λ k. search quoteℤ depth 9) (λ k. search quoteℤ depth 9) refl)

  pub by_minus_i : pair y (neg_ℤ x) ≡ (arithmetic Square).mul (pair (pos 0) (negsuc 0)) (pair x y)
  by_minus_i = pair_path (ring ℤ_ring (x ∷ y ∷ []) (λ k. search quoteℤ depth 9) (λ k. search quoteℤ depth 9) refl) (ring ℤ_ring (x ∷ y ∷ []) (λ k. search quoteℤ depth 9) (λ k. search quoteℤ depth 9) refl)

  pub by_ω : pair (neg_ℤ y) (x -ℤ y) ≡ (arithmetic Hexagonal).mul (pair (pos 0) (pos 1)) (pair x y)
  by_ω = pair_path (ring ℤ_ring (x ∷ y ∷ []) (λ k. search quoteℤ depth 9) (λ k. search quoteℤ depth 9) refl) (ring ℤ_ring (x ∷ y ∷ []) (λ k. search quoteℤ depth 9) (λ k. search quoteℤ depth 9) refl)

  pub by_minus_ω : pair y (y -ℤ x) ≡ (arithmetic Hexagonal).mul (pair (pos 0) (negsuc 0)) (pair x y)
  by_minus_ω = pair_path (ring ℤ_ring (x ∷ y ∷ []) (λ k. search quoteℤ depth 9) (λ k. search quoteℤ depth 9) refl) (ring ℤ_ring (x ∷ y ∷ []) (λ k. search quoteℤ depth 9) (λ k. search quoteℤ depth 9) refl)

  pub by_one_and_ω : pair (x -ℤ y) x ≡ (arithmetic Hexagonal).mul (pair (pos 1) (pos 1)) (pair x y)
  by_one_and_ω = pair_path (ring ℤ_ring (x ∷ y ∷ []) (λ k. search quoteℤ depth 9) (λ k. search quoteℤ depth 9) refl) (ring ℤ_ring (x ∷ y ∷ []) (λ k. search quoteℤ depth 9) (λ k. search quoteℤ depth 9) refl)

  pub by_ω_twice : pair (y -ℤ x) (neg_ℤ x) ≡ (arithmetic Hexagonal).mul (pair (negsuc 0) (negsuc 0)) (pair x y)
  by_ω_twice = pair_path (ring ℤ_ring (x ∷ y ∷ []) (λ k. search quoteℤ depth 9) (λ k. search quoteℤ depth 9) refl) (ring ℤ_ring (x ∷ y ∷ []) (λ k. search quoteℤ depth 9) (λ k. search quoteℤ depth 9) refl)

-- the unit u takes z to w
pub turned_by : (p : Plane) (u z w : Quad ℤ) → norm p u ≡ 1 → w ≡ (arithmetic p).mul u z → sector p w ≡ true → Turned p z w
turned_by p u z w n e s = record { associate = (u, unit_from_norm p u n, e); placed = inl s }

-- two elements of the sector are no proper associates
module _ (x y : ℤ) where
  abbrev In : (p : Plane) → ℤ → ℤ → Type 0
  In p u v = sector p (pair u v) ≡ true

  apart_minus : (p : Plane) → In p x y → In p (neg_ℤ x) (neg_ℤ y) → ⊥
  apart_minus Square h k = grind (arith, ints)
  apart_minus Hexagonal h k = grind (arith, ints)

  apart_i : In Square x y → In Square (neg_ℤ y) x → ⊥
  apart_i h k = grind (arith, ints)

  apart_minus_i : In Square x y → In Square y (neg_ℤ x) → ⊥
  apart_minus_i h k = grind (arith, ints)

  apart_ω : In Hexagonal x y → In Hexagonal (neg_ℤ y) (x -ℤ y) → ⊥
  apart_ω h k = grind (arith, ints)

  apart_minus_ω : In Hexagonal x y → In Hexagonal y (y -ℤ x) → ⊥
  apart_minus_ω h k = grind (arith, ints)

  apart_one_and_ω : In Hexagonal x y → In Hexagonal (x -ℤ y) x → ⊥
  apart_one_and_ω h k = grind (arith, ints)

  apart_ω_twice : In Hexagonal x y → In Hexagonal (y -ℤ x) (neg_ℤ x) → ⊥
  apart_ω_twice h k = grind (arith, ints)

only_one : (p : Plane) (i : ℕ) (u : Quad ℤ) (x y : ℤ) → slice_get (units p) i ≡ Some u → sector p (pair x y) ≡ true → sector p ((arithmetic p).mul u (pair x y)) ≡ true → u ≡ pair (pos 1) (pos 0)
only_one p i u x y h k l = go p i h k l
  where
    at : (q : Plane) (v w : Quad ℤ) → Some v ≡ Some u → w ≡ (arithmetic q).mul v (pair x y) → sector q ((arithmetic q).mul u (pair x y)) ≡ true → sector q w ≡ true
    at q v w e f s = ap (sector q) (f ∙ ap (λ (m : Quad ℤ). (arithmetic q).mul m (pair x y)) (some_same v u e)) ∙ s
      where
        some_same : (v u : Quad ℤ) → Some v ≡ Some u → v ≡ u
        some_same v u e = cc

    past : {X : Type 0} → None ≡ Some u → X
    past e = absurd (let z : ◌≡◌ {A = ℕ} 0 1 = cc in omega arith)

    go : (q : Plane) (j : ℕ) → slice_get (units q) j ≡ Some u → sector q (pair x y) ≡ true → sector q ((arithmetic q).mul u (pair x y)) ≡ true → u ≡ pair (pos 1) (pos 0)
    go Square zero e s t = cc
    go Square (suc zero) e s t = absurd (apart_minus x y Square s (at Square _ _ e (by_minus_one x y Square) t))
    go Square (suc (suc zero)) e s t = absurd (apart_i x y s (at Square _ _ e (by_i x y) t))
    go Square (suc (suc (suc zero))) e s t = absurd (apart_minus_i x y s (at Square _ _ e (by_minus_i x y) t))
    go Square (suc (suc (suc (suc j)))) e s t = past e
    go Hexagonal zero e s t = cc
    go Hexagonal (suc zero) e s t = absurd (apart_minus x y Hexagonal s (at Hexagonal _ _ e (by_minus_one x y Hexagonal) t))
    go Hexagonal (suc (suc zero)) e s t = absurd (apart_ω x y s (at Hexagonal _ _ e (by_ω x y) t))
    go Hexagonal (suc (suc (suc zero))) e s t = absurd (apart_minus_ω x y s (at Hexagonal _ _ e (by_minus_ω x y) t))
    go Hexagonal (suc (suc (suc (suc zero)))) e s t = absurd (apart_one_and_ω x y s (at Hexagonal _ _ e (by_one_and_ω x y) t))
    go Hexagonal (suc (suc (suc (suc (suc zero))))) e s t = absurd (apart_ω_twice x y s (at Hexagonal _ _ e (by_ω_twice x y) t))
    go Hexagonal (suc (suc (suc (suc (suc (suc j)))))) e s t = past e

pub sector_unique : (p : Plane) (a b : Quad ℤ) → sector p a ≡ true → sector p b ≡ true → Associate (arithmetic p) a b → a ≡ b
sector_unique p a b s t h =
    let u = h.0 in
    let l = unit_listed p u (norm_unit p u h.1) in
    let one = only_one p l.0 u a.re a.im l.1 s (ap (sector p) (sym h.2) ∙ t) in
    by_one a.re a.im p ∙ ap (λ (v : Quad ℤ). (arithmetic p).mul v a) (sym one) ∙ sym h.2

-- to turn once more
associate_more : {A : Type 0} {o : Ops A} (R : CommRing o) (z w v : A) → Associate o z w → Associate o w v → Associate o z v
associate_more {A} {o} R z w v h k =
    (o.mul k.0 h.0, (o.mul k.1.0 h.1.0, inverse R k.0 h.0 k.1.0 h.1.0 k.1.1 h.1.1), k.2 ∙ ap (o.mul k.0) h.2 ∙ sym (R.mul_assoc k.0 h.0 z))
  where
    shuffled : (a b c d : A) → o.mul (o.mul a b) (o.mul c d) ≡ o.mul (o.mul a c) (o.mul b d)
    shuffled a b c d = ring R (a ∷ b ∷ c ∷ d ∷ []) (λ k. search quote depth 9) (λ k. search quote depth 9) refl

    inverse : (S : CommRing o) (a b c d : A) → o.mul a c ≡ o.one → o.mul b d ≡ o.one → o.mul (o.mul a b) (o.mul c d) ≡ o.one
    inverse S a b c d e f = shuffled a b c d ∙ ap₂ o.mul e f ∙ S.mul-one o.one

turn_associate : (p : Plane) (z : Quad ℤ) → Associate (arithmetic p) z (turn p z)
turn_associate Square z = (pair (pos 0) (pos 1), unit_from_norm Square (pair (pos 0) (pos 1)) refl, by_i z.re z.im)
turn_associate Hexagonal z = (pair (pos 1) (pos 1), unit_from_norm Hexagonal (pair (pos 1) (pos 1)) refl, by_one_and_ω z.re z.im)

pub turns_associate : (p : Plane) (k : ℕ) (z : Quad ℤ) → Associate (arithmetic p) z (turns p k z)
turns_associate p zero z = (pair (pos 1) (pos 0), unit_from_norm p (pair (pos 1) (pos 0)) (norm-one p), by_one z.re z.im p)
turns_associate p (suc k) z =
    associate_more (quad_ring ℤ_ring (negsuc 0) (trace p)) z (turns p k z) (turn p (turns p k z)) (turns_associate p k z) (turn_associate p (turns p k z))

pub turned_there : (p : Plane) (k : ℕ) (z : Quad ℤ) → sector p (turns p k z) ≡ true → Turned p z (turns p k z)
turned_there p k z s = record { associate = turns_associate p k z; placed = inl s }

-- the turns, written out
turns_square : (z : Quad ℤ) → (turns Square 2 z ≡ pair (neg_ℤ z.re) (neg_ℤ z.im)) × (turns Square 3 z ≡ pair z.im (neg_ℤ z.re)) × (turns Square 5 z ≡ pair (neg_ℤ z.im) z.re)
turns_square z = (refl, pair_path (omega (arith, ints)) refl, pair_path (omega (arith, ints)) (omega (arith, ints)))

turns_hexagonal : (z : Quad ℤ) → (turns Hexagonal 2 z ≡ pair (neg_ℤ z.im) (z.re -ℤ z.im)) × (turns Hexagonal 3 z ≡ pair (neg_ℤ z.re) (neg_ℤ z.im)) × (turns Hexagonal 4 z ≡ pair (z.im -ℤ z.re) (neg_ℤ z.re)) × (turns Hexagonal 5 z ≡ pair z.im (z.im -ℤ z.re))
turns_hexagonal z = (
  pair_path (omega (arith, ints)) refl,
  pair_path (omega (arith, ints)) (omega (arith, ints)),
  pair_path (omega (arith, ints)) (omega (arith, ints)),
  pair_path (omega (arith, ints)) (omega (arith, ints)),
)

-- where no product by a unit lies in the sector, z is 0
none_square : (x y : ℤ) → sector Square (pair x y) ≡ false → sector Square (pair (neg_ℤ y) x) ≡ false → sector Square (pair (neg_ℤ x) (neg_ℤ y)) ≡ false → sector Square (pair y (neg_ℤ x)) ≡ false → (x ≡ pos 0) × (y ≡ pos 0)
none_square x y a b c d = (grind (arith, ints), grind (arith, ints))

none_hexagonal : (x y : ℤ) → sector Hexagonal (pair x y) ≡ false → sector Hexagonal (pair (x -ℤ y) x) ≡ false → sector Hexagonal (pair (neg_ℤ y) (x -ℤ y)) ≡ false → sector Hexagonal (pair (neg_ℤ x) (neg_ℤ y)) ≡ false → sector Hexagonal (pair (y -ℤ x) (neg_ℤ x)) ≡ false → sector Hexagonal (pair y (y -ℤ x)) ≡ false → (x ≡ pos 0) × (y ≡ pos 0)
none_hexagonal x y a b c d e f = (grind (arith, ints), grind (arith, ints))

turns_zero : (p : Plane) (k : ℕ) → turns p k (pair (pos 0) (pos 0)) ≡ pair (pos 0) (pos 0)
turns_zero p zero = refl
turns_zero p (suc k) = ap (turn p) (turns_zero p k) ∙ still p
  where
    still : (q : Plane) → turn q (pair (pos 0) (pos 0)) ≡ pair (pos 0) (pos 0)
    still Square = refl
    still Hexagonal = refl

-- where the first five lie outside the sector, the sixth lies in it or is 0
pub turned_last : (p : Plane) (z : Quad ℤ) → ((k : ℕ) → k < 5 → sector p (turns p k z) ≡ false) → Turned p z (turns p 5 z)
turned_last p z out = record {
  associate = turns_associate p 5 z;
  placed = ⊎_elim inl (λ f. inr (ap (turns p 5) (nought p out f) ∙ turns_zero p 5)) (cases_Bool (sector p (turns p 5 z)));
}
  where
    nought : (q : Plane) → ((k : ℕ) → k < 5 → sector q (turns q k z) ≡ false) → sector q (turns q 5 z) ≡ false → z ≡ pair (pos 0) (pos 0)
    nought Square o f =
        let t = turns_square z in
        let n = none_square z.re z.im (o 0 (lit< tt)) (o 1 (lit< tt)) (o 2 (lit< tt)) (ap (sector Square) (sym t.1) ∙ o 3 (lit< tt)) in
        pair_path n.0 n.1
    nought Hexagonal o f =
        let t = turns_hexagonal z in
        let n = none_hexagonal z.re z.im (o 0 (lit< tt)) (o 1 (lit< tt)) (ap (sector Hexagonal) (sym t.0) ∙ o 2 (lit< tt)) (ap (sector Hexagonal) (sym t.1) ∙ o 3 (lit< tt)) (ap (sector Hexagonal) (sym t.2) ∙ o 4 (lit< tt)) (ap (sector Hexagonal) (sym t.3) ∙ f) in
        pair_path n.0 n.1

-- the first of six turns that lies in the sector, or the last
first_turn : (p : Plane) (z : Quad ℤ) (todo done : ℕ) → done + todo ≡ 5 → ((k : ℕ) → k < done → sector p (turns p k z) ≡ false) → (w : Quad ℤ) × Turned p z w
first_turn p z zero done e out =
    (turns p 5 z, turned_last p z (λ k h. out k (omega (arith, h, e))))
first_turn p z (suc todo) done e out =
    ⊎_elim (λ s. (turns p done z, turned_there p done z s)) (λ f. first_turn p z todo (done + 1) (omega (arith, e)) (below_more _ _ out f)) (cases_Bool (sector p (turns p done z)))

pub sector_exists : (p : Plane) (z : Quad ℤ) → (w : Quad ℤ) × Turned p z w
sector_exists p z = first_turn p z 5 0 refl (λ k h. absurd (omega (arith, h)))
