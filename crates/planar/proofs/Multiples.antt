-- Euclid's algorithm on the second coordinates of two multiples of a modulus.
use Rattle.std.proofs.Common.{◌≡◌, ℕ, ◌+◌, ◌*◌, ◌/◌, ◌%◌, ◌<◌, true, [], ◌∷◌, ℤ, pos, negsuc, ◌+ℤ◌, ◌-ℤ◌, ◌*ℤ◌, neg_ℤ, nat_abs, sym, refl, ap, ◌∙◌, subst, ap₂, div-add-mod', arith}
use Rattle.std.proofs.lemmas.Int.{ints}
use Rattle.std.specs.Int.{int_div_euclid, int_rem_euclid}
use Rattle.algebra.specs.Ring.{CommRing, Ops}
use Rattle.algebra.specs.Divisors.{Divides, gcd, sub}
use Rattle.algebra.specs.Integers.{ℤ_ops}
use Rattle.algebra.specs.Quadratic.{Quad, conjugate}
use Rattle.algebra.proofs.Euclid.{divided}
use Rattle.algebra.proofs.Gcd.{gcd_step}
use Rattle.algebra.proofs.Integers.{ℤ_ring}
use Rattle.algebra.proofs.Quadratic.{quad_ring}
use Rattle.algebra.proofs.Quote.{quote, quoteℤ, ring}
use Rattle.ring.specs.declared.elements.Element.{Element}
use Rattle.planes.specs.declared.Plane.{Plane}
use Rattle.planes.specs.declared.Plane.TheVariants.{Square, Hexagonal}
use Rattle.planes.specs.Planes.{content, norm, pair, sector, trace}
use Rattle.planes.proofs.Division.{arithmetic}
use Rattle.planes.proofs.Norms.{mul-conjugate_is_norm}
use Rattle.planes.proofs.Sectors.{by_i, by_one, by_ω}
use Rattle.planar.specs.Rows.{Multiple, Multiples}

-- the coordinates of an element of the sector are natural
natural_y : (p : Plane) (x y : ℤ) → sector p (pair x y) ≡ true → pos (nat_abs y) ≡ y
natural_y Square x y s = grind (arith, ints)
natural_y Hexagonal x y s = grind (arith, ints)

natural_x : (x y : ℤ) → sector Square (pair x y) ≡ true → pos (nat_abs x) ≡ x
natural_x x y s = grind (arith, ints)

pub natural_difference : (x y : ℤ) → sector Hexagonal (pair x y) ≡ true → (pos (nat_abs (x -ℤ y)) ≡ x -ℤ y) × (nat_abs x ≡ 1 * nat_abs y + nat_abs (x -ℤ y))
natural_difference x y s = (grind (arith, ints), grind (arith, ints))

module _ (m : Element) where
  itself : (p : Plane) → sector p (pair m.x m.y) ≡ true → Multiple p m m.x (nat_abs m.y)
  itself p s = (pair (pos 1) (pos 0), (λ i. pair m.x (natural_y p m.x m.y s i)) ∙ by_one m.x m.y p)

  pub rows_square : sector Square (pair m.x m.y) ≡ true → Multiples Square m m.x (nat_abs m.y) (neg_ℤ m.y) (nat_abs m.x)
  rows_square s = record {
    first = itself Square s;
    second = (pair (pos 0) (pos 1), (λ i. pair (neg_ℤ m.y) (natural_x m.x m.y s i)) ∙ by_i m.x m.y);
    common = gcd_step (nat_abs m.x) (nat_abs m.y) 0 (nat_abs m.x) (omega arith);
  }

  pub rows_hexagonal : sector Hexagonal (pair m.x m.y) ≡ true → Multiples Hexagonal m m.x (nat_abs m.y) (neg_ℤ m.y) (nat_abs (m.x -ℤ m.y))
  rows_hexagonal s =
      let d = natural_difference m.x m.y s in
      record {
        first = itself Hexagonal s;
        second = (pair (pos 0) (pos 1), (λ i. pair (neg_ℤ m.y) (d.0 i)) ∙ by_ω m.x m.y);
        common = gcd_step (nat_abs m.x) (nat_abs m.y) 1 (nat_abs (m.x -ℤ m.y)) d.1;
      }

-- a − h·b − j·c of multiples of m is one
combined : {A : Type 0} {o : Ops A} (R : CommRing o) (m h j q r s : A) → sub o (sub o (o.mul q m) (o.mul h (o.mul r m))) (o.mul j (o.mul s m)) ≡ o.mul (sub o (sub o q (o.mul h r)) (o.mul j s)) m
combined R m h j q r s = ring R (m ∷ h ∷ j ∷ q ∷ r ∷ s ∷ []) (λ k. search quote depth 12 fits 3000) (λ k. search quote depth 12 fits 3000) refl

row_re : (x k u v j n r : ℤ) → x -ℤ k *ℤ u ≡ j *ℤ n +ℤ r → r ≡ x -ℤ (k *ℤ u +ℤ negsuc 0 *ℤ (pos 0 *ℤ v)) -ℤ (j *ℤ n +ℤ negsuc 0 *ℤ (pos 0 *ℤ pos 0))
row_re x k u v j n r h =
    let z : k *ℤ u +ℤ negsuc 0 *ℤ (pos 0 *ℤ v) ≡ k *ℤ u = ring ℤ_ring (k ∷ u ∷ v ∷ []) (λ k. search quoteℤ depth 9) (λ k. search quoteℤ depth 9) refl in
    let w : j *ℤ n +ℤ negsuc 0 *ℤ (pos 0 *ℤ pos 0) ≡ j *ℤ n = ring ℤ_ring (j ∷ n ∷ []) (λ k. search quoteℤ depth 9) (λ k. search quoteℤ depth 9) refl in
    rw (z, w) (omega (arith, ints, h))

row_im : (t y k u v j n r : ℤ) → y ≡ k *ℤ v +ℤ r → r ≡ y -ℤ (k *ℤ v +ℤ pos 0 *ℤ u +ℤ t *ℤ (pos 0 *ℤ v)) -ℤ (j *ℤ pos 0 +ℤ pos 0 *ℤ n +ℤ t *ℤ (pos 0 *ℤ pos 0))
row_im t y k u v j n r h =
    let z : k *ℤ v +ℤ pos 0 *ℤ u +ℤ t *ℤ (pos 0 *ℤ v) ≡ k *ℤ v = ring ℤ_ring (t ∷ k ∷ u ∷ v ∷ []) (λ k. search quoteℤ depth 9) (λ k. search quoteℤ depth 9) refl in
    let w : j *ℤ pos 0 +ℤ pos 0 *ℤ n +ℤ t *ℤ (pos 0 *ℤ pos 0) ≡ pos 0 = ring ℤ_ring (t ∷ j ∷ n ∷ []) (λ k. search quoteℤ depth 9) (λ k. search quoteℤ depth 9) refl in
    rw (z, w) (omega (arith, ints, h))

module _ (p : Plane) (m : Element) (x : ℤ) (y : ℕ) (u : ℤ) (v n : ℕ) (rows : Multiples p m x y u v) (some : 0 < v) (size : n ≡ norm p (pair m.x m.y)) (positive : 0 < n) (r : ℤ) (rest : r ≡ int_rem_euclid (x -ℤ pos (y / v) *ℤ u) (pos n)) where
  abbrev R : CommRing (arithmetic p)
  R = quad_ring ℤ_ring (negsuc 0) (trace p)

  abbrev z : Quad ℤ
  z = pair m.x m.y

  -- the norm is a multiple of m
  norm_multiple : Divides (arithmetic p) z (pair (pos n) (pos 0))
  norm_multiple =
      let c = conjugate ℤ_ops (negsuc 0) (trace p) z in
      (c, (λ i. pair (pos (size i)) (pos 0)) ∙ sym (mul-conjugate_is_norm p z) ∙ R.mul_comm z c)

  left : Multiple p m r (y % v)
  left =
      let k = pos (y / v) in
      let j = int_div_euclid (x -ℤ k *ℤ u) (pos n) in
      let h = pair k (pos 0) in
      let i = pair j (pos 0) in
      let a = rows.first in
      let b = rows.second in
      let c = norm_multiple in
      let sum : x -ℤ k *ℤ u ≡ j *ℤ pos n +ℤ r = divided (x -ℤ k *ℤ u) (pos n) positive ∙ ap (λ (s : ℤ). j *ℤ pos n +ℤ s) (sym rest) in
      let whole : pos y ≡ k *ℤ pos v +ℤ pos (y % v) = ap pos (sym (div-add-mod' y v)) in (
        sub (arithmetic p) (sub (arithmetic p) a.0 ((arithmetic p).mul h b.0)) ((arithmetic p).mul i c.0),
        (λ s. pair (row_re x k u (pos v) j (pos n) r sum s) (row_im (trace p) (pos y) k u (pos v) j (pos n) (pos (y % v)) whole s))
            ∙ ap₂ (λ (s t : Quad ℤ). sub (arithmetic p) (sub (arithmetic p) s ((arithmetic p).mul h t)) ((arithmetic p).mul i (pair (pos n) (pos 0)))) a.1 b.1
            ∙ ap (λ (s : Quad ℤ). sub (arithmetic p) (sub (arithmetic p) ((arithmetic p).mul a.0 z) ((arithmetic p).mul h ((arithmetic p).mul b.0 z))) ((arithmetic p).mul i s)) c.1
            ∙ combined R z h i a.0 b.0 c.0,
      )

  pub rows_more : Multiples p m u v r (y % v)
  rows_more =
      record {
        first = rows.second;
        second = left;
        common = gcd_step y v (y / v) (y % v) (sym (div-add-mod' y v)) ∙ rows.common;
      }

-- the same rows under other names
pub rows_same : (p q : Plane) (m : Element) (x x' : ℤ) (y y' : ℕ) (u u' : ℤ) (v v' : ℕ) → p ≡ q → x ≡ x' → y ≡ y' → u ≡ u' → v ≡ v' → Multiples q m x' y' u' v' → Multiples p m x y u v
rows_same p q m x x' y y' u u' v v' a b c d e rows =
    subst (λ (s : Plane). Multiples s m x y u v) (sym a) (subst (λ (s : ℤ). Multiples q m s y u v) (sym b) (subst (λ (s : ℕ). Multiples q m x' s u v) (sym c) (subst (λ (s : ℤ). Multiples q m x' y' s v) (sym d) (subst (λ (s : ℕ). Multiples q m x' y' u' s) (sym e) rows))))

-- where the second of two rows has no second coordinate, the first one's is the content
pub last_content : (p : Plane) (m : Element) (x : ℤ) (y : ℕ) (u : ℤ) (v : ℕ) → Multiples p m x y u v → v ≡ 0 → y ≡ content (pair m.x m.y)
last_content p m x y u v rows none = ap (gcd y) (sym none) ∙ rows.common
