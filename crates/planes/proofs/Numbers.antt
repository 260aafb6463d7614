-- The number of a canonical element is the count of the points before it that have its norm.
use Rattle.std.proofs.Common.{◌≡◌, ℕ, suc, ◌+◌, ◌-◌, ◌*◌, ◌/◌, ◌%◌, ◌<◌, ◌≤◌, Bool, true, false, cond, ◌&&◌, leb, length, take, ℤ, pos, nat_abs, ◌≤ℤ◌, Some, None, Ok, filter, Option, Result, sym, refl, ap, ◌∙◌, subst, ap₂, ⊎_elim, true≢false, arith, lit≤}
use Rattle.std.proofs.lemmas.Int.{ints}
use Rattle.std.proofs.lemmas.Bool.{cases_lt}
use Rattle.std.specs.List.{slice_get}
use Rattle.std.specs.Option.{option_map, ok_or}
use Rattle.refusal.specs.declared.Cause.TheVariants.{Index, Outside}
use Rattle.refusal.specs.declared.Refusal.{Refusal}
use Rattle.refusal.specs.Numbers.{refuse, refused, then}
use Rattle.ring.specs.declared.elements.Element.{Element}
use Rattle.ring.specs.Elements.{element, same}
use Rattle.ring.specs.Answers.{canonical_element_answer, canonical_place, count_answer, norm_of}
use Rattle.ring.proofs.Places.{place_none, place_nth, same_refl, same_true}
use Rattle.algebra.specs.Euclidean.{Listed}
use Rattle.algebra.specs.Quadratic.{Quad}
use Rattle.algebra.proofs.Once.{listed_kept, map_counting_listed}
use Rattle.planes.specs.declared.Plane.{Plane}
use Rattle.planes.specs.Planes.{axes, canonical, canonical_of, near, norm, pair, plane, point, sector}
use Rattle.planes.proofs.Canonical.{canonical_once, listed_sector, norm_nought, point_at, sector_listed, sector_positive, test_passes}
use Rattle.planes.proofs.Points.{all_points, found_at}
use Rattle.planes.proofs.Tables.{canonical_near}

-- within the points: x from 1 to 9, y from 0 to 8
pub record Near (z : Quad ℤ) : Type 0 where
  pub x_low : pos 1 ≤ℤ z.re
  pub x_high : z.re ≤ℤ pos 9
  pub y_low : pos 0 ≤ℤ z.im
  pub y_high : z.im ≤ℤ pos 8
  pub is_point : point 9 (nat_abs z.im * 9 + (nat_abs z.re - 1)) ≡ z
  pub inside : nat_abs z.im * 9 + (nat_abs z.re - 1) < 81

near_point : (a b : ℕ) → a < 9 → b < 9 → Near (pair (pos (suc a)) (pos b))
near_point a b h k = record {
  x_low = omega (arith, ints);
  x_high = omega (arith, ints, h);
  y_low = omega (arith, ints);
  y_high = omega (arith, ints, k);
  is_point = ap (λ (n : ℕ). point 9 (b * 9 + n)) (let e : suc a - 1 ≡ a = omega arith in e) ∙ point_at 9 a b h;
  inside = omega (arith, h, k);
}

module _ (p : Plane) (z : Quad ℤ) (s : sector p z ≡ true) (high : norm p z ≤ 64) where
  pub sector_near : Near z
  unfolding near
  sector_near =
      let l = sector_listed p (norm p z) z s refl in
      let k = (listed_kept (canonical_of p (norm p z)) near z (subst (λ xs. Listed xs z) (canonical_near p (norm p z) (sector_positive p z s) high) l)).0 in
      let m = map_counting_listed (point 9) 81 k.0 z k.1 in
      let row : k.0 / 9 < 9 = omega (arith, m.0) in
      let column : k.0 % 9 < 9 = omega arith in
      let there : z ≡ pair (pos (suc (k.0 % 9))) (pos (k.0 / 9)) = m.1 ∙ ap (λ (n : ℕ). pair (pos n) (pos (k.0 / 9))) (let e : 1 + k.0 % 9 ≡ suc (k.0 % 9) = omega arith in e) in
      subst Near (sym there) (near_point (k.0 % 9) (k.0 / 9) column row)

abbrev answer : Plane → Element → Result ℕ Refusal
answer p e = cond (leb 1 (norm_of (plane p) e) && leb (norm_of (plane p) e) 64) (ok_or (canonical_place (plane p) e) (refused Outside 0)) (refuse Outside)

in_range : (n : ℕ) → 1 ≤ n → n ≤ 64 → (leb 1 n && leb n 64) ≡ true
in_range n h k = grind arith

below_range : (n : ℕ) → n < 1 → (leb 1 n && leb n 64) ≡ false
below_range n h = grind arith

above_range : (n : ℕ) → 64 < n → (leb 1 n && leb n 64) ≡ false
above_range n h = grind arith

either_way : (b : Bool) (o : Option ℕ) → o ≡ None → cond b (ok_or o (refused Outside 0)) (refuse Outside) ≡ refuse Outside
either_way true o h = ap (λ (q : Option ℕ). ok_or q (refused Outside 0)) h
either_way false o h = refl

module _ (p : Plane) (e : Element) where
  abbrev z : Quad ℤ
  z = pair e.x e.y

  pub number_inside : sector p z ≡ true → norm p z ≤ 64 → answer p e ≡ Ok (length (filter (canonical_of p (norm p z)) (take (nat_abs e.y * 9 + (nat_abs e.x - 1)) near)))
  number_inside s high =
      let n = norm p z in
      let i = nat_abs e.y * 9 + (nat_abs e.x - 1) in
      let near-z = sector_near p z s high in
      let low = sector_positive p z s in
      let t : canonical_of p n (point 9 i) ≡ true = ap (canonical_of p n) near-z.is_point ∙ test_passes p n z s refl in
      let f = ap (λ xs. slice_get xs (length (filter (canonical_of p n) (take i near)))) (canonical_near p n low high) ∙ found_at (canonical_of p n) i near-z.inside t ∙ ap Some near-z.is_point in
      let there = place_nth (same (axes p)) (same_true (axes p)) (same_refl (axes p)) z (canonical p n) _ f (λ j h. canonical_once p n j _ z h f) in
      ap₂ (λ (c : Bool) (o : Option ℕ). cond c (ok_or o (refused Outside 0)) (refuse Outside)) (in_range n low high) there

  pub number_large : 64 < norm p z → answer p e ≡ refuse Outside
  number_large high = ap (λ (b : Bool). cond b (ok_or (canonical_place (plane p) e) (refused Outside 0)) (refuse Outside)) (above_range (norm p z) high)

  pub number_outside : sector p z ≡ false → answer p e ≡ refuse Outside
  number_outside s = ⊎_elim zero_norm (λ low. either_way _ (canonical_place (plane p) e) (place_none (same (axes p)) (same_true (axes p)) (same_refl (axes p)) z (canonical p (norm p z)) (λ i h. absurd_at low i h))) (cases_lt (norm p z) 1)
    where
      zero_norm : norm p z < 1 → answer p e ≡ refuse Outside
      zero_norm l = ap (λ (b : Bool). cond b (ok_or (canonical_place (plane p) e) (refused Outside 0)) (refuse Outside)) (below_range (norm p z) l)

      absurd_at : 1 ≤ norm p z → (i : ℕ) → slice_get (canonical p (norm p z)) i ≡ Some z → ⊥
      absurd_at low i h = ⊎_elim (λ o. let n : norm p z ≡ 0 = ap (norm p) o ∙ norm_nought p in omega (arith, n, low)) (λ t. true≢false (sym t ∙ s)) (listed_sector p (norm p z) z (i, h)).1

module _ (p : Plane) (n : ℕ) (low : 1 ≤ n) (high : n ≤ 64) where
  abbrev gate : {X : Type 0} → Bool → Result X Refusal → Result X Refusal
  gate b next = then {X = Unit {0}} (cond b (Ok (tt {0})) (refuse Index)) next

  pub count_inside : count_answer (plane p) n ≡ Ok (length (filter (canonical_of p n) (take 81 near)))
  count_inside =
      ap (λ (b : Bool). gate b (Ok (length (canonical p n)))) (in_range n low high)
      ∙ ap (λ xs. Ok (length xs)) (canonical_near p n low high ∙ ap (filter (canonical_of p n)) (sym (all_points 81 (lit≤ tt))))

  pub element_inside : (i : ℕ) → canonical_element_answer (plane p) n i ≡ ok_or (option_map (element (axes p)) (slice_get (filter (canonical_of p n) near) i)) (refused Outside 0)
  element_inside i =
      ap (λ (b : Bool). gate b (ok_or (option_map (element (axes p)) (slice_get (canonical p n) i)) (refused Outside 0))) (in_range n low high)
      ∙ ap (λ xs. ok_or (option_map (element (axes p)) (slice_get xs i)) (refused Outside 0)) (canonical_near p n low high)
