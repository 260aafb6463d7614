-- The points among which the canonical elements up to norm 64 are found, and what a walk over them counts.
use Rattle.std.proofs.Common.{◌≡◌, ℕ, ◌+◌, ◌<◌, ◌≤◌, Bool, true, cond, List, [], ◌∷◌, ◌++◌, length, get_or, take, drop, map, ℤ, Some, filter, sym, refl, ap, ◌∙◌, subst, arith}
use Rattle.std.specs.List.{range_with_len, slice_get}
use Rattle.std.proofs.lemmas.List.FromFn.{get_or-map-range_with_len, take-map-range_with_len}
use Rattle.std.proofs.lemmas.List.Elements.{filter-append}
use Rattle.std.proofs.lemmas.List.{drop_more, take_all, take-append-drop}
use Rattle.algebra.specs.Quadratic.{Quad}
use Rattle.planes.specs.Planes.{near, point}

nth_behind : {A : Type 0} (xs : List A) (y : A) (ys : List A) → slice_get (xs ++ y ∷ ys) (length xs) ≡ Some y
nth_behind [] y ys = refl
nth_behind (x ∷ xs) y ys = nth_behind xs y ys

pub near_length : length near ≡ 81
unfolding near
near_length = refl

near_at : (i : ℕ) (d : Quad ℤ) → i < 81 → get_or near i d ≡ point 9 i
unfolding near
near_at i d h = get_or-map-range_with_len (point 9) 0 81 i i d h (omega arith)

-- the points by number
pub points_near : map (point 9) (range_with_len 0 81) ≡ near
unfolding near
points_near = refl

pub first_near : (n : ℕ) → n ≤ 81 → map (point 9) (range_with_len 0 n) ≡ take n near
unfolding near
first_near n h = sym (take-map-range_with_len (point 9) 0 81 n h)

module _ (test : Quad ℤ → Bool) (i : ℕ) (h : i < 81) where
  -- a point that passes stands behind those that passed before it
  pub found_at : test (point 9 i) ≡ true → slice_get (filter test near) (length (filter test (take i near))) ≡ Some (point 9 i)
  found_at t =
      let inside : i < length near = subst (λ (n : ℕ). i < n) (sym near_length) h in
      let split : near ≡ take i near ++ point 9 i ∷ drop (i + 1) near = sym (take-append-drop i near) ∙ ap (λ (l : List (Quad ℤ)). take i near ++ l) (drop_more near i (point 9 i) inside ∙ ap (λ (z : Quad ℤ). z ∷ drop (i + 1) near) (near_at i (point 9 i) h)) in
      let kept : filter test near ≡ filter test (take i near) ++ point 9 i ∷ filter test (drop (i + 1) near) = ap (filter test) split ∙ filter-append test (take i near) (point 9 i ∷ drop (i + 1) near) ∙ ap (λ (b : Bool). filter test (take i near) ++ cond b (point 9 i ∷ filter test (drop (i + 1) near)) (filter test (drop (i + 1) near))) t in
      ap (λ (l : List (Quad ℤ)). slice_get l (length (filter test (take i near)))) kept ∙ nth_behind (filter test (take i near)) (point 9 i) (filter test (drop (i + 1) near))

-- past the last point
pub all_points : (n : ℕ) → 81 ≤ n → take n near ≡ near
all_points n h = take_all n near (subst (λ (k : ℕ). k ≤ n) (sym near_length) h)
