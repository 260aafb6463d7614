-- The lists of canonical elements: 0, and the elements of the sector, each once.
use Rattle.std.proofs.Common.{◌≡◌, ℕ, zero, suc, ◌+◌, ◌*◌, ◌/◌, ◌%◌, ◌<◌, ◌≤◌, true, ◌&&◌, eqb, ◌⊎◌, [], ◌∷◌, ℤ, pos, negsuc, nat_abs, Some, sym, refl, ap, ◌∙◌, subst, ap₂, inl, inr, ⊎_elim, div-add-mod', arith}
use lib.Arith.{digits_div, digits_mod, digits_lt}
use Rattle.std.proofs.lemmas.Int.{ints}
use Rattle.std.specs.List.{slice_get}
use Rattle.algebra.specs.Divisors.{Associate}
use Rattle.algebra.specs.Euclidean.{Canonical, Listed}
use Rattle.algebra.specs.Quadratic.{Quad}
use Rattle.algebra.proofs.Once.{Once, kept_listed, listed_kept, nth_map_counting, none_some, once_kept, Once-map_counting, Once-place, some_same}
use Rattle.ring.proofs.Places.{both}
use Rattle.planes.specs.declared.Plane.{Plane}
use Rattle.planes.specs.declared.Plane.TheVariants.{Square, Hexagonal}
use Rattle.planes.specs.Planes.{canonical, canonical_of, grid, norm, pair, plane, point, sector, span}
use Rattle.planes.proofs.Division.{arithmetic}
use Rattle.planes.proofs.Norms.{im_span, norm-mul, re_bound, re_span, zero_from_norm}
use Rattle.planes.proofs.Sectors.{sector_exists, sector_unique}
use Rattle.planes.proofs.Units.{norm_unit}

eqb_same : (m n : ℕ) → eqb m n ≡ true → m ≡ n
eqb_same m n h = grind arith

same_eqb : (m n : ℕ) → m ≡ n → eqb m n ≡ true
same_eqb m n h = grind arith

-- an element of the sector has x > 0 and y ≥ 0
data Natural : Quad ℤ → Type 0 where
  natural : (x y : ℕ) → Natural (pair (pos (suc x)) (pos y))

sector_natural : (p : Plane) (z : Quad ℤ) → sector p z ≡ true → Natural z
sector_natural p z h = go p z.re z.im h
  where
    go : (q : Plane) (x y : ℤ) → sector q (pair x y) ≡ true → Natural (pair x y)
    go q (pos (suc x)) (pos y) s = natural x y
    go Square (pos zero) (pos y) s = absurd (grind (arith, ints))
    go Hexagonal (pos zero) (pos y) s = absurd (grind (arith, ints))
    go Square (pos x) (negsuc y) s = absurd (grind (arith, ints))
    go Hexagonal (pos x) (negsuc y) s = absurd (grind (arith, ints))
    go Square (negsuc x) y s = absurd (grind (arith, ints))
    go Hexagonal (negsuc x) y s = absurd (grind (arith, ints))

-- the points of the grid stand in it once
pub point_at : (n x y : ℕ) → x < n → point n (y * n + x) ≡ pair (pos (suc x)) (pos y)
point_at n x y h =
    let r : 1 + (y * n + x) % n ≡ suc x = omega (arith, digits_mod y h) in
    let q : (y * n + x) / n ≡ y = digits_div y h in
    λ i. pair (pos (r i)) (pos (q i))

point_injective : (n i j : ℕ) → point n i ≡ point n j → i ≡ j
point_injective n i j e =
    let x : 1 + i % n ≡ 1 + j % n = ap (λ (z : Quad ℤ). nat_abs z.re) e in
    let y : i / n ≡ j / n = ap (λ (z : Quad ℤ). nat_abs z.im) e in
    let s = ap (λ (q : ℕ). q * n) y in
    omega (arith, div-add-mod' i n, div-add-mod' j n, x, s)

grid_once : (n : ℕ) → Once (grid n)
grid_once n = Once-map_counting (point n) ((n + 1) * n) (λ i j _ _ e. point_injective n i j e)

grid_has : (n x y : ℕ) → x < n → y ≤ n → Listed (grid n) (pair (pos (suc x)) (pos y))
grid_has n x y h k =
    let low : y < n + 1 = omega arith in
    (y * n + x, nth_map_counting (point n) ((n + 1) * n) (y * n + x) (digits_lt low h) ∙ ap Some (point_at n x y h))

pub sector_positive : (p : Plane) (z : Quad ℤ) → sector p z ≡ true → 1 ≤ norm p z
sector_positive p z s = go z (sector_natural p z s) (re_bound p z)
  where
    go : (w : Quad ℤ) → Natural w → nat_abs w.re ≤ norm p z → 1 ≤ norm p z
    go _ (natural x y) h = omega (arith, h)

pub test_passes : (p : Plane) (n : ℕ) (z : Quad ℤ) → sector p z ≡ true → norm p z ≡ n → canonical_of p n z ≡ true
test_passes p n z s e = ap₂ ◌&&◌ s (same_eqb (norm p z) n e)

listed_in_grid : (n : ℕ) (z : Quad ℤ) → Natural z → nat_abs z.re ≤ n → nat_abs z.im ≤ n → Listed (grid n) z
listed_in_grid n _ (natural x y) h k = grid_has n x y (omega (arith, h)) k

pub sector_listed : (p : Plane) (n : ℕ) (z : Quad ℤ) → sector p z ≡ true → norm p z ≡ n → Listed (canonical p n) z
sector_listed p zero z s e = absurd (omega (arith, sector_positive p z s, e))
sector_listed p (suc n) z s e =
    kept_listed (canonical_of p (suc n)) (grid (span (suc n))) z
    (listed_in_grid (span (suc n)) z (sector_natural p z s) (rw e at (re_span p z)) (rw e at (im_span p z)))
    (test_passes p (suc n) z s e)

pub norm_nought : (p : Plane) → norm p (pair (pos 0) (pos 0)) ≡ 0
norm_nought Square = refl
norm_nought Hexagonal = refl

nought_only : (z : Quad ℤ) → Listed (pair (pos 0) (pos 0) ∷ []) z → z ≡ pair (pos 0) (pos 0)
nought_only z (zero, h) = sym (some_same h)
nought_only z (suc i, h) = none_some h

pub listed_sector : (p : Plane) (n : ℕ) (z : Quad ℤ) → Listed (canonical p n) z → (norm p z ≡ n) × ((z ≡ pair (pos 0) (pos 0)) ⊎ (sector p z ≡ true))
listed_sector p zero z l = let e = nought_only z l in (ap (norm p) e ∙ norm_nought p, inl e)
listed_sector p (suc n) z l =
    let t = both (sector p z) (eqb (norm p z) (suc n)) (listed_kept (canonical_of p (suc n)) (grid (span (suc n))) z l).1 in
    (eqb_same (norm p z) (suc n) t.1, inr t.0)

pub canonical_once : (p : Plane) (n i j : ℕ) (c : Quad ℤ) → slice_get (canonical p n) i ≡ Some c → slice_get (canonical p n) j ≡ Some c → i ≡ j
canonical_once p zero i j c h k = Once-place (canonical p zero) ((λ l. none_some l.1), tt) i j c h k
canonical_once p (suc n) i j c h k = Once-place (canonical p (suc n)) (once_kept (canonical_of p (suc n)) (grid (span (suc n))) (grid_once (span (suc n)))) i j c h k

pub zero_canonical : (p : Plane) → Canonical (plane p).euclidean (pair (pos 0) (pos 0))
zero_canonical Square = (0, refl)
zero_canonical Hexagonal = (0, refl)

pub sector_canonical : (p : Plane) (z : Quad ℤ) → sector p z ≡ true → Canonical (plane p).euclidean z
sector_canonical p z s = sector_listed p (norm p z) z s refl

pub one_canonical : (p : Plane) → Canonical (plane p).euclidean (pair (pos 1) (pos 0))
one_canonical Square = (0, refl)
one_canonical Hexagonal = (0, refl)

pub placed_canonical : (p : Plane) (z : Quad ℤ) → (sector p z ≡ true) ⊎ (z ≡ pair (pos 0) (pos 0)) → Canonical (plane p).euclidean z
placed_canonical p z h = ⊎_elim (sector_canonical p z) (λ e. subst (Canonical (plane p).euclidean) (sym e) (zero_canonical p)) h

pub canonical_associate : (p : Plane) (a : Quad ℤ) → (c : Quad ℤ) × Associate (arithmetic p) a c × Canonical (plane p).euclidean c
canonical_associate p a = let t = sector_exists p a in (t.0, t.1.associate, placed_canonical p t.0 t.1.placed)

-- an associate has the same norm
associate_norm : (p : Plane) (a b : Quad ℤ) → Associate (arithmetic p) a b → norm p b ≡ norm p a
associate_norm p a b h =
    let n = norm-mul p h.0 a in
    let u = ap (λ (k : ℕ). k * norm p a) (norm_unit p h.0 h.1) in
    ap (norm p) h.2 ∙ n ∙ u ∙ omega arith

pub canonical_unique : (p : Plane) (a b : Quad ℤ) → Canonical (plane p).euclidean a → Canonical (plane p).euclidean b → Associate (arithmetic p) a b → a ≡ b
canonical_unique p a b c d h = ⊎_elim left (λ s. ⊎_elim right (λ t. sector_unique p a b s t h) (listed_sector p (norm p b) b d).1) (listed_sector p (norm p a) a c).1
  where
    left : a ≡ pair (pos 0) (pos 0) → a ≡ b
    left e = e ∙ sym (zero_from_norm p b (associate_norm p a b h ∙ ap (norm p) e ∙ norm_nought p))

    right : b ≡ pair (pos 0) (pos 0) → a ≡ b
    right e = zero_from_norm p a (sym (associate_norm p a b h) ∙ ap (norm p) e ∙ norm_nought p) ∙ sym e
