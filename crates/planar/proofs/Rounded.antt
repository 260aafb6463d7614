-- A quotient whose coordinates are nearest keeps the law of division, and its remainder is small.
use Rattle.std.proofs.Common.{◌≡◌, ℕ, ◌*◌, ◌^◌, ◌<◌, ◌≤◌, ℤ, nat_abs, sym, subst, arith}
use Rattle.algebra.specs.Euclidean as Euclid
use Rattle.algebra.specs.Quadratic.{Quad}
use Rattle.planes.specs.declared.Plane.{Plane}
use Rattle.planes.specs.Planes.{Nearest, left_over, norm, over, plane}
use Rattle.planes.proofs.Division.{arithmetic, divided, remainder_small}
use Rattle.planes.proofs.Norms.{im_bound, re_bound}

module _ (p : Plane) (a b q z : Quad ℤ) (n : ℕ) (size : n ≡ norm p b) (some : 0 < n) (few : n ≤ 3 * 2 ^ 60) (exact : z ≡ over p a b) (re : Nearest z.re n q.re) (im : Nearest z.im n q.im) where
  abbrev positive : 0 < norm p b
  positive = subst (λ (k : ℕ). 0 < k) size some

  near_re : Nearest (over p a b).re (norm p b) q.re
  near_re = subst (λ (k : ℕ). Nearest (over p a b).re k q.re) size (subst (λ (w : Quad ℤ). Nearest w.re n q.re) exact re)

  near_im : Nearest (over p a b).im (norm p b) q.im
  near_im = subst (λ (k : ℕ). Nearest (over p a b).im k q.im) size (subst (λ (w : Quad ℤ). Nearest w.im n q.im) exact im)

  small : norm p (left_over p a b q) ≤ 2 ^ 62
  small = let h = remainder_small p a b q positive near_re near_im in omega (arith, h, size, few)

  pub left_re : nat_abs (left_over p a b q).re ≤ 2 ^ 62
  left_re = omega (arith, re_bound p (left_over p a b q), small)

  pub left_im : nat_abs (left_over p a b q).im ≤ 2 ^ 62
  left_im = omega (arith, im_bound p (left_over p a b q), small)

  pub keeps_law : (r : Quad ℤ) → r ≡ left_over p a b q → Euclid.Divided (arithmetic p) (plane p).euclidean a b q r
  keeps_law r e = subst (Euclid.Divided (arithmetic p) (plane p).euclidean a b q) (sym e) (divided p a b q positive near_re near_im)
