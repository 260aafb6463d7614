-- The units of a plane: the elements of norm 1, four or six.
use Rattle.std.proofs.Common.{◌≡◌, ℕ, zero, suc, ◌≤◌, List, [], ◌∷◌, length, ℤ, pos, negsuc, nat_abs, sym, refl, ap, ◌∙◌, arith}
use Rattle.algebra.proofs.Whole.{one_product}
use Rattle.algebra.specs.Integers.{ℤ_ops}
use Rattle.algebra.specs.Divisors.{Invertible}
use Rattle.algebra.specs.Euclidean.{Listed}
use Rattle.algebra.specs.Quadratic.{Quad, conjugate}
use Rattle.planes.specs.declared.Plane.{Plane}
use Rattle.planes.specs.declared.Plane.TheVariants.{Square, Hexagonal}
use Rattle.planes.specs.Planes.{norm, pair, trace}
use Rattle.planes.proofs.Division.{arithmetic}
use Rattle.planes.proofs.Norms.{im_bound, mul-conjugate_is_norm, norm-mul, re_bound}

abbrev pub units : Plane → List (Quad ℤ)
units Square =
    pair (pos 1) (pos 0) ∷ pair (negsuc 0) (pos 0) ∷ pair (pos 0) (pos 1) ∷ pair (pos 0) (negsuc 0) ∷ []
units Hexagonal =
    pair (pos 1) (pos 0) ∷ pair (negsuc 0) (pos 0) ∷ pair (pos 0) (pos 1) ∷ pair (pos 0) (negsuc 0) ∷ pair (pos 1) (pos 1) ∷ pair (negsuc 0) (negsuc 0) ∷ []

pub units_few : (p : Plane) → length (units p) ≤ 6
units_few Square = omega arith
units_few Hexagonal = omega arith

pub norm-one : (p : Plane) → norm p (pair (pos 1) (pos 0)) ≡ 1
norm-one Square = refl
norm-one Hexagonal = refl

pub norm_unit : (p : Plane) (u : Quad ℤ) → Invertible (arithmetic p) u → norm p u ≡ 1
norm_unit p u i = one_product (norm p u) (norm p i.0) (sym (norm-mul p u i.0) ∙ ap (norm p) i.1 ∙ norm-one p)

pub unit_from_norm : (p : Plane) (u : Quad ℤ) → norm p u ≡ 1 → Invertible (arithmetic p) u
unit_from_norm p u h = (conjugate ℤ_ops (negsuc 0) (trace p) u, mul-conjugate_is_norm p u ∙ ap (λ (n : ℕ). pair (pos n) (pos 0)) h)

-- a coordinate of a unit is −1, 0 or 1
data Sign : ℤ → Type 0 where
  none : Sign (pos 0)
  plus : Sign (pos 1)
  minus : Sign (negsuc 0)

sign : (x : ℤ) → nat_abs x ≤ 1 → Sign x
sign (pos zero) h = none
sign (pos (suc zero)) h = plus
sign (pos (suc (suc n))) h = absurd (omega (arith, h))
sign (negsuc zero) h = minus
sign (negsuc (suc n)) h = absurd (omega (arith, h))

listed : (p : Plane) (x y : ℤ) → Sign x → Sign y → norm p (pair x y) ≡ 1 → Listed (units p) (pair x y)
listed Square _ _ none none h = absurd (omega (arith, h))
listed Square _ _ none plus h = (2, refl)
listed Square _ _ none minus h = (3, refl)
listed Square _ _ plus none h = (0, refl)
listed Square _ _ plus plus h = absurd (omega (arith, h))
listed Square _ _ plus minus h = absurd (omega (arith, h))
listed Square _ _ minus none h = (1, refl)
listed Square _ _ minus plus h = absurd (omega (arith, h))
listed Square _ _ minus minus h = absurd (omega (arith, h))
listed Hexagonal _ _ none none h = absurd (omega (arith, h))
listed Hexagonal _ _ none plus h = (2, refl)
listed Hexagonal _ _ none minus h = (3, refl)
listed Hexagonal _ _ plus none h = (0, refl)
listed Hexagonal _ _ plus plus h = (4, refl)
listed Hexagonal _ _ plus minus h = absurd (omega (arith, h))
listed Hexagonal _ _ minus none h = (1, refl)
listed Hexagonal _ _ minus plus h = absurd (omega (arith, h))
listed Hexagonal _ _ minus minus h = (5, refl)

pub unit_listed : (p : Plane) (u : Quad ℤ) → norm p u ≡ 1 → Listed (units p) u
unit_listed p u h = listed p u.re u.im (sign u.re (omega (arith, re_bound p u, h))) (sign u.im (omega (arith, im_bound p u, h))) h
