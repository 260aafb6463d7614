-- Two multiples of a modulus.
use Rattle.std.specs.Prelude.{◌≡◌, ℕ, ℤ, pos, negsuc}
use Rattle.algebra.specs.Divisors.{Divides, gcd}
use Rattle.algebra.specs.Integers.{ℤ_ops}
use Rattle.algebra.specs.Quadratic.{quad_ops}
use Rattle.ring.specs.declared.elements.Element.{Element}
use Rattle.planes.specs.declared.Plane.{Plane}
use Rattle.planes.specs.Planes.{content, pair, trace}
use Rattle.ring.specs.Elements.{at}
use Rattle.planar.specs.declared.rows.Rows.{Rows}

-- x + yθ is a multiple of m
abbrev pub Multiple : Plane → Element → ℤ → ℕ → Type 0
Multiple p m x y = Divides (quad_ops ℤ_ops (negsuc 0) (trace p)) (pair m.x m.y) (pair x (pos y))

-- two multiples, whose second coordinates have the content as their greatest common divisor
pub record Multiples (p : Plane) (m : Element) (x : ℤ) (y : ℕ) (u : ℤ) (v : ℕ) : Type 0 where
  pub first : Multiple p m x y
  pub second : Multiple p m u v
  pub common : gcd y v ≡ content (pair m.x m.y)

abbrev pub AreRows : Rows → Type 0
AreRows r = Multiples r.modulus.divisor.plane (at r.modulus.divisor.element.x r.modulus.divisor.element.y) r.first.x r.first.y r.second.x r.second.y
