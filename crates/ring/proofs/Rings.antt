-- The arithmetic of either kind of coordinates is a commutative ring.
use Rattle.algebra.specs.Ring.{CommRing}
use Rattle.algebra.proofs.Integers.{ℤ_ring}
use Rattle.algebra.proofs.Quadratic.{quad_ring}
use Rattle.ring.specs.declared.elements.Coordinates.{Coordinates}
use Rattle.ring.specs.declared.elements.Coordinates.TheVariants.{One, Two}
use Rattle.ring.specs.Elements.{ops}

pub ops_ring : (k : Coordinates) → CommRing (ops k)
ops_ring One = ℤ_ring
ops_ring (Two a b) = quad_ring ℤ_ring a b
