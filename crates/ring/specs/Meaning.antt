-- What a ring is: one value, and the laws that it keeps.
use Rattle.std.specs.Prelude.{◌≡◌, ◌*◌, ◌≤◌}
use Rattle.algebra.specs.Euclidean.{Euclidean, EuclideanLaws, Listed, Modulus}
use Rattle.ring.specs.declared.elements.Coordinates.{Coordinates}
use Rattle.ring.specs.Elements.{Carrier, ops, element, Within, Mild}

-- the coordinates give the arithmetic; the rest is norm, canonical elements and residues
pub record Meaning : Type 0 where
  pub coordinates : Coordinates
  pub euclidean : Euclidean (Carrier coordinates)

pub record Laws (m : Meaning) : Type 0 where
  pub mild : Mild m.coordinates
  pub euclidean : EuclideanLaws (ops m.coordinates) m.euclidean
  -- an element of norm n has coordinates from −2n to 2n
  pub norm_bounds : (a : Carrier m.coordinates) → Within (2 * m.euclidean.norm a) (element m.coordinates a)
  pub units_small : (u : Carrier m.coordinates) → m.euclidean.norm u ≡ 1 → Within 9 (element m.coordinates u)
  pub residues_small : (c r : Carrier m.coordinates) → Modulus (ops m.coordinates) m.euclidean c → m.euclidean.norm c ≤ 64 → Listed (m.euclidean.residues c) r → Within 99 (element m.coordinates r)
