-- What a division leaves.
use Rattle.algebra.specs.Euclidean as Euclid
use Rattle.ring.specs.declared.elements.Division.{Division}
use Rattle.ring.specs.declared.elements.Element.{Element}
use Rattle.ring.specs.Elements.{Member, ops, value}
use Rattle.ring.specs.Meaning.{Meaning}

-- elements of the ring that keep the law of division
pub record Divided (m : Meaning) (a b : Element) (d : Division) : Type 0 where
  pub quotient_member : Member m.coordinates d.quotient
  pub remainder_member : Member m.coordinates d.remainder
  pub law : Euclid.Divided (ops m.coordinates) m.euclidean (value m.coordinates a) (value m.coordinates b) (value m.coordinates d.quotient) (value m.coordinates d.remainder)
