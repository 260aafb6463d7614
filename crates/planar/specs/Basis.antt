-- A basis of the multiples of a modulus.
use Rattle.std.specs.Prelude.{◌≡◌}
use Rattle.ring.specs.declared.elements.Element.{Element}
use Rattle.planes.specs.declared.Plane.{Plane}
use Rattle.planes.specs.Planes.{content, norm, pair, width}
use Rattle.planar.specs.declared.basis.Basis.{Basis}
use Rattle.planar.specs.Rows.{Multiple}

pub record IsBasis (p : Plane) (m : Element) (b : Basis) : Type 0 where
  pub step : Multiple p m b.step b.content
  pub content_is : b.content ≡ content (pair m.x m.y)
  pub width_is : b.width ≡ width p (pair m.x m.y)
  pub norm_is : b.norm ≡ norm p (pair m.x m.y)
