use Rattle.std.proofs.Common.{subst}
use Rattle.ring.specs.Answers.{DivisionAnswer}
use Rattle.planes.specs.declared.Plane.{Plane}
use Rattle.planes.specs.Planes.{plane}
use Rattle.planar.proofs.rings.divide_named.Goals as goal

pub returns : goal.returns
returns g c =
    subst (λ (p : Plane). DivisionAnswer (plane p) c.args.a c.args.b c.divide.result) c.plane.ensures c.divide.ensures
