use Rattle.std.proofs.Common.{subst}
use Rattle.ring.specs.Answers.{ResidueAnswer}
use Rattle.planes.specs.declared.Plane.{Plane}
use Rattle.planes.specs.Planes.{plane}
use Rattle.planar.proofs.rings.residue_named.Goals as goal

pub returns : goal.returns
returns g c =
    subst (λ (p : Plane). ResidueAnswer (plane p) c.args.a c.args.m c.residue.result) c.plane.ensures c.residue.ensures
