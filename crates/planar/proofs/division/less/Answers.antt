use Rattle.std.proofs.Common.{◌∙◌, arith}
use Rattle.planes.specs.Planes.{pair}
use Rattle.ring.proofs.Limits.{back}
use Rattle.planar.proofs.Wide.{narrowed}
use Rattle.planar.proofs.division.less.Goals as goal

pub returns : goal.returns
returns c =
    let x = c.from.ensures ∙ back c.args.a.x (omega arith) in
    let y = c.from-2.ensures ∙ back c.args.a.y (omega arith) in
    rw (x, y) (λ i. pair (narrowed c.args.a.x c.args.x (omega arith) (omega arith) c.requires.little_x i) (narrowed c.args.a.y c.args.y (omega arith) (omega arith) c.requires.little_y i))
