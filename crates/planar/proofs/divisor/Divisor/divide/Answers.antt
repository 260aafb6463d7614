use Rattle.std.proofs.Common.{refl}
use Rattle.planes.specs.Planes.{over, pair}
use Rattle.planar.proofs.Rounded.{keeps_law, left_im, left_re}
use Rattle.planar.proofs.divisor.Divisor.divide.Goals as goal

pub left_over-requires-clause-little_left : goal.left_over-requires-clause-little_left
left_over-requires-clause-little_left c =
    let d = c.args.self in
    let a = pair c.args.a.x c.args.a.y in
    let b = pair d.element.x d.element.y in
    let q = pair c.quotient-quotient.result.x c.quotient-quotient.result.y in
    let n = c.quotient-quotient.ensures in
    record { x_bound = left_re d.plane a b q (over d.plane a b) d.norm d.norm_is d.some d.few refl n.x n.y; y_bound = left_im d.plane a b q (over d.plane a b) d.norm d.norm_is d.some d.few refl n.x n.y }

pub returns : goal.returns
returns c =
    let d = c.args.self in
    let a = pair c.args.a.x c.args.a.y in
    let b = pair d.element.x d.element.y in
    let q = pair c.quotient-quotient.result.x c.quotient-quotient.result.y in
    let n = c.quotient-quotient.ensures in
    record {
      quotient_member = refl;
      remainder_member = refl;
      law = keeps_law d.plane a b q (over d.plane a b) d.norm d.norm_is d.some d.few refl n.x n.y _ c.left_over.ensures;
    }
