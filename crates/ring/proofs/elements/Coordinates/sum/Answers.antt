use Rattle.std.proofs.Common.{◌∙◌, arith}
use Rattle.std.proofs.lemmas.Int.{to_z-of_z}
use Rattle.ring.specs.Elements.{at}
use Rattle.ring.proofs.Limits.{sum_one, sum_two}
use Rattle.ring.proofs.elements.Coordinates.sum.Goals as goal

pub returns-in-One : goal.returns-in-One
returns-in-One c = c.from.ensures ∙ sum_one c.args.self (at c.args.a.x c.args.a.y) (at c.args.b.x c.args.b.y) c.in-One.is _ (grind (arith, to_z-of_z))

pub returns-in-Two : goal.returns-in-Two
returns-in-Two c = sum_two c.args.self (at c.args.a.x c.args.a.y) (at c.args.b.x c.args.b.y) _ _ c.in-Two.is _ _ (grind (arith, to_z-of_z)) (grind (arith, to_z-of_z))
