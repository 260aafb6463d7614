use Rattle.std.proofs.Common.{◌<◌, nat_abs, arith}
use Rattle.std.proofs.lemmas.Int.{ints, to_z-of_z}
use Rattle.integers.proofs.Returned.{quotient_is}
use Rattle.integers.proofs.IntegersRing.divide.Goals as goal

pub returns-clause-answer : goal.returns-clause-answer
returns-clause-answer c =
    let h : 0 < nat_abs c.args.b.x = grind (arith, ints) in
    quotient_is c.args.a c.args.b c.in_ok-a.ensures.check c.in_ok-b.ensures.check h c.from.result c.from-2.result (grind (arith, to_z-of_z)) (grind (arith, to_z-of_z))
