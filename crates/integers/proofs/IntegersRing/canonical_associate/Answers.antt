use Rattle.std.proofs.Common.{arith}
use Rattle.std.proofs.lemmas.Int.{to_z-of_z}
use Rattle.integers.proofs.Returned.{canonical_is}
use Rattle.integers.proofs.IntegersRing.canonical_associate.Goals as goal

pub returns : goal.returns
returns c =
    canonical_is c.args.a c.in_ok-a.ensures.check c.from.result (grind (arith, to_z-of_z))
