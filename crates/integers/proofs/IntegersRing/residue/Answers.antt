use Rattle.std.proofs.Common.{◌<◌, nat_abs, arith}
use Rattle.std.proofs.lemmas.Int.{ints, to_z-of_z}
use Rattle.integers.proofs.Returned.{modulus_is, residue_is}
use Rattle.integers.proofs.IntegersRing.residue.Goals as goal

pub returns : goal.returns
returns c =
    let h : 0 < nat_abs c.args.m.x = grind (arith, ints) in
    residue_is c.args.a c.args.m c.in_ok-a.ensures.check c.in_ok-m.ensures.check (modulus_is c.args.m c.in_ok-m.m c.in_ok-m.ensures.x c.in_ok-modulus.ensures.0) h c.from.result (grind (arith, to_z-of_z))
