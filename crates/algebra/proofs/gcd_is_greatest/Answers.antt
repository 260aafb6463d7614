use Rattle.algebra.proofs.Gcd.{gcd_is}
use Rattle.algebra.proofs.gcd_is_greatest.Goals as goal

pub returns : goal.returns
returns c = gcd_is
