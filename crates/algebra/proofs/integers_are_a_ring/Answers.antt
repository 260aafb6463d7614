use Rattle.algebra.proofs.Integers.{ℤ_ring}
use Rattle.algebra.proofs.integers_are_a_ring.Goals as goal

pub returns : goal.returns
returns c = ℤ_ring
