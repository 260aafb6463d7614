use Rattle.std.proofs.Common.{◌≡◌}
use Rattle.planar.specs.Rows.{AreRows}
use Rattle.planar.proofs.basis.Basis.of.Given as goal

abbrev pub invariant-loop-rows : goal.invariant-loop-rows
invariant-loop-rows l = record { are : AreRows l.rows; modulus : l.rows.modulus ≡ l.modulus }

abbrev pub decreases-loop-rows : goal.decreases-loop-rows
decreases-loop-rows l = l.rows.second.y
