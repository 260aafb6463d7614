use Rattle.ring.specs.Answers.{norm_of}
use Rattle.ideal.proofs.Turns.{Turn}
use Rattle.ideal.proofs.gcd.Given as goal

abbrev pub invariant-loop-remainder : goal.invariant-loop-remainder
invariant-loop-remainder g l = Turn g.R.Ring.meaning l.initial.dividend l.initial.divisor l.dividend l.divisor

abbrev pub decreases-loop-remainder : goal.decreases-loop-remainder
decreases-loop-remainder g l = norm_of g.R.Ring.meaning l.divisor
