use Rattle.ideal.proofs.Begin.{first_turn, refused_zero}
use Rattle.ideal.proofs.Turns.{division_refused, last_turn, next_turn, norm_refused}
use Rattle.ideal.proofs.gcd.Goals as goal

pub returns-then-size-eq0 : goal.returns-then-size-eq0
returns-then-size-eq0 g c =
    rw c.into-then-size-eq0.ensures (refused_zero g.R.Ring.meaning g.met.R.Ring.laws _ c.coordinates.ensures c.args.a c.args.b c.in_ok-admit.ensures.check _ c.in_ok-size.ensures c.if-size-gt-NORM_LIMIT.false c.if-size-eq0.true)

pub loop-remainder-init : goal.loop-remainder-init
loop-remainder-init g c =
    first_turn g.R.Ring.meaning g.met.R.Ring.laws _ c.coordinates.ensures c.args.a c.args.b c.in_ok-admit.ensures.check _ c.in_ok-size.ensures c.if-size-gt-NORM_LIMIT.false c.if-size-eq0.false

pub returns-in_err-remainder : goal.returns-in_err-remainder
returns-in_err-remainder g c =
    absurd (division_refused g.R.Ring.meaning g.met.R.Ring.laws _ _ _ _ c.loop-remainder.invariant _ c.in_err-remainder.ensures)

pub returns-in_err-norm : goal.returns-in_err-norm
returns-in_err-norm g c =
    absurd (norm_refused g.R.Ring.meaning g.met.R.Ring.laws _ _ _ _ c.loop-remainder.invariant _ c.in_ok-remainder.ensures _ c.in_err-norm.ensures)

pub returns-then-branch-eq0 : goal.returns-then-branch-eq0
returns-then-branch-eq0 g c =
    last_turn g.R.Ring.meaning g.met.R.Ring.laws _ _ _ _ c.loop-remainder.invariant _ c.in_ok-remainder.ensures _ c.in_ok-norm.ensures c.if-branch-eq0.true _ c.canonical_associate.ensures

pub loop-remainder-preserved : goal.loop-remainder-preserved
loop-remainder-preserved g c =
    next_turn g.R.Ring.meaning g.met.R.Ring.laws _ _ _ _ c.loop-remainder.invariant _ c.in_ok-remainder.ensures _ c.in_ok-norm.ensures c.if-branch-eq0.false
