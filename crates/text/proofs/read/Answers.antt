use Rattle.std.proofs.Common.{◌∙◌}
use Rattle.std.proofs.lemmas.Result.{err_from_is_err_and}
use Rattle.text.proofs.Course.{done, fault, more, within}
use Rattle.text.proofs.read.Goals as goal

pub returns-in_err-step : goal.returns-in_err-step
returns-in_err-step c =
    let p = err_from_is_err_and c.from_residual.result c.from_residual.ensures.1 in
    rw (p.1, p.2) (within c.args.text.now _ c.if-text-gt-LIMIT.false (fault _ _ _ _ _ c.loop.invariant _ c.loop-test.true c.in_err-step.ensures.answer))

pub loop-preserved : goal.loop-preserved
loop-preserved c = more _ _ _ _ _ c.loop.invariant _ _ _ c.loop-test.true c.in_ok-step.ensures.answer c.in_ok-step.ensures.line

pub returns : goal.returns
returns c = within c.args.text.now _ c.if-text-gt-LIMIT.false (c.finish.ensures ∙ done _ _ _ _ _ c.loop.invariant c.loop-test.false)
