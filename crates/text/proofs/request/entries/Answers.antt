use Rattle.std.proofs.Common.{Some, None}
use Rattle.std.proofs.lemmas.Result.{err_from_is_err_and}
use Rattle.text.proofs.Entries.{Filled, faulty, missing, one_more}
use Rattle.text.proofs.request.entries.Goals as goal

pub returns-in_default : goal.returns-in_default
returns-in_default g c =
    let f : Filled c.args.k g.row.N c.args.bytes.now c.loop-entry.entry-index c.loop-entry.entry-items None = rw c.in_default.is at c.loop-entry.invariant in
    missing _ _ _ _ _ c.loop-entry-test.true f

pub returns-in_err-entry : goal.returns-in_err-entry
returns-in_err-entry g c =
    let p = err_from_is_err_and c.from_residual.result c.from_residual.ensures.1 in
    let f : Filled c.args.k g.row.N c.args.bytes.now c.loop-entry.entry-index c.loop-entry.entry-items (Some c.in-Some.part.now) = rw c.in-Some.is at c.loop-entry.invariant in
    rw (p.1, p.2) (faulty _ _ _ _ _ _ _ _ c.loop-entry-test.true c.cut.ensures.before c.in_err-entry.ensures f)

pub loop-entry-preserved : goal.loop-entry-preserved
loop-entry-preserved g c =
    let f : Filled c.args.k g.row.N c.args.bytes.now c.loop-entry.entry-index c.loop-entry.entry-items (Some c.in-Some.part.now) = rw c.in-Some.is at c.loop-entry.invariant in
    one_more _ _ _ _ _ _ _ _ _ c.loop-entry-test.true c.cut.ensures.before c.in_ok-entry.ensures c.cut.ensures.after f
