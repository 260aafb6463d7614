use Rattle.std.proofs.lemmas.Result.{err_from_is_err_and}
use Rattle.ideal.proofs.Congruence.{compared, not_reduced, reduced_too}
use Rattle.ideal.proofs.congruent.Goals as goal

pub returns-in_err-residue : goal.returns-in_err-residue
returns-in_err-residue g c =
    let p = err_from_is_err_and c.from_residual-in_err-residue.result c.from_residual-in_err-residue.ensures.1 in
    rw (p.1, p.2) (not_reduced g.R.Ring.meaning _ c.coordinates.ensures c.args.a c.args.b c.args.m c.in_ok-admit.ensures.check _ c.in_err-residue.ensures)

pub returns-in_err-residue-2 : goal.returns-in_err-residue-2
returns-in_err-residue-2 g c =
    absurd (reduced_too g.R.Ring.meaning _ c.coordinates.ensures c.args.a c.args.b c.args.m c.in_ok-admit.ensures.check _ c.in_ok-residue.ensures _ c.in_err-residue-2.ensures)

pub returns : goal.returns
returns g c =
    compared g.R.Ring.meaning _ c.coordinates.ensures c.args.a c.args.b c.args.m c.in_ok-admit.ensures.check _ c.in_ok-residue.ensures g.met.R.Ring.laws _ c.in_ok-residue-2.ensures _ c.eq.ensures
