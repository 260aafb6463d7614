use Rattle.std.proofs.Common.{◌∙◌}
use Rattle.ring.proofs.Limits.{back}
use Rattle.planar.proofs.Wide.{wide_product_bound}
use Rattle.planar.proofs.division.wide_times.Goals as goal

pub returns-clause-bound : goal.returns-clause-bound
returns-clause-bound c =
    let e = c.from.ensures ∙ back c.args.a c.requires.a_small in
    let f = c.from-2.ensures ∙ back c.args.b c.requires.b_small in
    rw (e, f) (wide_product_bound c.args.a c.args.b c.requires.a_small c.requires.b_small)
