use Rattle.std.proofs.Common.{Ok, sym, ap, ◌∙◌}
use Rattle.planes.proofs.Numbers.{count_inside}
use Rattle.planar.proofs.canonical_count.Goals as goal

pub returns : goal.returns
returns c =
    let b = c.in_ok-admit_norm.ensures.bounds in
    ap Ok c.count_before.ensures ∙ sym (count_inside c.args.p c.args.norm b.0 b.1)
