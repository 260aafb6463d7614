use Rattle.std.proofs.Common.{sym, ◌∙◌, ap₂}
use Rattle.std.specs.Option.{ok_or}
use Rattle.planes.proofs.Numbers.{element_inside}
use Rattle.planar.proofs.canonical_element.Goals as goal

pub returns : goal.returns
returns c =
    let b = c.in_ok-admit_norm.ensures.bounds in
    c.ok_or.ensures.value ∙ ap₂ ok_or c.nth.ensures c.into.ensures ∙ sym (element_inside c.args.p c.args.norm b.0 b.1 c.args.number)
