use Rattle.std.proofs.Common.{◌<◌, ◌≤◌, nat_abs, Ok, Err, sym, ap, ◌∙◌, arith}
use Rattle.std.proofs.lemmas.Int.{ints}
use Rattle.integers.proofs.Returned.{modulus_is, residue_element_is, residue_element_past, whole}
use Rattle.integers.proofs.IntegersRing.residue_element.Goals as goal

pub returns-then-number-unsigned_abs : goal.returns-then-number-unsigned_abs
returns-then-number-unsigned_abs c =
    let h : c.args.number < nat_abs c.args.m.x = grind (arith, ints) in
    ap Ok (c.from.ensures ∙ ap whole (omega (arith, ints))) ∙ sym (residue_element_is c.args.m c.in_ok-m.ensures.check (modulus_is c.args.m c.in_ok-m.m c.in_ok-m.ensures.x c.in_ok-modulus.ensures.0) c.args.number h)

pub returns-else-number-unsigned_abs : goal.returns-else-number-unsigned_abs
returns-else-number-unsigned_abs c =
    let h : nat_abs c.args.m.x ≤ c.args.number = grind (arith, ints) in
    ap Err c.into.ensures ∙ sym (residue_element_past c.args.m c.in_ok-m.ensures.check (modulus_is c.args.m c.in_ok-m.m c.in_ok-m.ensures.x c.in_ok-modulus.ensures.0) c.args.number h)
