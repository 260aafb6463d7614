use Rattle.std.proofs.Common.{Err, sym, ap, ◌∙◌}
use Rattle.planes.specs.Planes.{pair, sector}
use Rattle.planes.proofs.Checks.{modulus_inside, modulus_outside}
use Rattle.ring.specs.declared.elements.Element.{Element}
use Rattle.ring.specs.Elements.{at}
use Rattle.planar.proofs.divisor.Modulus.of.Goals as goal

pub returns-then-not-in_sector-clause-check : goal.returns-then-not-in_sector-clause-check
returns-then-not-in_sector-clause-check c =
    let e = at c.args.element.x c.args.element.y in
    let s = ap (λ (i : Element). sector c.args.plane (pair i.x i.y)) (sym c.into.ensures) ∙ sym c.in_sector.ensures ∙ c.if-not-in_sector.true in
    ap Err c.into-then-not-in_sector.ensures ∙ sym (modulus_outside c.args.plane e s)

pub returns-clause-check : goal.returns-clause-check
returns-clause-check c =
    let e = at c.args.element.x c.args.element.y in
    let s = ap (λ (i : Element). sector c.args.plane (pair i.x i.y)) (sym c.into.ensures) ∙ sym c.in_sector.ensures ∙ c.if-not-in_sector.false in
    sym (modulus_inside c.args.plane e s)
