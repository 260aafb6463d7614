use Rattle.std.proofs.Common.{◌≡◌, Ok, Err, sym, ap, ◌∙◌, subst}
use Rattle.ring.specs.declared.elements.Element.{Element}
use Rattle.ring.specs.Answers.{modulus_check}
use Rattle.planes.specs.Planes.{plane}
use Rattle.planar.specs.Basis.{IsBasis}
use Rattle.planar.proofs.Admission.{given}
use Rattle.planar.proofs.Numbered.{element_inside, element_past}
use Rattle.planar.proofs.residue_element.Goals as goal

pub returns-then-number-basis : goal.returns-then-number-basis
returns-then-number-basis c =
    let p = c.args.p in
    let y = given c.in_ok-admit.field-0 c.args.m c.in_ok-admit.ensures.same in
    let is = subst (λ (i : Element). IsBasis p i c.in_ok-basis.basis) y c.in_ok-basis.ensures.basis in
    let ok = subst (λ (i : Element). modulus_check (plane p) i ≡ Ok tt) y (sym c.in_ok-basis.ensures.check) in
    ap Err c.into.ensures ∙ sym (element_past p c.args.m c.in_ok-basis.basis is ok c.in_ok-admit.ensures.check c.args.number c.if-number-basis.true)

pub returns : goal.returns
returns c =
    let p = c.args.p in
    let y = given c.in_ok-admit.field-0 c.args.m c.in_ok-admit.ensures.same in
    let is = subst (λ (i : Element). IsBasis p i c.in_ok-basis.basis) y c.in_ok-basis.ensures.basis in
    let ok = subst (λ (i : Element). modulus_check (plane p) i ≡ Ok tt) y (sym c.in_ok-basis.ensures.check) in
    ap Ok c.residue_at.ensures ∙ sym (element_inside p c.args.m c.in_ok-basis.basis is ok c.in_ok-admit.ensures.check c.args.number c.if-number-basis.false)
