use Rattle.std.proofs.Common.{◌≡◌, Ok, sym, ap, ◌∙◌, subst, ap₂}
use Rattle.std.specs.Option.{ok_or}
use Rattle.ring.specs.declared.elements.Element.{Element}
use Rattle.ring.specs.Answers.{modulus_check}
use Rattle.planes.specs.Planes.{plane}
use Rattle.planar.specs.Basis.{IsBasis}
use Rattle.planar.specs.Numbering.{number_of}
use Rattle.planar.proofs.Admission.{given}
use Rattle.planar.proofs.Numbered.{number_is}
use Rattle.planar.proofs.residue_number.Goals as goal

pub returns : goal.returns
returns c =
    let p = c.args.p in
    let b = c.in_ok-basis_for.field-0 in
    let x = given c.in_ok-a.a c.args.a c.in_ok-a.ensures.same in
    let y = given c.in_ok-m.m c.args.m c.in_ok-m.ensures.same in
    let is = subst (λ (i : Element). IsBasis p i b) y c.in_ok-basis_for.ensures.basis in
    let ok = subst (λ (i : Element). modulus_check (plane p) i ≡ Ok tt) y (sym c.in_ok-basis_for.ensures.check) in
    c.ok_or.ensures.value ∙ ap₂ ok_or (c.number.ensures ∙ ap (number_of b) x) c.into.ensures ∙ sym (number_is p c.args.m b is ok c.in_ok-m.ensures.check c.args.a c.in_ok-a.ensures.check)
