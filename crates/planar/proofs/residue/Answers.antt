use Rattle.std.proofs.Common.{◌≡◌, Ok, sym, refl, subst}
use Rattle.refusal.specs.Numbers.{then}
use Rattle.ring.specs.declared.elements.Element.{Element}
use Rattle.ring.specs.Answers.{ResidueAnswer, modulus_check, one_check, two_check}
use Rattle.ring.specs.Elements.{at}
use Rattle.ring.proofs.Checks.{meets, passes_both}
use Rattle.planes.specs.Planes.{plane}
use Rattle.planar.proofs.Admission.{given}
use Rattle.planar.proofs.Bases.{congruent, listed}
use Rattle.planar.proofs.residue.Goals as goal

pub returns : goal.returns
returns c =
    let p = c.args.p in
    let r = c.residue.result in
    let b = c.in_ok-basis_for.field-0 in
    let x = given c.in_ok-a.a c.args.a c.in_ok-a.ensures.same in
    let y = given c.in_ok-m.m c.args.m c.in_ok-m.ensures.same in
    let a = at c.in_ok-a.a.x c.in_ok-a.a.y in
    let m = at c.in_ok-m.m.x c.in_ok-m.m.y in
    let first : Ok tt ≡ one_check (plane p) a = subst (λ (i : Element). Ok tt ≡ one_check (plane p) i) (sym x) c.in_ok-a.ensures.check in
    let second : Ok tt ≡ one_check (plane p) m = subst (λ (i : Element). Ok tt ≡ one_check (plane p) i) (sym y) c.in_ok-m.ensures.check in
    let two = passes_both (one_check (plane p) a) (one_check (plane p) m) first second in
    let is = c.in_ok-basis_for.ensures.basis in
    subst (λ (i : Element). ResidueAnswer (plane p) i c.args.m (Ok r)) x (subst (λ (i : Element). ResidueAnswer (plane p) a i (Ok r)) y (meets (then (two_check (plane p) a m) (modulus_check (plane p) m)) _ r (passes_both (two_check (plane p) a m) (modulus_check (plane p) m) (sym two) c.in_ok-basis_for.ensures.check) (refl, listed p m b is a r c.residue.ensures.x c.residue.ensures.y, congruent p m b is a r c.residue.ensures.x c.residue.ensures.y)))
