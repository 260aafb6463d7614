use Rattle.std.proofs.Common.{Err, sym, refl, ap, ◌∙◌, subst}
use Rattle.refusal.specs.declared.Refusal.{Refusal}
use Rattle.refusal.specs.Numbers.{then}
use Rattle.ring.specs.declared.elements.Element.{Element}
use Rattle.ring.specs.Answers.{DivisionAnswer, divisor_check, one_check, two_check}
use Rattle.ring.proofs.Checks.{meets, passes_both, refuses, passes}
use Rattle.planes.specs.Planes.{norm, plane}
use Rattle.planes.proofs.Checks.{divisor_none, divisor_some}
use Rattle.planar.specs.Division.{Divided}
use Rattle.planar.proofs.Admission.{divided, divisor_norm, given}
use Rattle.planar.proofs.divide.Goals as goal

pub returns-in_default : goal.returns-in_default
returns-in_default c =
    let m = plane c.args.p in
    let a = c.args.a in
    let b = c.args.b in
    let two = passes_both (one_check m a) (one_check m b) c.in_ok-a.ensures.check c.in_ok-b.ensures.check in
    let zero = divisor_none c.args.p b (ap (norm c.args.p) (sym c.in_ok-b.ensures.same) ∙ c.in_default.ensures.none.0 refl) in
    subst (λ (f : Refusal). DivisionAnswer m a b (Err f)) (sym c.into.ensures) (refuses (then (two_check m a b) (divisor_check m b)) _ _ (passes (two_check m a b) tt (divisor_check m b) two ∙ zero))

pub returns : goal.returns
returns c =
    let p = c.args.p in
    let m = plane p in
    let a = c.args.a in
    let b = c.args.b in
    let two = passes_both (one_check m a) (one_check m b) c.in_ok-a.ensures.check c.in_ok-b.ensures.check in
    let k = c.in-Some.ensures in
    let divisor = divisor_some p b (divisor_norm p c.in_ok-b.b b c.in_ok-b.ensures.same c.in-Some.divisor k.plane k.element) in
    let r = c.divide.result in
    let d = subst (λ (x : Element). Divided m x b r) (given c.in_ok-a.a a c.in_ok-a.ensures.same) (divided p c.in_ok-b.b b c.in_ok-b.ensures.same c.in-Some.divisor k.plane k.element _ r c.divide.ensures) in
    meets (then (two_check m a b) (divisor_check m b)) _ r (passes (two_check m a b) tt (divisor_check m b) two ∙ divisor) (d.quotient_member, d.remainder_member, d.law)
