use Rattle.std.proofs.Common.{◌≡◌, ◌<◌, ◌≤◌, ℤ, pos, ◌+ℤ◌, nat_abs, ◌∙◌, subst, ap₂, arith, w64}
use Rattle.std.proofs.lemmas.Int.{ints, to_z_pos}
use Rattle.std.specs.Int.{int_div_euclid, int_rem_euclid}
use Rattle.ring.proofs.Limits.{back, fits}
use Rattle.planar.proofs.Rounding.{next, past_half, quotient_bound, rounded_bound, rounds_down, rounds_up, this, up_to_half}
use Rattle.planar.proofs.divisor.Divisor.nearest.Goals as goal

pub overflow_add-result : goal.overflow_add-result
overflow_add-result c =
    let z = c.args.z in
    let n = c.args.self.norm in
    let q = c.div_euclid-below.result in
    let e : q ≡ int_div_euclid z (pos n) = c.div_euclid-below.ensures ∙ ap₂ int_div_euclid (back z (omega arith)) (to_z_pos w64 n (omega arith)) in
    let b : nat_abs q ≤ nat_abs z = rw e (quotient_bound z n) in
    rw (back q (omega (arith, b))) (fits (q +ℤ pos 1) (omega (arith, ints, b)))

pub returns-then-rest-n : goal.returns-then-rest-n
returns-then-rest-n c =
    let z = c.args.z in
    let n = c.args.self.norm in
    let q = c.div_euclid-below.result in
    let r = c.rem_euclid-rest.result in
    let d = to_z_pos w64 n (omega arith) in
    let e : q ≡ int_div_euclid z (pos n) = c.div_euclid-below.ensures ∙ ap₂ int_div_euclid (back z (omega arith)) d in
    let f : r ≡ int_rem_euclid z (pos n) = c.rem_euclid-rest.ensures.value ∙ ap₂ int_rem_euclid (back z (omega arith)) d in
    let below : nat_abs r < n = subst (λ (m : ℤ). nat_abs r < nat_abs m) d c.rem_euclid-rest.ensures.upper_bound in
    let b = rounded_bound z n q r c.args.self.some e f in
    let up = rounds_up z n q r c.args.self.some e f (past_half n r c.rem_euclid-rest.ensures.lower_bound below c.args.self.few c.if-rest-n.true) in
    next z n q (omega (arith, b)) up

pub returns-else-rest-n : goal.returns-else-rest-n
returns-else-rest-n c =
    let z = c.args.z in
    let n = c.args.self.norm in
    let q = c.div_euclid-below.result in
    let r = c.rem_euclid-rest.result in
    let d = to_z_pos w64 n (omega arith) in
    let e : q ≡ int_div_euclid z (pos n) = c.div_euclid-below.ensures ∙ ap₂ int_div_euclid (back z (omega arith)) d in
    let f : r ≡ int_rem_euclid z (pos n) = c.rem_euclid-rest.ensures.value ∙ ap₂ int_rem_euclid (back z (omega arith)) d in
    let below : nat_abs r < n = subst (λ (m : ℤ). nat_abs r < nat_abs m) d c.rem_euclid-rest.ensures.upper_bound in
    let b = rounded_bound z n q r c.args.self.some e f in
    let down = rounds_down z n q r c.args.self.some e f (up_to_half n r c.rem_euclid-rest.ensures.lower_bound below c.args.self.few c.if-rest-n.false) in
    this z n q (omega (arith, b)) down
