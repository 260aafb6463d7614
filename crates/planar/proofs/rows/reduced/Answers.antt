use Rattle.std.proofs.Common.{◌≡◌, ◌<◌, ℤ, ◌-ℤ◌, ◌*ℤ◌, nat_abs, ◌∙◌, subst, ap₂, arith}
use Rattle.std.proofs.lemmas.Int.{to_z-of_z}
use Rattle.std.specs.Int.{int_rem_euclid}
use Rattle.ring.proofs.Limits.{back}
use Rattle.planar.proofs.Wide.{wide_back, wide_difference}
use Rattle.planar.proofs.rows.reduced.Goals as goal

pub returns-clause-value : goal.returns-clause-value
returns-clause-value c =
    let r = c.rem_euclid.result in
    let d = wide_back c.from-2.result (rw c.from-2.ensures (omega arith)) ∙ c.from-2.ensures in
    let x = c.from.ensures ∙ back c.args.x c.requires.x_small in
    let p : c.wide_times.result ≡ c.args.k *ℤ c.args.y = grind (arith, to_z-of_z) in
    let w = wide_difference c.from.result c.wide_times.result (rw x (omega arith)) c.wide_times.ensures.bound ∙ ap₂ ◌-ℤ◌ x p in
    let low : nat_abs r < c.args.n = subst (λ (m : ℤ). nat_abs r < nat_abs m) d c.rem_euclid.ensures.upper_bound in
    let e = wide_back r (omega arith) in
    let f = back r (omega arith) in
    rw (e, f) (c.rem_euclid.ensures.value ∙ ap₂ int_rem_euclid w d)
