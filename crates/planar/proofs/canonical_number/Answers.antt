use Rattle.std.proofs.Common.{ℕ, ◌<◌, ◌≤◌, length, take, Ok, Err, filter, sym, ap, ◌∙◌, subst, ⊎_elim, arith}
use Rattle.ring.specs.Answers.{one_check}
use Rattle.ring.proofs.Checks.{passes}
use Rattle.planes.specs.Planes.{canonical_of, near, norm, pair, plane}
use Rattle.planes.proofs.Numbers.{number_inside, number_large, number_outside, sector_near}
use Rattle.planar.proofs.canonical_number.Goals as goal

pub returns-then-not-in_sector : goal.returns-then-not-in_sector
returns-then-not-in_sector c =
    let p = c.args.p in
    let a = c.args.a in
    let n = c.norm_of-norm.ensures.value ∙ ap (norm p) c.in_ok-admit.ensures.same in
    let ok = passes (one_check (plane p) a) _ _ (sym c.in_ok-admit.ensures.check) in
    ap Err c.into.ensures ∙ sym (ok ∙ ⊎_elim (λ f. number_outside p a (sym c.in_sector.ensures ∙ f)) (λ g. number_large p a (subst (λ (k : ℕ). 64 < k) n g.1)) c.then-not-in_sector.either)

pub index_of-requires-clause-x_high : goal.index_of-requires-clause-x_high
index_of-requires-clause-x_high c =
    let n = c.norm_of-norm.ensures.value ∙ ap (norm c.args.p) c.in_ok-admit.ensures.same in
    (sector_near c.args.p (pair c.args.a.x c.args.a.y) (sym c.if-not-in_sector.ensures) (subst (λ (k : ℕ). k ≤ 64) n c.if-norm-gt64.false)).x_high

pub index_of-requires-clause-y_high : goal.index_of-requires-clause-y_high
index_of-requires-clause-y_high c =
    let n = c.norm_of-norm.ensures.value ∙ ap (norm c.args.p) c.in_ok-admit.ensures.same in
    (sector_near c.args.p (pair c.args.a.x c.args.a.y) (sym c.if-not-in_sector.ensures) (subst (λ (k : ℕ). k ≤ 64) n c.if-norm-gt64.false)).y_high

pub count_before-requires : goal.count_before-requires
count_before-requires c =
    let s = sym c.if-not-in_sector.ensures in
    let n = c.norm_of-norm.ensures.value ∙ ap (norm c.args.p) c.in_ok-admit.ensures.same in
    let b = subst (λ (k : ℕ). k ≤ 64) n c.if-norm-gt64.false in
    let z = (sector_near c.args.p (pair c.args.a.x c.args.a.y) s b).inside in
    omega (arith, z, c.index_of.ensures)

pub returns : goal.returns
returns c =
    let p = c.args.p in
    let a = c.args.a in
    let s = sym c.if-not-in_sector.ensures in
    let n = c.norm_of-norm.ensures.value ∙ ap (norm p) c.in_ok-admit.ensures.same in
    let b = subst (λ (k : ℕ). k ≤ 64) n c.if-norm-gt64.false in
    let ok = passes (one_check (plane p) a) _ _ (sym c.in_ok-admit.ensures.check) in
    ap Ok (c.count_before.ensures ∙ ap (λ (k : ℕ). length (filter (canonical_of p k) (take c.index_of.result near))) n ∙ ap (λ (i : ℕ). length (filter (canonical_of p (norm p (pair a.x a.y))) (take i near))) c.index_of.ensures) ∙ sym (ok ∙ number_inside p a s b)
