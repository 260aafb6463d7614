use Rattle.std.proofs.Common.{sym, refl, subst}
use Rattle.algebra.specs.Quadratic.{Quad}
use Rattle.std.proofs.Common.{ℤ}
use Rattle.ring.specs.Answers.{one_check}
use Rattle.ring.proofs.Checks.{meets}
use Rattle.planes.specs.Planes.{Turned, pair, plane}
use Rattle.planes.proofs.Canonical.{placed_canonical}
use Rattle.planar.proofs.canonical_associate.Goals as goal

pub returns : goal.returns
returns c =
    let r = c.to_sector.result in
    let t = subst (λ (z : Quad ℤ). Turned c.args.p z (pair r.x r.y)) c.in_ok-admit.ensures.same c.to_sector.ensures in
    meets (one_check (plane c.args.p) c.args.a) _ r (sym c.in_ok-admit.ensures.check) (refl, t.associate, placed_canonical c.args.p (pair r.x r.y) t.placed)
