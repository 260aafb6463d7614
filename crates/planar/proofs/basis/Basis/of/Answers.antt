use Rattle.std.proofs.Common.{◌≡◌, ap, ◌∙◌, arith}
use Rattle.planes.specs.Planes.{content, pair}
use Rattle.ring.specs.Elements.{at}
use Rattle.ring.proofs.Limits.{back}
use Rattle.planar.specs.Rows.{AreRows}
use Rattle.planar.specs.declared.divisor.Modulus.{Modulus}
use Rattle.planar.specs.declared.rows.Rows.{Rows}
use Rattle.planar.proofs.Bases as bases
use Rattle.planar.proofs.Multiples.{last_content}
use Rattle.planar.proofs.basis.Basis.of.Goals as goal

-- where the second row has no second coordinate, the first one's is the modulus's content
ended : (r : Rows) (d : Modulus) → AreRows r → r.modulus ≡ d → r.second.y ≡ 0 → r.first.y ≡ content (pair d.divisor.element.x d.divisor.element.y)
ended r d are same none =
    let m = r.modulus.divisor in
    last_content m.plane (at m.element.x m.element.y) r.first.x r.first.y r.second.x r.second.y are none ∙ ap (λ (e : Modulus). content (pair e.divisor.element.x e.divisor.element.y)) same

pub nonzero_div-result : goal.nonzero_div-result
nonzero_div-result c =
    let d = c.args.modulus.divisor in
    let i = c.loop-rows.invariant in
    bases.content_some d.plane (at d.element.x d.element.y) d.norm c.loop-rows.rows.first.y d.norm_is d.some (ended c.loop-rows.rows c.args.modulus i.are i.modulus c.loop-rows-test.false)

pub invariant_of-result : goal.invariant_of-result
invariant_of-result c =
    let d = c.args.modulus.divisor in
    let m = at d.element.x d.element.y in
    let i = c.loop-rows.invariant in
    let row = c.loop-rows.rows.first in
    let e = ended c.loop-rows.rows c.args.modulus i.are i.modulus c.loop-rows-test.false in
    let b = back row.x (omega (arith, row.x_bound)) in
    record {
      step_bound = rw b row.x_bound;
      content_some = bases.content_some d.plane m d.norm row.y d.norm_is d.some e;
      content_bound = row.y_bound;
      width_some = bases.width_some d.plane m d.norm row.y d.norm_is d.some e;
      product = bases.product d.plane m d.norm row.y d.norm_is d.some e;
      few = d.few;
    }
