use Rattle.std.proofs.Common.{sym, ap, ◌∙◌, arith, below_more}
use Rattle.planes.specs.Planes.{pair, sector}
use Rattle.planar.proofs.Turns.{doubled, low, turned_after, turned_now, turns_more}
use Rattle.planar.proofs.canonical.to_sector.Goals as goal

pub turn_of-turned-requires : goal.turn_of-turned-requires
turn_of-turned-requires c =
    let b = low c.loop-k._k (omega arith) in
    record { x_small = omega (arith, b, c.loop-k.invariant.x_bound); y_small = omega (arith, b, c.loop-k.invariant.y_bound) }

pub loop-k-preserved : goal.loop-k-preserved
loop-k-preserved c =
    let k = c.loop-k._k in
    let i = c.loop-k.invariant in
    let d = doubled k in
    record {
      turned = turns_more c.args.p k (pair c.args.e.x c.args.e.y) _ _ i.turned c.turn_of-turned.ensures.value;
      x_bound = omega (arith, d, i.x_bound, i.y_bound, c.turn_of-turned.ensures.x_bound);
      y_bound = omega (arith, d, i.x_bound, c.turn_of-turned.ensures.y_bound);
      outside = below_more _ _ i.outside (ap (sector c.args.p) (sym i.turned) ∙ sym c.in_sector.ensures ∙ c.if-in_sector.false);
    }

pub returns-then-in_sector : goal.returns-then-in_sector
returns-then-in_sector c =
    turned_now c.args.p c.loop-k._k (pair c.args.e.x c.args.e.y) _ c.loop-k.invariant.turned (sym c.in_sector.ensures ∙ c.if-in_sector.true)

pub returns : goal.returns
returns c =
    turned_after c.args.p c.loop-k._k (pair c.args.e.x c.args.e.y) _ (omega (arith, c.loop-k-test.false, c.loop-k.auto)) c.loop-k.invariant.turned c.loop-k.invariant.outside
