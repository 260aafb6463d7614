use Rattle.std.proofs.Common.{rules, filter, ap, ◌∙◌, arith}
use borrow.Author.Tests.{tests}
use Rattle.std.specs.List.{slice_get}
use Rattle.std.proofs.lemmas.Iterator.{YieldsList-from_range, YieldsList-from_map_by}
use Rattle.std.proofs.lemmas.Iterator.Consumers.{YieldsList-at, YieldsList-from_filter, nth_from_yields_List}
use Rattle.planes.specs.Planes.{canonical_of, pair, point}
use Rattle.planes.proofs.Points.{points_near}
use Rattle.planar.proofs.canonical.Canonicals.nth.Goals as goal

pub returns : goal.returns
returns c =
    let points = YieldsList-from_map_by _ (λ a. pair a.x a.y) (point 9) (YieldsList-from_range 0 81 81 (cc) (omega arith)) c.map.ensures.closure (λ x r q k. search (rules, tests)) in
    let kept = YieldsList-from_filter _ (canonical_of c.args.self.plane c.args.self.norm) (YieldsList-at c.filter.ensures.source points) c.filter.ensures.closure (λ x r q k. search (rules, tests)) in
    let found = nth_from_yields_List _ _ _ c.nth.ensures.ran kept ∙ ap (λ xs. slice_get (filter (canonical_of c.args.self.plane c.args.self.norm) xs) c.args.number) points_near in
    rw (← found) (search (rules, tests))
