use Rattle.std.proofs.Common.{rules, length, filter, ap, ◌∙◌, arith}
use borrow.Author.Tests.{tests}
use Rattle.std.proofs.lemmas.Iterator.{YieldsList-from_range, YieldsList-from_map_by}
use Rattle.std.proofs.lemmas.Iterator.Consumers.{YieldsList-at, YieldsList-from_filter, count_from_yields_List}
use Rattle.planes.specs.Planes.{canonical_of, pair, point}
use Rattle.planes.proofs.Points.{first_near}
use Rattle.planar.proofs.canonical.Canonicals.count_before.Goals as goal

pub returns : goal.returns
returns c =
    let points = YieldsList-from_map_by _ (λ a. pair a.x a.y) (point 9) (YieldsList-from_range 0 c.args.end c.args.end (cc) (omega arith)) c.map.ensures.closure (λ x r q k. search (rules, tests)) in
    let kept = YieldsList-from_filter _ (canonical_of c.args.self.plane c.args.self.norm) (YieldsList-at c.filter.ensures.source points) c.filter.ensures.closure (λ x r q k. search (rules, tests)) in
    count_from_yields_List _ _ c.count.ensures.ran kept ∙ ap (λ xs. length (filter (canonical_of c.args.self.plane c.args.self.norm) xs)) (first_near c.args.end c.requires)
