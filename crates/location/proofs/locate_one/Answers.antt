use Rattle.location.proofs.Locating.{located, number_passes, outside, singular}
use Rattle.location.proofs.locate_one.Goals as goal

pub returns-then-index-eq0 : goal.returns-then-index-eq0
returns-then-index-eq0 g c = singular g.R.Ring.meaning g.met.R.Ring.laws c.args.e _ c.coordinates.ensures c.if-not-within.ensures _ c.in_ok-index.ensures _ c.if-index-eq0.true c.into-then-index-eq0.ensures

pub returns-then-index-gt-INDEX : goal.returns-then-index-gt-INDEX
returns-then-index-gt-INDEX g c = outside g.R.Ring.meaning g.met.R.Ring.laws c.args.e _ c.coordinates.ensures c.if-not-within.ensures _ c.in_ok-index.ensures c.if-index-eq0.false _ c.if-index-gt-INDEX.true c.into-then-index-gt-INDEX.ensures

pub returns-in_err-canonical_number : goal.returns-in_err-canonical_number
returns-in_err-canonical_number g c =
    absurd (number_passes g.R.Ring.meaning g.met.R.Ring.laws c.args.e _ c.coordinates.ensures c.if-not-within.ensures _ c.in_ok-index.ensures c.if-index-eq0.false c.if-index-gt-INDEX.false _ c.in_ok-form.ensures _ c.in_err-canonical_number.ensures)

pub returns : goal.returns
returns g c =
    located g.R.Ring.meaning g.met.R.Ring.laws c.args.e _ c.coordinates.ensures c.if-not-within.ensures _ c.in_ok-index.ensures c.if-index-eq0.false c.if-index-gt-INDEX.false _ c.in_ok-form.ensures _ _ c.in_ok-canonical_count.ensures c.in_ok-canonical_number.ensures
