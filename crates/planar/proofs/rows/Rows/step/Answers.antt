use Rattle.std.proofs.Common.{◌≡◌, ◌/◌, pos, ◌-ℤ◌, ◌*ℤ◌, div-le_self, arith, w64}
use Rattle.std.specs.Int.{int_rem_euclid}
use Rattle.std.proofs.lemmas.Int.{to_z_pos}
use Rattle.ring.specs.Elements.{at}
use Rattle.ring.proofs.Limits.{back}
use Rattle.planar.proofs.Multiples.{rows_more}
use Rattle.planar.proofs.rows.Rows.step.Goals as goal

pub returns-clause-are : goal.returns-clause-are
returns-clause-are c =
    let d = c.args.self.modulus.divisor in
    let row = c.args.self.first in
    let next = c.args.self.second in
    let r = c.reduced.result in
    let e = back r (omega arith) in
    let bx = back row.x (omega arith) in
    let bn = back next.x (omega arith) in
    let few = div-le_self row.y next.y in
    let bk = to_z_pos w64 (row.y / next.y) (omega arith) in
    let v : r ≡ int_rem_euclid (row.x -ℤ pos (row.y / next.y) *ℤ next.x) (pos d.norm) = rw (bx, bk, bn) at c.reduced.ensures.value in
    rw e (rows_more d.plane (at d.element.x d.element.y) row.x row.y next.x next.y d.norm c.requires.are c.requires.some d.norm_is d.some r v)
