use Rattle.std.proofs.Common.{◌≡◌, true, ◌-ℤ◌, neg_ℤ, nat_abs, subst, arith}
use Rattle.std.proofs.lemmas.Int.{to_z-of_z}
use Rattle.planes.specs.declared.Plane.{Plane}
use Rattle.planes.specs.declared.Plane.TheVariants.{Square, Hexagonal}
use Rattle.planes.specs.Planes.{pair, sector}
use Rattle.ring.specs.Elements.{at}
use Rattle.ring.proofs.Limits.{back}
use Rattle.planar.proofs.Multiples.{natural_difference, rows_hexagonal, rows_same, rows_square}
use Rattle.planar.proofs.rows.Rows.of.Goals as goal

pub invariant_of-result-in-Hexagonal : goal.invariant_of-result-in-Hexagonal
invariant_of-result-in-Hexagonal c =
    let m = c.args.modulus.divisor in
    let e = m.element in
    let s = subst (λ (q : Plane). sector q (pair e.x e.y) ≡ true) c.in-Hexagonal.is c.args.modulus.inside in
    let d = natural_difference e.x e.y s in
    let r : c.unsigned_abs-in-Hexagonal.result ≡ nat_abs (e.x -ℤ e.y) = grind (arith, to_z-of_z) in
    record { x_bound = grind (arith, to_z-of_z); y_bound = omega (arith, r, d.1, e.x_bound) }

pub returns-in-Square-clause-are : goal.returns-in-Square-clause-are
returns-in-Square-clause-are c =
    let m = c.args.modulus.divisor in
    let e = at m.element.x m.element.y in
    let s = subst (λ (q : Plane). sector q (pair e.x e.y) ≡ true) c.in-Square.is c.args.modulus.inside in
    rows_same m.plane Square e _ e.x _ (nat_abs e.y) _ (neg_ℤ e.y) _ (nat_abs e.x) c.in-Square.is (back e.x (omega arith)) (grind (arith, to_z-of_z)) (grind (arith, to_z-of_z)) (grind (arith, to_z-of_z)) (rows_square e s)

pub returns-in-Hexagonal-clause-are : goal.returns-in-Hexagonal-clause-are
returns-in-Hexagonal-clause-are c =
    let m = c.args.modulus.divisor in
    let e = at m.element.x m.element.y in
    let s = subst (λ (q : Plane). sector q (pair e.x e.y) ≡ true) c.in-Hexagonal.is c.args.modulus.inside in
    rows_same m.plane Hexagonal e _ e.x _ (nat_abs e.y) _ (neg_ℤ e.y) _ (nat_abs (e.x -ℤ e.y)) c.in-Hexagonal.is (back e.x (omega arith)) (grind (arith, to_z-of_z)) (grind (arith, to_z-of_z)) (grind (arith, to_z-of_z)) (rows_hexagonal e s)
