use Rattle.std.proofs.Common.{arith}
use Rattle.std.proofs.lemmas.Int.{to_z-of_z}
use Rattle.planar.proofs.Sums.{three_less_fit}
use Rattle.planar.proofs.Forms.{hexagonal_over, square_over}
use Rattle.planar.proofs.divisor.Divisor.over.Goals as goal

pub overflow_sub-result : goal.overflow_sub-result
overflow_sub-result c = search (arith, three_less_fit)

pub returns-in-Square : goal.returns-in-Square
returns-in-Square c = record {
  value = square_over c.args.self.plane c.args.a.x c.args.a.y c.args.self.element.x c.args.self.element.y _ _ c.in-Square.is (grind (arith, to_z-of_z)) (grind (arith, to_z-of_z));
  bound = record { x_bound = grind (arith, to_z-of_z); y_bound = grind (arith, to_z-of_z) };
}

pub returns-in-Hexagonal : goal.returns-in-Hexagonal
returns-in-Hexagonal c = record {
  value = hexagonal_over c.args.self.plane c.args.a.x c.args.a.y c.args.self.element.x c.args.self.element.y _ _ c.in-Hexagonal.is (grind (arith, to_z-of_z)) (grind (arith, to_z-of_z));
  bound = record { x_bound = grind (arith, to_z-of_z); y_bound = grind (arith, to_z-of_z) };
}
