use Rattle.std.proofs.Common.{arith}
use Rattle.std.proofs.lemmas.Int.{to_z-of_z}
use Rattle.planar.proofs.Sums.{three_less_fit}
use Rattle.planar.proofs.Forms.{hexagonal_form, square_form}
use Rattle.planar.proofs.norms.form_of.Goals as goal

pub overflow_sub-result : goal.overflow_sub-result
overflow_sub-result c = search (arith, three_less_fit)

pub returns-in-Square : goal.returns-in-Square
returns-in-Square c = record {
  value = square_form c.args.p c.args.e.x c.args.e.y _ c.in-Square.is (grind (arith, to_z-of_z));
  bound = grind (arith, to_z-of_z);
}

pub returns-in-Hexagonal : goal.returns-in-Hexagonal
returns-in-Hexagonal c = record {
  value = hexagonal_form c.args.p c.args.e.x c.args.e.y _ c.in-Hexagonal.is (grind (arith, to_z-of_z));
  bound = grind (arith, to_z-of_z);
}
