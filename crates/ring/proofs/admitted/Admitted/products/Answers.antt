use Rattle.std.proofs.Common.{arith}
use Rattle.ring.proofs.Limits.{coordinates_bound, coordinates_fit, coordinates_product}
use Rattle.ring.proofs.admitted.Admitted.products.Goals as goal

pub overflow_mul-result : goal.overflow_mul-result
overflow_mul-result c = search (arith, coordinates_fit)

pub overflow_mul-result-2 : goal.overflow_mul-result-2
overflow_mul-result-2 c = search (arith, coordinates_fit)

pub overflow_mul-result-3 : goal.overflow_mul-result-3
overflow_mul-result-3 c = search (arith, coordinates_fit)

pub overflow_mul-result-4 : goal.overflow_mul-result-4
overflow_mul-result-4 c = search (arith, coordinates_fit)

pub invariant_of-result : goal.invariant_of-result
invariant_of-result c =
    record {
      xx_bound = search (arith, coordinates_bound);
      xy_bound = search (arith, coordinates_bound);
      yx_bound = search (arith, coordinates_bound);
      yy_bound = search (arith, coordinates_bound);
    }

pub returns : goal.returns
returns c =
    let a = c.args.self in
    let b = c.args.other in
    record {
      xx = coordinates_product a.x b.x a.x_bound b.x_bound;
      xy = coordinates_product a.x b.y a.x_bound b.y_bound;
      yx = coordinates_product a.y b.x a.y_bound b.x_bound;
      yy = coordinates_product a.y b.y a.y_bound b.y_bound;
    }
