use Rattle.std.proofs.Common.{◌^◌, arith, lit≤}
use Rattle.std.proofs.lemmas.Int.{to_z-of_z}
use Rattle.ring.proofs.Limits.{product_bound, product_fits, product_is, three_fit, two_fit}
use Rattle.ring.proofs.arithmetic.product_two.Goals as goal

pub overflow_mul-result : goal.overflow_mul-result
overflow_mul-result c =
    let d = c.products-p.result in
    product_fits c.args.s d.yy 3 (2 ^ 60) c.requires.s_small d.yy_bound (lit≤ tt) (lit≤ tt) (lit≤ tt)

pub overflow_mul-result-2 : goal.overflow_mul-result-2
overflow_mul-result-2 c =
    let d = c.products-p.result in
    product_fits c.args.t d.yy 1 (2 ^ 60) c.requires.t_small d.yy_bound (lit≤ tt) (lit≤ tt) (lit≤ tt)

pub overflow_add-result : goal.overflow_add-result
overflow_add-result c =
    let d = c.products-p.result in
    let e = product_is c.args.s d.yy 3 (2 ^ 60) c.requires.s_small d.yy_bound (lit≤ tt) (lit≤ tt) (lit≤ tt) in
    let b = product_bound c.args.s d.yy 3 (2 ^ 60) c.requires.s_small d.yy_bound (lit≤ tt) (lit≤ tt) (lit≤ tt) in
    rw e (search (arith, two_fit, b))

pub overflow_add-result-3 : goal.overflow_add-result-3
overflow_add-result-3 c =
    let d = c.products-p.result in
    let e = product_is c.args.t d.yy 1 (2 ^ 60) c.requires.t_small d.yy_bound (lit≤ tt) (lit≤ tt) (lit≤ tt) in
    let b = product_bound c.args.t d.yy 1 (2 ^ 60) c.requires.t_small d.yy_bound (lit≤ tt) (lit≤ tt) (lit≤ tt) in
    rw e (search (arith, three_fit, b))

pub returns : goal.returns
returns c =
    let d = c.products-p.result in
    let e = product_is c.args.s d.yy 3 (2 ^ 60) c.requires.s_small d.yy_bound (lit≤ tt) (lit≤ tt) (lit≤ tt) in
    let b = product_bound c.args.s d.yy 3 (2 ^ 60) c.requires.s_small d.yy_bound (lit≤ tt) (lit≤ tt) (lit≤ tt) in
    let f = product_is c.args.t d.yy 1 (2 ^ 60) c.requires.t_small d.yy_bound (lit≤ tt) (lit≤ tt) (lit≤ tt) in
    let g = product_bound c.args.t d.yy 1 (2 ^ 60) c.requires.t_small d.yy_bound (lit≤ tt) (lit≤ tt) (lit≤ tt) in
    rw (e, f) (grind (arith, to_z-of_z, b, g))
