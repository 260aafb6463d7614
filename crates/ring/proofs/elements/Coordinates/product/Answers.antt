use Rattle.std.proofs.Common.{sym, ◌∙◌, subst, ap₂, arith}
use Rattle.ring.specs.declared.elements.Coordinates.TheVariants.{Two}
use Rattle.ring.specs.Elements.{Mild, at}
use Rattle.ring.proofs.Limits.{back, coordinates_fit, coordinates_product, product_at, product_one}
use Rattle.ring.proofs.elements.Coordinates.product.Goals as goal

pub overflow_mul-a : goal.overflow_mul-a
overflow_mul-a c = coordinates_fit c.args.a.x c.args.b.x c.args.a.x_bound c.args.b.x_bound

pub returns-in-One : goal.returns-in-One
returns-in-One c = c.from.ensures ∙ product_one c.args.self (at c.args.a.x c.args.a.y) (at c.args.b.x c.args.b.y) c.in-One.is _ (coordinates_product c.args.a.x c.args.b.x c.args.a.x_bound c.args.b.x_bound)

pub returns-in-Two : goal.returns-in-Two
returns-in-Two c =
    let mild : Mild (Two c.in-Two.s c.in-Two.t) = subst Mild c.in-Two.is c.requires in
    let s = back c.in-Two.s (omega arith) in
    let t = back c.in-Two.t (omega arith) in
    product_at c.args.self (at c.args.a.x c.args.a.y) (at c.args.b.x c.args.b.y) _ (c.in-Two.is ∙ ap₂ Two (sym s) (sym t)) _ c.product_two.ensures
