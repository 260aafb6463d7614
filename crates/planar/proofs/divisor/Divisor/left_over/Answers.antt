use Rattle.std.proofs.Common.{◌≡◌, ◌^◌, ◌≤◌, ℤ, ◌+ℤ◌, ◌-ℤ◌, ◌*ℤ◌, nat_abs, sym, ap, ◌∙◌, subst, arith}
use Rattle.std.proofs.lemmas.Int.{ints, to_z-of_z}
use Rattle.algebra.specs.Quadratic.{Quad}
use Rattle.planar.proofs.Forms.{hexagonal_left, square_left}
use Rattle.planar.proofs.Wide.{wide_difference, wide_difference_fits, wide_sum, wide_sum_less, wide_sum_less_fits}
use Rattle.planar.proofs.divisor.Divisor.left_over.Goals as goal

pub overflow_sub-x : goal.overflow_sub-x
overflow_sub-x c = wide_difference_fits c.wide_times.result c.wide_times-square.result c.wide_times.ensures.bound c.wide_times-square.ensures.bound

pub overflow_sub-cross : goal.overflow_sub-cross
overflow_sub-cross c = wide_sum_less_fits c.wide_times-2.result c.wide_times-3.result c.wide_times-2.ensures.bound c.wide_times-3.ensures.bound c.wide_times-square.result c.wide_times-square.ensures.bound

pub less-requires : goal.less-requires
less-requires c =
    let b = c.args.self.element in
    let q = c.args.q in
    let e = wide_difference c.wide_times.result c.wide_times-square.result c.wide_times.ensures.bound c.wide_times-square.ensures.bound in
    let f = wide_sum c.wide_times-2.result c.wide_times-3.result c.wide_times-2.ensures.bound c.wide_times-3.ensures.bound in
    let x : c.wide_times.result -ℤ c.wide_times-square.result ≡ q.x *ℤ b.x -ℤ q.y *ℤ b.y = grind (arith, to_z-of_z) in
    let y : c.wide_times-2.result +ℤ c.wide_times-3.result ≡ q.x *ℤ b.y +ℤ q.y *ℤ b.x = grind (arith, to_z-of_z) in
    let same = square_left c.args.self.plane c.args.a.x c.args.a.y b.x b.y q.x q.y (c.wide_times.result -ℤ c.wide_times-square.result) (c.wide_times-2.result +ℤ c.wide_times-3.result) c.in-Square.is x y in
    rw (e, f) (record {
      x_small = grind (arith, ints);
      y_small = grind (arith, ints);
      little_x = subst (λ (z : ℤ). nat_abs z ≤ 2 ^ 62) (sym (ap (λ (z : Quad ℤ). z.re) same)) c.requires.little_left.x_bound;
      little_y = subst (λ (z : ℤ). nat_abs z ≤ 2 ^ 62) (sym (ap (λ (z : Quad ℤ). z.im) same)) c.requires.little_left.y_bound;
    })

pub returns-in-Square : goal.returns-in-Square
returns-in-Square c =
    let b = c.args.self.element in
    let q = c.args.q in
    let e = wide_difference c.wide_times.result c.wide_times-square.result c.wide_times.ensures.bound c.wide_times-square.ensures.bound in
    let f = wide_sum c.wide_times-2.result c.wide_times-3.result c.wide_times-2.ensures.bound c.wide_times-3.ensures.bound in
    let x : c.wide_times.result -ℤ c.wide_times-square.result ≡ q.x *ℤ b.x -ℤ q.y *ℤ b.y = grind (arith, to_z-of_z) in
    let y : c.wide_times-2.result +ℤ c.wide_times-3.result ≡ q.x *ℤ b.y +ℤ q.y *ℤ b.x = grind (arith, to_z-of_z) in
    let r = rw (e, f) at c.less.ensures in
    r ∙ square_left c.args.self.plane c.args.a.x c.args.a.y b.x b.y q.x q.y (c.wide_times.result -ℤ c.wide_times-square.result) (c.wide_times-2.result +ℤ c.wide_times-3.result) c.in-Square.is x y

pub less-requires-in-Hexagonal : goal.less-requires-in-Hexagonal
less-requires-in-Hexagonal c =
    let b = c.args.self.element in
    let q = c.args.q in
    let e = wide_difference c.wide_times.result c.wide_times-square.result c.wide_times.ensures.bound c.wide_times-square.ensures.bound in
    let f = wide_sum_less c.wide_times-2.result c.wide_times-3.result c.wide_times-2.ensures.bound c.wide_times-3.ensures.bound c.wide_times-square.result c.wide_times-square.ensures.bound in
    let x : c.wide_times.result -ℤ c.wide_times-square.result ≡ q.x *ℤ b.x -ℤ q.y *ℤ b.y = grind (arith, to_z-of_z) in
    let y : c.wide_times-2.result +ℤ c.wide_times-3.result -ℤ c.wide_times-square.result ≡ q.x *ℤ b.y +ℤ q.y *ℤ b.x -ℤ q.y *ℤ b.y = grind (arith, to_z-of_z) in
    let same = hexagonal_left c.args.self.plane c.args.a.x c.args.a.y b.x b.y q.x q.y (c.wide_times.result -ℤ c.wide_times-square.result) (c.wide_times-2.result +ℤ c.wide_times-3.result -ℤ c.wide_times-square.result) c.in-Hexagonal.is x y in
    rw (e, f) (record {
      x_small = grind (arith, ints);
      y_small = grind (arith, ints);
      little_x = subst (λ (z : ℤ). nat_abs z ≤ 2 ^ 62) (sym (ap (λ (z : Quad ℤ). z.re) same)) c.requires.little_left.x_bound;
      little_y = subst (λ (z : ℤ). nat_abs z ≤ 2 ^ 62) (sym (ap (λ (z : Quad ℤ). z.im) same)) c.requires.little_left.y_bound;
    })

pub returns-in-Hexagonal : goal.returns-in-Hexagonal
returns-in-Hexagonal c =
    let b = c.args.self.element in
    let q = c.args.q in
    let e = wide_difference c.wide_times.result c.wide_times-square.result c.wide_times.ensures.bound c.wide_times-square.ensures.bound in
    let f = wide_sum_less c.wide_times-2.result c.wide_times-3.result c.wide_times-2.ensures.bound c.wide_times-3.ensures.bound c.wide_times-square.result c.wide_times-square.ensures.bound in
    let x : c.wide_times.result -ℤ c.wide_times-square.result ≡ q.x *ℤ b.x -ℤ q.y *ℤ b.y = grind (arith, to_z-of_z) in
    let y : c.wide_times-2.result +ℤ c.wide_times-3.result -ℤ c.wide_times-square.result ≡ q.x *ℤ b.y +ℤ q.y *ℤ b.x -ℤ q.y *ℤ b.y = grind (arith, to_z-of_z) in
    let r = rw (e, f) at c.less-in-Hexagonal.ensures in
    r ∙ hexagonal_left c.args.self.plane c.args.a.x c.args.a.y b.x b.y q.x q.y (c.wide_times.result -ℤ c.wide_times-square.result) (c.wide_times-2.result +ℤ c.wide_times-3.result -ℤ c.wide_times-square.result) c.in-Hexagonal.is x y
