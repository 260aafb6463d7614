-- The elements of a ring, as mathematics has them and as the code holds them.
use Rattle.std.specs.Prelude.{◌≡◌, ℕ, ◌^◌, ◌≤◌, Bool, cond, ◌&&◌, ℤ, pos, Ok, Err, Result, nat_le, unsigned_abs}
use Rattle.std.specs.Ordering.{int_eq}
use Rattle.algebra.specs.Ring.{Ops}
use Rattle.algebra.specs.Integers.{ℤ_ops}
use Rattle.algebra.specs.Quadratic.{Quad, quad_ops}
use Rattle.refusal.specs.declared.Refusal.{Refusal}
use Rattle.refusal.specs.declared.Cause.TheVariants.{Coordinate, Index}
use Rattle.refusal.specs.Numbers.{refuse}
use Rattle.ring.specs.declared.elements.Element.{Element}
use Rattle.ring.specs.declared.elements.Coordinates.{Coordinates}
use Rattle.ring.specs.declared.elements.Coordinates.TheVariants.{One, Two}

-- whole numbers x, or pairs x + yθ
abbrev pub Carrier : Coordinates → Type 0
Carrier One = ℤ
Carrier (Two a b) = Quad ℤ

-- the exact arithmetic, where θ² = a + bθ
abbrev pub ops : (k : Coordinates) → Ops (Carrier k)
ops One = ℤ_ops
ops (Two a b) = quad_ops ℤ_ops a b

-- x + yθ
abbrev pub at : ℤ → ℤ → Element
at x y = record { x = x; y = y }

-- as the code holds it: with one coordinate, y is 0
abbrev pub element : (k : Coordinates) → Carrier k → Element
element One x = at x (pos 0)
element (Two a b) z = at z.re z.im

abbrev pub value : (k : Coordinates) → Element → Carrier k
value One e = e.x
value (Two a b) e = record { re = e.x; im = e.y }

-- e is an element of the ring
abbrev pub Member : Coordinates → Element → Type 0
Member k e = element k (value k e) ≡ e

abbrev pub same : (k : Coordinates) → Carrier k → Carrier k → Bool
same One x y = int_eq x y
same (Two a b) z w = int_eq z.re w.re && int_eq z.im w.im

-- the second coordinate's limit, where the first one's is `limit`
abbrev pub second : Coordinates → ℕ → ℕ
second One limit = 0
second (Two a b) limit = limit

-- whether e's coordinates lie from −limit to limit
abbrev pub admits : Coordinates → ℕ → Element → Bool
admits k limit e = nat_le (unsigned_abs e.x) limit && nat_le (unsigned_abs e.y) (second k limit)

-- the limit of the ring's calls
abbrev pub reach : ℕ
reach = 2 ^ 30

-- whether a call passed, without what it gave
abbrev pub passed : {X E : Type 0} → Result X E → Result (Unit {0}) E
passed (Ok x) = Ok tt
passed (Err e) = Err e

abbrev pub admitted : Coordinates → Element → Result (Unit {0}) Refusal
admitted k e = cond (admits k reach e) (Ok tt) (refuse Coordinate)

-- the canonical elements of norm 1 to 64 are numbered
abbrev pub norm_check : ℕ → Result (Unit {0}) Refusal
norm_check n = cond (nat_le 1 n && nat_le n 64) (Ok tt) (refuse Index)

-- the coordinates of z lie from −limit to limit
pub record Within (limit : ℕ) (e : Element) : Type 0 where
  pub x_bound : unsigned_abs e.x ≤ limit
  pub y_bound : unsigned_abs e.y ≤ limit

-- the coefficients of θ² = a + bθ are small
abbrev pub Mild : Coordinates → Type 0
Mild One = Unit {0}
Mild (Two a b) = (unsigned_abs a ≤ 3) × (unsigned_abs b ≤ 1)
