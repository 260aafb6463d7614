-- The rings of pairs x + yθ with θ² = −1 + tθ, for t = 0 and t = −1.
use Rattle.std.specs.Prelude.{◌≡◌, ℕ, zero, suc, ◌+◌, ◌*◌, ◌/◌, ◌%◌, ◌≤◌, Bool, true, ◌&&◌, ◌⊎◌, List, [], ◌∷◌, map, ℤ, pos, negsuc, ◌-ℤ◌, ◌*ℤ◌, neg_ℤ, filter, ◌==◌, int_le, int_lt, unsigned_abs}
use Rattle.std.specs.List.{range_with_len}
use Rattle.algebra.specs.Integers.{ℤ_ops}
use Rattle.algebra.specs.Divisors.{Associate, gcd, sub}
use Rattle.algebra.specs.Quadratic.{Quad, conjugate, norm_form, quad_ops}
use Rattle.ring.specs.declared.elements.Coordinates.{Coordinates}
use Rattle.ring.specs.declared.elements.Coordinates.TheVariants.{Two}
use Rattle.ring.specs.Meaning.{Meaning}
use Rattle.planes.specs.declared.Plane.{Plane}
use Rattle.planes.specs.declared.Plane.TheVariants.{Square, Hexagonal}

abbrev pub trace : Plane → ℤ
trace Square = pos 0
trace Hexagonal = negsuc 0

abbrev pub axes : Plane → Coordinates
axes p = Two (negsuc 0) (trace p)

abbrev pub pair : ℤ → ℤ → Quad ℤ
pair x y = record { re = x; im = y }

-- x² + y² in the square plane, x² − xy + y² in the hexagonal one
abbrev pub norm : Plane → Quad ℤ → ℕ
norm p z = unsigned_abs (norm_form ℤ_ops (negsuc 0) (trace p) z)

-- the canonical elements but 0 lie in one sector: a fourth or a sixth of the plane
abbrev pub sector : Plane → Quad ℤ → Bool
sector Square z = int_lt (pos 0) z.re && int_le (pos 0) z.im
sector Hexagonal z = int_le (pos 0) z.im && int_lt z.im z.re

-- the points with x from 1 to w, row after row from y = 0
abbrev pub point : ℕ → ℕ → Quad ℤ
point w i = pair (pos (1 + i % w)) (pos (i / w))

abbrev pub canonical_of : Plane → ℕ → Quad ℤ → Bool
canonical_of p n z = sector p z && norm p z == n

-- no coordinate of an element of norm n exceeds this
abbrev pub span : ℕ → ℕ
span n = n / 3 + 1

-- the points with x from 1 to w and y from 0 to w
abbrev pub grid : ℕ → List (Quad ℤ)
grid w = map (point w) (range_with_len 0 ((w + 1) * w))

abbrev pub canonical : Plane → ℕ → List (Quad ℤ)
canonical p zero = pair (pos 0) (pos 0) ∷ []
canonical p (suc n) = filter (canonical_of p (suc n)) (grid (span (suc n)))

-- up to norm 64 the points with x from 1 to 9 and y from 0 to 8 are enough
unfoldable pub near : List (Quad ℤ)
near = map (point 9) (range_with_len 0 81)

-- z times a unit that generates the others: θ in the square plane, 1 + θ in the hexagonal one
abbrev pub turn : Plane → Quad ℤ → Quad ℤ
turn Square z = pair (neg_ℤ z.im) z.re
turn Hexagonal z = pair (z.re -ℤ z.im) z.re

abbrev pub turns : Plane → ℕ → Quad ℤ → Quad ℤ
turns p zero z = z
turns p (suc k) z = turn p (turns p k z)

-- w is an associate of z, in the sector or 0
pub record Turned (p : Plane) (z w : Quad ℤ) : Type 0 where
  pub associate : Associate (quad_ops ℤ_ops (negsuc 0) (trace p)) z w
  pub placed : (sector p w ≡ true) ⊎ (w ≡ pair (pos 0) (pos 0))

-- q times n is nearest to z: they differ by n/2 at most
pub record Nearest (z : ℤ) (n : ℕ) (q : ℤ) : Type 0 where
  pub near : 2 * unsigned_abs (z -ℤ q *ℤ pos n) ≤ n

-- z times the conjugate of w
abbrev pub over : Plane → Quad ℤ → Quad ℤ → Quad ℤ
over p z w = (quad_ops ℤ_ops (negsuc 0) (trace p)).mul z (conjugate ℤ_ops (negsuc 0) (trace p) w)

-- what is left of z without q times w
abbrev pub left_over : Plane → Quad ℤ → Quad ℤ → Quad ℤ → Quad ℤ
left_over p z w q = sub (quad_ops ℤ_ops (negsuc 0) (trace p)) z ((quad_ops ℤ_ops (negsuc 0) (trace p)).mul q w)

-- the greatest common divisor of the coordinates
abbrev pub content : Quad ℤ → ℕ
content m = gcd (unsigned_abs m.re) (unsigned_abs m.im)

-- the least whole number above 0 that m divides
abbrev pub width : Plane → Quad ℤ → ℕ
width p m = norm p m / content m

-- u + vθ with u below the width and v below the content; the number is v times the width, plus u
abbrev pub residues : Plane → Quad ℤ → List (Quad ℤ)
residues p m = map (λ i. pair (pos (i % width p m)) (pos (i / width p m))) (range_with_len 0 (norm p m))

abbrev pub plane : Plane → Meaning
plane p = record {
  coordinates = axes p;
  euclidean = record { norm = norm p; canonical = canonical p; residues = residues p };
}

-- x + yi, the points of a square lattice
abbrev pub gaussian_integers : Meaning
gaussian_integers = plane Square

-- x + yω with ω² = −1 − ω, the points of a hexagonal lattice
abbrev pub eisenstein_integers : Meaning
eisenstein_integers = plane Hexagonal
