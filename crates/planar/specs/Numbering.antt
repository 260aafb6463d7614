-- The number of a residue by its coordinates.
use Rattle.std.specs.Prelude.{ℕ, ◌+◌, ◌*◌, cond, ◌&&◌, ℤ, pos, negsuc, Some, None, Option, nat_lt}
use Rattle.ring.specs.declared.elements.Element.{Element}
use Rattle.planar.specs.declared.basis.Basis.{Basis}

abbrev pub number_at : ℕ → ℕ → ℤ → ℤ → Option ℕ
number_at w g (pos x) (pos y) = cond (nat_lt x w && nat_lt y g) (Some (y * w + x)) None
number_at w g (pos x) (negsuc y) = None
number_at w g (negsuc x) y = None

abbrev pub number_of : Basis → Element → Option ℕ
number_of b a = number_at b.width b.content a.x a.y
