-- What this crate proves.
use Rattle.std.specs.Prelude.{◌≡◌, ℕ, ℤ, pos, ◌+ℤ◌, ◌*ℤ◌}
use Rattle.algebra.specs.Ring.{Ops, CommRing}
use Rattle.algebra.specs.Integers.{ℤ_ops}
use Rattle.algebra.specs.Divisors.{Divides, gcd}
use Rattle.algebra.specs.Quadratic.{Quad, quad_ops, conjugate, norm_form}

-- over a commutative ring the pairs x + y·θ are a commutative ring, whatever a and b are
pub record QuadraticRing {A : Type 0} (o : Ops A) (a b : A) : Type 0 where
  pub laws : CommRing (quad_ops o a b)
  -- the norm form of a product is the product of the norm forms
  pub norm_form-mul : (p q : Quad A) → norm_form o a b ((quad_ops o a b).mul p q) ≡ o.mul (norm_form o a b p) (norm_form o a b q)
  pub mul-conjugate : (p : Quad A) → (quad_ops o a b).mul p (conjugate o a b p) ≡ record { re = norm_form o a b p; im = o.zero }

abbrev pub QuadraticRings : Type 0 → Type 0
QuadraticRings A = (o : Ops A) → CommRing o → (a b : A) → QuadraticRing o a b

abbrev pub IntegersAreARing : Type 0
IntegersAreARing = CommRing ℤ_ops

-- the greatest common divisor divides both, and is a sum of multiples of both
pub record IsGcd (m n g : ℕ) : Type 0 where
  pub divides_left : Divides ℤ_ops (pos g) (pos m)
  pub divides_right : Divides ℤ_ops (pos g) (pos n)
  pub combination : (u : ℤ) × (v : ℤ) × (pos g ≡ u *ℤ pos m +ℤ v *ℤ pos n)

abbrev pub GcdIsGreatest : Type 0
GcdIsGreatest = (m n : ℕ) → IsGcd m n (gcd m n)
