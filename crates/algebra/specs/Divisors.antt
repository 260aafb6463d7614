-- Divisors, units and associates over any operations; the greatest common divisor of two natural numbers.
use Rattle.std.specs.Prelude.{◌≡◌, ℕ, zero, suc, ◌%◌}
use Rattle.algebra.specs.Ring.{Ops}

module _ {A : Type 0} (o : Ops A) where
  abbrev pub sub : A → A → A
  sub a b = o.add a (o.neg b)

  -- a is a multiple of d
  abbrev pub Divides : A → A → Type 0
  Divides d a = (q : A) × (a ≡ o.mul q d)

  -- a and b differ by a multiple of m
  abbrev pub Congruent : A → A → A → Type 0
  Congruent m a b = Divides m (sub a b)

  -- some element multiplies u to one
  abbrev pub Invertible : A → Type 0
  Invertible u = (v : A) × (o.mul u v ≡ o.one)

  -- b is a unit times a
  abbrev pub Associate : A → A → Type 0
  Associate a b = (u : A) × Invertible u × (b ≡ o.mul u a)

-- by Euclid's division, at most `fuel` of them
abbrev pub gcd_within : ℕ → ℕ → ℕ → ℕ
gcd_within zero a b = a
gcd_within (suc fuel) a zero = a
gcd_within (suc fuel) a (suc b) = gcd_within fuel (suc b) (a % suc b)

-- each division makes the second number smaller, so there are at most b
abbrev pub gcd : ℕ → ℕ → ℕ
gcd a b = gcd_within b a b
