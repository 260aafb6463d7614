-- The ideal of two elements, and the one canonical element that generates it.
use Rattle.std.specs.Prelude.{◌≡◌}
use Rattle.algebra.specs.Ring.{Ops}
use Rattle.algebra.specs.Divisors.{Divides}
use Rattle.algebra.specs.Euclidean.{Euclidean, Canonical}

-- c is a sum of multiples of a and b
abbrev pub Combination : {A : Type 0} → Ops A → A → A → A → Type 0
Combination {A} o a b c = (x : A) × (y : A) × (c ≡ o.add (o.mul x a) (o.mul y b))

-- d divides a and b, and lies in their ideal
pub record Generates {A : Type 0} (o : Ops A) (e : Euclidean A) (a b d : A) : Type 0 where
  pub canonical : Canonical e d
  pub divides_left : Divides o d a
  pub divides_right : Divides o d b
  pub combination : Combination o a b d

-- no two canonical elements generate one ideal
abbrev pub OneGenerator : {A : Type 0} → Ops A → Euclidean A → Type 0
OneGenerator {A} o e = (a b c d : A) → Generates o e a b c → Generates o e a b d → c ≡ d
