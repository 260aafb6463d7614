-- The determinant of a square matrix by its columns, along the first row.
use Rattle.std.specs.Prelude.{ℕ, zero, suc, List, [], ◌∷◌, ◌++◌, map}
use Rattle.algebra.specs.Ring.{Ops}
use Rattle.algebra.specs.Divisors.{sub}
use Rattle.lattice.specs.Vectors.{Vec}

module _ {A : Type 0} (o : Ops A) where
  -- the columns before the one at hand are cut already; D is the determinant of smaller matrices
  abbrev pub expand : (d : ℕ) → (List (Vec A d) → A) → List (Vec A d) → List (Vec A (suc d)) → A
  expand d D before [] = o.zero
  expand d D before (c ∷ cs) =
      sub o (o.mul c.0 (D (before ++ map (λ v. v.1) cs))) (expand d D (before ++ c.1 ∷ []) cs)

  abbrev pub det : (d : ℕ) → List (Vec A d) → A
  det zero us = o.one
  det (suc d) us = expand d (det d) [] us
