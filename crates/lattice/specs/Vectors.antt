-- Vectors of a rank over any operations, and the sublattice that columns generate.
use Rattle.std.specs.Prelude.{◌≡◌, ℕ, zero, suc, List, [], ◌∷◌}
use Rattle.algebra.specs.Ring.{Ops}

-- d coordinates
abbrev pub Vec : Type 0 → ℕ → Type 0
Vec A zero = Unit {0}
Vec A (suc d) = A × Vec A d

module _ {A : Type 0} (o : Ops A) where
  abbrev pub vzero : (d : ℕ) → Vec A d
  vzero zero = tt
  vzero (suc d) = (o.zero, vzero d)

  abbrev pub vadd : (d : ℕ) → Vec A d → Vec A d → Vec A d
  vadd zero u v = tt
  vadd (suc d) u v = (o.add u.0 v.0, vadd d u.1 v.1)

  abbrev pub vneg : (d : ℕ) → Vec A d → Vec A d
  vneg zero u = tt
  vneg (suc d) u = (o.neg u.0, vneg d u.1)

  abbrev pub vscale : (d : ℕ) → A → Vec A d → Vec A d
  vscale zero q u = tt
  vscale (suc d) q u = (o.mul q u.0, vscale d q u.1)

  abbrev pub vsub : (d : ℕ) → Vec A d → Vec A d → Vec A d
  vsub d u v = vadd d u (vneg d v)

  -- the columns, each with its coefficient; a coefficient that is missing is 0
  abbrev pub combine : (d : ℕ) → List A → List (Vec A d) → Vec A d
  combine d [] us = vzero d
  combine d (q ∷ qs) [] = vzero d
  combine d (q ∷ qs) (u ∷ us) = vadd d (vscale d q u) (combine d qs us)

  -- all sums of the columns with coefficients in the ring
  abbrev pub Sublattice : (d : ℕ) → List (Vec A d) → Vec A d → Type 0
  Sublattice d us v = (qs : List A) × (v ≡ combine d qs us)
