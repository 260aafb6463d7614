-- Lower triangular forms by recursion on the rank: a diagonal entry, the column below it, and the form of what is left.
use Rattle.std.specs.Prelude.{ℕ, zero, suc, ◌*◌, List, [], ◌∷◌, map}
use Rattle.std.specs.List.{flat_map}
use Rattle.algebra.specs.Ring.{Ops}
use Rattle.algebra.specs.Euclidean.{Euclidean, Listed, Modulus}
use Rattle.lattice.specs.Vectors.{Sublattice, Vec}

abbrev pub Form : Type 0 → ℕ → Type 0
Form A zero = Unit {0}
Form A (suc d) = A × Vec A d × Form A d

module _ {A : Type 0} (o : Ops A) (e : Euclidean A) where
  -- the columns of the form, with their zeros above the diagonal
  abbrev pub columns : (d : ℕ) → Form A d → List (Vec A d)
  columns zero h = []
  columns (suc d) h = (h.0, h.1) ∷ map (λ v. (o.zero, v)) (columns d h.2)

  -- each coordinate is a residue modulo its diagonal entry
  abbrev pub Reduced : (d : ℕ) → Form A d → Vec A d → Type 0
  Reduced zero h v = Unit {0}
  Reduced (suc d) h v = Listed (e.residues h.0) v.0 × Reduced d h.2 v.1

  -- the diagonal is canonical and not 0, and each entry left of a diagonal entry is a residue modulo it
  abbrev pub Hermite : (d : ℕ) → Form A d → Type 0
  Hermite zero h = Unit {0}
  Hermite (suc d) h = Modulus o e h.0 × Reduced d h.2 h.1 × Hermite d h.2

  -- the vectors of a form
  abbrev pub Spanned : (d : ℕ) → Form A d → Vec A d → Type 0
  Spanned d h v = Sublattice o d (columns d h) v

  -- the product of the norms of the diagonal
  abbrev pub index : (d : ℕ) → Form A d → ℕ
  index zero h = 1
  index (suc d) h = e.norm h.0 * index d h.2

  -- the reduced vectors, first coordinate leading
  abbrev pub sites : (d : ℕ) → Form A d → List (Vec A d)
  sites zero h = tt ∷ []
  sites (suc d) h = flat_map (λ x. map (λ v. (x, v)) (sites d h.2)) (e.residues h.0)
