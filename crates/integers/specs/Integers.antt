-- The ring of the integers: the norm is the absolute value, what is not negative is canonical, and the residues are 0, 1, .. below the modulus.
use Rattle.std.specs.Prelude.{ℕ, List, [], ◌∷◌, map, ℤ, pos, unsigned_abs}
use Rattle.std.specs.List.{range_with_len}
use Rattle.ring.specs.declared.elements.Coordinates.TheVariants.{One}
use Rattle.ring.specs.Meaning.{Meaning}

abbrev pub canonical : ℕ → List ℤ
canonical n = pos n ∷ []

abbrev pub residues : ℤ → List ℤ
residues m = map pos (range_with_len 0 (unsigned_abs m))

abbrev pub integers : Meaning
integers = record { coordinates = One; euclidean = record { norm = unsigned_abs; canonical = canonical; residues = residues } }
