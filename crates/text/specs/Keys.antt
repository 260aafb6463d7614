-- The bytes of a key.
use Rattle.std.specs.Prelude.{ℕ, suc, Bool, true, ◌&&◌, List, [], ◌∷◌, length, ◌==◌, slice_index}

-- the bytes of the name stand in bs from place i on
abbrev pub reads : List ℕ → ℕ → List ℕ → Bool
reads bs i [] = true
reads bs i (b ∷ name) = slice_index bs i == b && reads bs (suc i) name

abbrev pub spells : List ℕ → List ℕ → Bool
spells bs name = length bs == length name && reads bs 0 name
