-- The two sides of the first byte that separates.
use Rattle.std.specs.Prelude.{ℕ, cond, List, [], ◌∷◌, Some, None, Option, ◌==◌}
use Rattle.std.specs.Borrow.{Bor}

-- the bytes before the first mark
abbrev pub front : ℕ → List ℕ → List ℕ
front mark [] = []
front mark (b ∷ bs) = cond (mark == b) [] (b ∷ front mark bs)

-- the bytes after it, if there is one
abbrev pub back : ℕ → List ℕ → Option (List ℕ)
back mark [] = None
back mark (b ∷ bs) = cond (mark == b) (Some bs) (back mark bs)

-- what a reference that may be missing points to
abbrev pub held : Option (Bor (List ℕ)) → Option (List ℕ)
held (Some r) = Some r.now
held None = None
