-- The two lines by which a program reports a refusal, the second without its end.
use Rattle.std.specs.Prelude.{ℕ, List, ◌∷◌, ◌++◌, codes, decimal}
use Rattle.refusal.specs.declared.Refusal.{Refusal}
use Rattle.refusal.specs.Numbers.{number}

abbrev pub report : Refusal → List ℕ
report e = codes "refused=" ++ (decimal (number e.cause) ++ ((10 ∷ codes "at=") ++ decimal e.place))
