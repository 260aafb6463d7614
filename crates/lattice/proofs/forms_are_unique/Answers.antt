use Rattle.lattice.proofs.Unique.{hermite_unique}
use Rattle.lattice.proofs.forms_are_unique.Goals as goal

pub returns : goal.returns
returns g c = λ o R e L. hermite_unique R e L
