use Rattle.lattice.proofs.Existence.{form_exists}
use Rattle.lattice.proofs.forms_exist.Goals as goal

pub returns : goal.returns
returns g c = λ o R e L. form_exists R e L
