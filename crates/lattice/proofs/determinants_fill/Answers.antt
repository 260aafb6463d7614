use Rattle.lattice.proofs.Cramer.{full_by_determinant}
use Rattle.lattice.proofs.determinants_fill.Goals as goal

pub returns : goal.returns
returns g c = λ o R. full_by_determinant R
