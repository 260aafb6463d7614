use Rattle.lattice.proofs.Index.{index_by_determinant}
use Rattle.lattice.proofs.index_is_norm.Goals as goal

pub returns : goal.returns
returns g c = λ o R e L. index_by_determinant R e L
