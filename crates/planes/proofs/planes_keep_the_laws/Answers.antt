use Rattle.planes.proofs.Laws.{laws}
use Rattle.planes.proofs.planes_keep_the_laws.Goals as goal

pub returns : goal.returns
returns c = laws
