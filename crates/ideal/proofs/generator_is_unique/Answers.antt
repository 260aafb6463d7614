use Rattle.ring.proofs.Rings.{ops_ring}
use Rattle.ideal.proofs.Unique.{one_generator}
use Rattle.ideal.proofs.generator_is_unique.Goals as goal

pub returns : goal.returns
returns g c = one_generator (ops_ring g.R.Ring.meaning.coordinates) g.R.Ring.meaning.euclidean g.met.R.Ring.laws.euclidean
