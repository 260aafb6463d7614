use Rattle.algebra.proofs.Quadratic.{quadratic}
use Rattle.algebra.proofs.quadratic_rings_stand.Goals as goal

pub returns : goal.returns
returns g c = λ o R a b. quadratic R a b
