use Rattle.algebra.proofs.Once.{Once-place}
use Rattle.lattice.specs.Forms.{sites}
use Rattle.lattice.proofs.Sites.{listed_reduced, reduced_listed, sites_count, sites_once}
use Rattle.lattice.proofs.sites_are_counted.Goals as goal

pub returns : goal.returns
returns g c = λ o R e L d h H. record {
  holds = reduced_listed R e L d h;
  only = listed_reduced R e L d h;
  once = Once-place (sites o e d h) (sites_once R e L d h H);
  count = sites_count R e L d h H;
}
