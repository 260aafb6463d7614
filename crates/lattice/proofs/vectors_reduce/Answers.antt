use Rattle.lattice.specs.Vectors.{vsub}
use Rattle.lattice.proofs.Members.{in_from_spanned, spanned_from_in}
use Rattle.lattice.proofs.Reduction.{reduced_exists, reduced_unique}
use Rattle.lattice.proofs.vectors_reduce.Goals as goal

pub returns : goal.returns
returns g c = λ o R e L d h H. record {
  exists = λ v. let r = reduced_exists R e L d h H v in (r.0, r.1, spanned_from_in R e d h (vsub o d v r.0) r.2);
  unique = λ u v a b s. reduced_unique R e L d h H u v a b (in_from_spanned R e d h (vsub o d u v) s);
}
