use Rattle.std.proofs.Common.{pos, negsuc, refl}
use Rattle.planes.specs.Planes.{pair}
use Rattle.worked.proofs.worked_cases_stand.Goals as goal

pub returns : goal.returns
returns c = record {
  -- by −i and its inverse i
  gaussian_associate = (pair (pos 0) (negsuc 0), (pair (pos 0) (pos 1), refl), refl);
  gaussian_canonical = (0, refl);
  -- by −ω and its inverse 1 + ω
  eisenstein_associate = (pair (pos 0) (negsuc 0), (pair (pos 1) (pos 1), refl), refl);
  eisenstein_canonical = (1, refl);
  -- 7 + 3i − 1 = 3·(2 + i)
  gaussian_residue = (pair (pos 3) (pos 0), refl);
  gaussian_number = refl;
  gaussian_three = refl;
  gaussian_five = refl;
  eisenstein_seven = refl;
}
