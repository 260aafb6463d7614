-- The worked cases of the documents, as facts about the definitions.
use Rattle.std.specs.Prelude.{◌≡◌, [], ◌∷◌, pos, negsuc, Some}
use Rattle.std.specs.List.{slice_get}
use Rattle.algebra.specs.Divisors.{Associate, Congruent}
use Rattle.algebra.specs.Euclidean.{Canonical}
use Rattle.ring.specs.Elements.{ops}
use Rattle.planes.specs.Planes.{eisenstein_integers, gaussian_integers, pair}

pub record WorkedCases : Type 0 where
  -- −1 + 2i has the canonical associate 2 + i
  pub gaussian_associate : Associate (ops gaussian_integers.coordinates) (pair (negsuc 0) (pos 2)) (pair (pos 2) (pos 1))
  pub gaussian_canonical : Canonical gaussian_integers.euclidean (pair (pos 2) (pos 1))
  -- 1 + 3ω has the canonical associate 3 + 2ω
  pub eisenstein_associate : Associate (ops eisenstein_integers.coordinates) (pair (pos 1) (pos 3)) (pair (pos 3) (pos 2))
  pub eisenstein_canonical : Canonical eisenstein_integers.euclidean (pair (pos 3) (pos 2))
  -- 7 + 3i modulo 2 + i has the residue 1, whose number is 1
  pub gaussian_residue : Congruent (ops gaussian_integers.coordinates) (pair (pos 2) (pos 1)) (pair (pos 7) (pos 3)) (pair (pos 1) (pos 0))
  pub gaussian_number : slice_get (gaussian_integers.euclidean.residues (pair (pos 2) (pos 1))) 1 ≡ Some (pair (pos 1) (pos 0))
  -- no Gaussian integer has norm 3, two canonical ones have norm 5; two canonical Eisenstein integers have norm 7
  pub gaussian_three : gaussian_integers.euclidean.canonical 3 ≡ []
  pub gaussian_five : gaussian_integers.euclidean.canonical 5 ≡ pair (pos 2) (pos 1) ∷ pair (pos 1) (pos 2) ∷ []
  pub eisenstein_seven : eisenstein_integers.euclidean.canonical 7 ≡ pair (pos 3) (pos 1) ∷ pair (pos 3) (pos 2) ∷ []
