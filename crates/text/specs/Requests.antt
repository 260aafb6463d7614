-- What rings, ranks and matrices are read from bytes.
use Rattle.std.specs.Prelude.{ℕ, zero, suc, ◌*◌, cond, List, [], ◌∷◌, length, pos, negsuc, Some, None, Ok, Err, Option, Result, ◌==◌, slice_index}
use Rattle.refusal.specs.declared.Cause.{Cause}
use Rattle.refusal.specs.declared.Cause.TheVariants.{Value}
use Rattle.ring.specs.declared.elements.Element.{Element}
use Rattle.ring.specs.declared.elements.Coordinates.{Coordinates}
use Rattle.ring.specs.declared.elements.Coordinates.TheVariants.{One, Two}
use Rattle.text.specs.declared.request.RingName.{RingName}
use Rattle.text.specs.declared.request.RingName.TheVariants.{Integers, Gaussian, Eisenstein}
use Rattle.text.specs.declared.request.Rank.{Rank}
use Rattle.text.specs.declared.request.Rank.TheVariants.{One as RankOne, Two as RankTwo, Three as RankThree}
use Rattle.text.specs.declared.request.Matrix.{Matrix}
use Rattle.text.specs.declared.request.Matrix.TheVariants.{One as MatrixOne, Two as MatrixTwo, Three as MatrixThree}
use Rattle.text.specs.Parts.{front, back}
use Rattle.text.specs.Values.{next, number_answer, element_answer}

-- θ² = −1, and θ² = −1 − θ
abbrev pub coordinates_of : RingName → Coordinates
coordinates_of Integers = One
coordinates_of Gaussian = Two (negsuc 0) (pos 0)
coordinates_of Eisenstein = Two (negsuc 0) (negsuc 0)

-- Z, G or E
abbrev pub lettered : ℕ → Result RingName Cause
lettered b = cond (b == 90) (Ok Integers) (cond (b == 71) (Ok Gaussian) (cond (b == 69) (Ok Eisenstein) (Err Value)))

abbrev pub ring_answer : List ℕ → Result RingName Cause
ring_answer bs = cond (length bs == 1) (lettered (slice_index bs 0)) (Err Value)

abbrev pub number_of : Rank → ℕ
number_of RankOne = 1
number_of RankTwo = 2
number_of RankThree = 3

-- 1, 2 or 3
abbrev pub ranked : ℕ → Result Rank Cause
ranked n = cond (n == 1) (Ok RankOne) (cond (n == 2) (Ok RankTwo) (cond (n == 3) (Ok RankThree) (Err Value)))

abbrev pub rank_answer : List ℕ → Result Rank Cause
rank_answer bs = next (number_answer bs) ranked

-- n elements, each up to the next comma or to the end
abbrev pub elements : Coordinates → ℕ → Option (List ℕ) → Result (List Element) Cause
elements k zero None = Ok []
elements k zero (Some bs) = Err Value
elements k (suc n) None = Err Value
elements k (suc n) (Some bs) = next (element_answer k (front 44 bs)) (λ e. next (elements k n (back 44 bs)) (λ es. Ok (e ∷ es)))

abbrev pub rank_of : Matrix → Rank
rank_of (MatrixOne es) = RankOne
rank_of (MatrixTwo es) = RankTwo
rank_of (MatrixThree es) = RankThree

-- by rows
abbrev pub entries_of : Matrix → List Element
entries_of (MatrixOne es) = es
entries_of (MatrixTwo es) = es
entries_of (MatrixThree es) = es

abbrev pub matrix_of : Rank → List Element → Matrix
matrix_of RankOne es = MatrixOne es
matrix_of RankTwo es = MatrixTwo es
matrix_of RankThree es = MatrixThree es

-- how many entries a matrix of the rank has
abbrev pub size : Rank → ℕ
size rank = number_of rank * number_of rank

abbrev pub matrix_answer : Coordinates → Rank → List ℕ → Result Matrix Cause
matrix_answer k rank bs = next (elements k (size rank) (Some bs)) (λ es. Ok (matrix_of rank es))
