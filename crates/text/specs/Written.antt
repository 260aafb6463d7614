-- How a request is written, and the law that ties reading to writing.
use Rattle.std.specs.Prelude.{◌≡◌, ℕ, ◌^◌, ◌<◌, List, [], ◌∷◌, ◌++◌, length, ℤ, Ok, codes, decimal, unsigned_abs}
use Rattle.std.specs.Fmt.{signed_decimal}
use Rattle.std.specs.List.{AllByRecursion}
use Rattle.ring.specs.declared.elements.Element.{Element}
use Rattle.ring.specs.declared.elements.Coordinates.{Coordinates}
use Rattle.ring.specs.declared.elements.Coordinates.TheVariants.{One, Two}
use Rattle.ring.specs.Elements.{Member}
use Rattle.text.specs.declared.request.RingName.{RingName}
use Rattle.text.specs.declared.request.RingName.TheVariants.{Integers, Gaussian, Eisenstein}
use Rattle.text.specs.declared.request.Request.{Request}
use Rattle.text.specs.Lines.{read_answer}
use Rattle.text.specs.Requests.{coordinates_of, entries_of, number_of, rank_of, size}

-- x, or x:y
abbrev pub element_written : Coordinates → Element → List ℕ
element_written One e = signed_decimal e.x
element_written (Two a b) e = signed_decimal e.x ++ (58 ∷ signed_decimal e.y)

-- with commas between them
abbrev pub elements_written : Coordinates → List Element → List ℕ
elements_written k [] = []
elements_written k (e ∷ []) = element_written k e
elements_written k (e ∷ f ∷ es) = element_written k e ++ (44 ∷ elements_written k (f ∷ es))

abbrev pub ring_written : RingName → List ℕ
ring_written Integers = codes "Z"
ring_written Gaussian = codes "G"
ring_written Eisenstein = codes "E"

-- a line, and what follows it
abbrev pub line_written : List ℕ → List ℕ → List ℕ → List ℕ
line_written key value rest = (key ++ (61 ∷ value)) ++ (10 ∷ rest)

abbrev pub written : Request → List ℕ
written q =
    line_written (codes "ring") (ring_written q.ring) (line_written (codes "rank") (decimal (number_of (rank_of q.matrix))) (line_written (codes "matrix") (elements_written (coordinates_of q.ring) (entries_of q.matrix)) []))

-- at most 15 digits
abbrev pub Short : ℤ → Type 0
Short z = unsigned_abs z < 10 ^ 15

-- an element of the ring with short coordinates
pub record Writable (k : Coordinates) (e : Element) : Type 0 where
  pub x_short : Short e.x
  pub y_short : Short e.y
  pub member : Member k e

-- what a text can say
pub record WellFormed (q : Request) : Type 0 where
  pub square : length (entries_of q.matrix) ≡ size (rank_of q.matrix)
  pub entries : AllByRecursion (Writable (coordinates_of q.ring)) (entries_of q.matrix)

-- reading accepts just what writing gives, and gives it back
pub record ReadingInvertsWriting : Type 0 where
  pub accepted : (q : Request) → WellFormed q → read_answer (written q) ≡ Ok q
  pub only : (text : List ℕ) (q : Request) → read_answer text ≡ Ok q → (text ≡ written q) × WellFormed q
