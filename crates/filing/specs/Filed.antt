-- Where a request is filed.
use Rattle.std.specs.Prelude.{◌≡◌, ℕ, List, pos, Some, None, Ok, Err, Option, Result, slice_index_or}
use Rattle.refusal.specs.declared.Refusal.{Refusal}
use Rattle.ring.specs.declared.elements.Element.{Element}
use Rattle.ring.specs.Meaning.{Meaning}
use Rattle.ring.specs.Answers.{Meets}
use Rattle.integers.specs.Integers.{integers}
use Rattle.planes.specs.Planes.{eisenstein_integers, gaussian_integers}
use Rattle.text.specs.declared.request.RingName.{RingName}
use Rattle.text.specs.declared.request.RingName.TheVariants.{Integers, Gaussian, Eisenstein}
use Rattle.text.specs.declared.request.Matrix.{Matrix}
use Rattle.text.specs.declared.request.Matrix.TheVariants.{One, Two, Three}
use Rattle.text.specs.declared.request.Request.{Request}
use Rattle.text.specs.Lines.{read_answer}
use Rattle.location.specs.declared.Location.{Location}
use Rattle.location.specs.Located.{Located, LocatedAt, location_check}
use Rattle.filing.specs.declared.Filed.{Filed}

abbrev pub meaning_of : RingName → Meaning
meaning_of Integers = integers
meaning_of Gaussian = gaussian_integers
meaning_of Eisenstein = eisenstein_integers

abbrev pub Placed : RingName → Element → Result Location Refusal → Type 0
Placed ring e r = Located (meaning_of ring) e r

-- the entry of a matrix of rank 1
abbrev pub only_entry : List Element → Element
only_entry es = slice_index_or es 0 (record { x = pos 0; y = pos 0 })

-- the answer is this lattice's place in this ring
abbrev pub IsFiled : RingName → Element → Option Filed → Type 0
IsFiled ring e (Some f) = (f.ring ≡ ring) × LocatedAt (meaning_of ring) e f.location
IsFiled ring e None = ⊥

-- of rank 1 the place or its refusal; other ranks are put off
abbrev pub ByRank : RingName → Matrix → Result (Option Filed) Refusal → Type 0
ByRank ring (One es) r = Meets (location_check (meaning_of ring) (only_entry es)) r (IsFiled ring (only_entry es))
ByRank ring (Two es) r = r ≡ Ok None
ByRank ring (Three es) r = r ≡ Ok None

abbrev pub AfterReading : Result Request Refusal → Result (Option Filed) Refusal → Type 0
AfterReading (Ok q) r = ByRank q.ring q.matrix r
AfterReading (Err e) r = r ≡ Err e

abbrev pub FiledAnswer : List ℕ → Result (Option Filed) Refusal → Type 0
FiledAnswer bytes r = AfterReading (read_answer bytes) r
