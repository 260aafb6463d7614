-- The number of each cause, as docs/refusals.md lists it.
use Rattle.std.specs.Prelude.{ℕ, Ok, Err, Result}
use Rattle.refusal.specs.declared.Cause.{Cause}
use Rattle.refusal.specs.declared.Cause.TheVariants.{Line, Value, Totals, TableShape, OperationCoordinate, OperationDeterminant, OperationRepeated, NoIdentity, ProductMissing, Index, Colours, WordCount, NothingOpen, Position, ShortBuffer, Heading, Card, Rank, Coordinate, Modulus, Singular, Outside, Memory}
use Rattle.refusal.specs.declared.Refusal.{Refusal}

abbrev pub number : Cause → ℕ
number Line = 1
number Value = 2
number Totals = 3
number TableShape = 4
number OperationCoordinate = 5
number OperationDeterminant = 6
number OperationRepeated = 7
number NoIdentity = 8
number ProductMissing = 9
number Index = 10
number Colours = 11
number WordCount = 12
number NothingOpen = 13
number Position = 14
number ShortBuffer = 15
number Heading = 16
number Card = 17
number Rank = 18
number Coordinate = 19
number Modulus = 20
number Singular = 21
number Outside = 22
-- want of memory is the machine's, and none of the list
number Memory = 0

abbrev pub refused : Cause → ℕ → Refusal
refused cause place = record { cause = cause; place = place }

-- the answer of a call that refuses without a place
abbrev pub refuse : {X : Type 0} → Cause → Result X Refusal
refuse cause = Err (refused cause 0)

-- the first refusal, or what comes after
abbrev pub then : {X Y : Type 0} → Result X Refusal → Result Y Refusal → Result Y Refusal
then (Ok x) next = next
then (Err e) next = Err e
