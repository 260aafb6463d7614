-- How a text is read, line by line.
use Rattle.std.specs.Prelude.{◌≡◌, ℕ, zero, suc, ◌+◌, cond, List, [], ◌∷◌, length, Ok, Err, codes, Result, nat_le}
use Rattle.std.specs.Borrow.{Bor}
use Rattle.refusal.specs.declared.Cause.{Cause}
use Rattle.refusal.specs.declared.Cause.TheVariants.{Line}
use Rattle.refusal.specs.declared.Refusal.{Refusal}
use Rattle.refusal.specs.Numbers.{refused, refuse}
use Rattle.text.specs.declared.request.Request.{Request}
use Rattle.text.specs.declared.state.State.{State}
use Rattle.text.specs.declared.state.State.TheVariants.{Ring, Rank, Matrix, Done}
use Rattle.text.specs.Keys.{spells}
use Rattle.text.specs.Parts.{front, back}
use Rattle.text.specs.Values.{next, given}
use Rattle.text.specs.Requests.{coordinates_of, ring_answer, rank_answer, matrix_answer}

-- the line that a state waits for
abbrev pub line_of : State → ℕ
line_of Ring = 1
line_of (Rank ring) = 2
line_of (Matrix ring rank) = 3
line_of (Done request) = 4

-- what a line with this key and value says: the ring, then the rank, then the matrix
abbrev pub entered : State → List ℕ → List ℕ → Result State Cause
entered Ring key value = cond (spells key (codes "ring")) (next (ring_answer value) (λ ring. Ok (Rank ring))) (Err Line)
entered (Rank ring) key value = cond (spells key (codes "rank")) (next (rank_answer value) (λ rank. Ok (Matrix ring rank))) (Err Line)
entered (Matrix ring rank) key value =
    cond (spells key (codes "matrix")) (next (matrix_answer (coordinates_of ring) rank value) (λ matrix. Ok (Done (record { ring = ring; matrix = matrix })))) (Err Line)
entered (Done request) key value = Err Line

-- a line ends with byte 10, and has its key before the first = and its value after it
abbrev pub line_answer : State → List ℕ → Result (State × List ℕ) Cause
line_answer state text =
    given (back 10 text) Line (λ rest. given (back 61 (front 10 text)) Line (λ value. next (entered state (front 61 (front 10 text)) value) (λ after. Ok (after, rest))))

-- a fault in line n
abbrev pub placed : {X : Type 0} → ℕ → Result X Cause → Result X Refusal
placed n (Ok x) = Ok x
placed n (Err cause) = Err (refused cause n)

-- what a step that leaves a state and a text answers
abbrev pub outcome : {E : Type 0} → Result (Unit {0}) E → State → List ℕ → Result (State × List ℕ) E
outcome (Ok u) state text = Ok (state, text)
outcome (Err e) state text = Err e

-- the same of a state and a text that is borrowed
abbrev pub seen : {E : Type 0} → Result (State × Bor (List ℕ)) E → Result (State × List ℕ) E
seen (Ok (state, rest)) = Ok (state, rest.now)
seen (Err e) = Err e

-- a line that was read counts
abbrev pub counted : {X E : Type 0} → Result X E → ℕ → ℕ
counted (Ok x) n = n + 1
counted (Err e) n = n

-- a fault changes nothing
abbrev pub Kept : {X E : Type 0} → Result X E → State → List ℕ → State → List ℕ → Type 0
Kept (Ok x) state text state' text' = Unit {0}
Kept (Err e) state text state' text' = (state' ≡ state) × (text' ≡ text)

-- nothing stands after the last line
abbrev pub finished : ℕ → State → List ℕ → Result Request Refusal
finished n (Done request) [] = Ok request
finished n (Done request) (b ∷ bs) = Err (refused Line n)
finished n Ring text = Err (refused Line n)
finished n (Rank ring) text = Err (refused Line n)
finished n (Matrix ring rank) text = Err (refused Line n)

-- so many lines, of which the first has number n
abbrev pub reading : ℕ → ℕ → State → List ℕ → Result Request Refusal
reading zero n state text = finished n state text
reading (suc lines) n state text = next (placed n (line_answer state text)) (λ step. reading lines (suc n) step.0 step.1)

-- three lines, and at most 16384 bytes
abbrev pub read_answer : List ℕ → Result Request Refusal
read_answer text = cond (nat_le (length text) 16384) (reading 3 1 Ring text) (refuse Line)
