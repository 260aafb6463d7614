-- What numbers, coordinates and elements are read from bytes.
use Rattle.std.specs.Prelude.{ℕ, zero, suc, Bool, true, false, cond, not, ◌&&◌, List, [], ◌∷◌, length, drop, ℤ, pos, negsuc, Some, None, Ok, Err, Option, Result, ◌==◌, nat_le, slice_index}
use Rattle.std.specs.Str.Parse.{digits_value}
use Rattle.std.specs.Str.{all_ascii_digits}
use Rattle.refusal.specs.declared.Cause.{Cause}
use Rattle.refusal.specs.declared.Cause.TheVariants.{Value}
use Rattle.ring.specs.declared.elements.Element.{Element}
use Rattle.ring.specs.declared.elements.Coordinates.{Coordinates}
use Rattle.ring.specs.declared.elements.Coordinates.TheVariants.{One, Two}
use Rattle.text.specs.Parts.{front, back}

-- the first fault, or what comes next
abbrev pub next : {X Y E : Type 0} → Result X E → (X → Result Y E) → Result Y E
next (Ok x) f = f x
next (Err e) f = Err e

-- what is there goes on; what is missing is a fault
abbrev pub given : {X Y E : Type 0} → Option X → E → (X → Result Y E) → Result Y E
given (Some x) e f = f x
given None e f = Err e

-- digits alone, read from the left
abbrev pub digits_answer : List ℕ → Result ℕ Cause
digits_answer bs = cond (all_ascii_digits bs) (Ok (digits_value 10 bs)) (Err Value)

-- some bytes, and a zero first only if there is no other
abbrev pub begun : List ℕ → Bool
begun [] = false
begun (b ∷ []) = true
begun (b ∷ c ∷ bs) = not (b == 48)

-- a number has 1 to 15 digits and no leading zero
abbrev pub number_answer : List ℕ → Result ℕ Cause
number_answer bs = cond (begun bs && nat_le (length bs) 15) (digits_answer bs) (Err Value)

-- a minus stands before no 0
abbrev pub negated : ℕ → Result ℤ Cause
negated zero = Err Value
negated (suc n) = Ok (negsuc n)

abbrev pub natural : ℕ → Result ℤ Cause
natural n = Ok (pos n)

abbrev pub coordinate_answer : List ℕ → Result ℤ Cause
coordinate_answer bs = cond (slice_index bs 0 == 45) (next (number_answer (drop 1 bs)) negated) (next (number_answer bs) natural)

-- x, or x and y on the sides of a colon
abbrev pub element_answer : Coordinates → List ℕ → Result Element Cause
element_answer One bs = next (coordinate_answer bs) (λ x. Ok (record { x = x; y = pos 0 }))
element_answer (Two a b) bs =
    given (back 58 bs) Value (λ ys. next (coordinate_answer (front 58 bs)) (λ x. next (coordinate_answer ys) (λ y. Ok (record { x = x; y = y }))))
