-- The digits of a number.
use Rattle.std.proofs.Common.{◌≡◌, ℕ, ◌+◌, ◌-◌, ◌*◌, ◌^◌, ◌<◌, ◌≤◌, true, eqb, List, length, get_or, take, IfOk, Err, Result, sym, ap, ◌∙◌, ⊎_elim, arith, length-take}
use Rattle.std.specs.Str.Parse.{digits_value}
use Rattle.std.specs.Int.{IsInRange, IsOutOfRange}
use Rattle.std.specs.Char.{digit_value}
use Rattle.std.specs.Str.{all_ascii_digits}
use Rattle.std.proofs.lemmas.Int.Digits.{digits_more, digits_value_more}
use Rattle.std.proofs.lemmas.Str.Parse.{IsNumeralModel, numerals_by_value, tells_all_ascii_digits, digit_at, digits_value_short}
use Rattle.std.proofs.lemmas.Bool.{cases_Bool, cond-false, cond_both, ne_eqb}
use Rattle.std.proofs.lemmas.Bool.Decides.{nat_tests}
use Rattle.refusal.specs.declared.Cause.{Cause}
use Rattle.refusal.specs.declared.Cause.TheVariants.{Value}
use Rattle.text.specs.Values.{digits_answer, number_answer, coordinate_answer, natural, next}

pub own : IsNumeralModel (λ ds. all_ascii_digits ds ≡ true) (digits_value 10)
own = numerals_by_value _ tells_all_ascii_digits

digit_value_lem : (b : ℕ) → IsInRange 48 57 b → digit_value b ≡ b - 48
digit_value_lem b h = grind (arith, nat_tests)

-- one more digit
pub one_more : (bs : List ℕ) (i n : ℕ) → i < length bs → IsInRange 48 57 (get_or bs i 0) → all_ascii_digits (take i bs) ≡ true → n ≡ digits_value 10 (take i bs) → (all_ascii_digits (take (i + 1) bs) ≡ true) × (n * 10 + (get_or bs i 0 - 48) ≡ digits_value 10 (take (i + 1) bs))
one_more bs i n l d a e =
    let v = digit_value_lem (get_or bs i 0) d in
    let f = digits_value_more 10 bs i l in
    (own.from _ (digits_more 10 bs i l (own.to _ a) (omega arith)), omega arith)

pub early : (bs : List ℕ) (i n k : ℕ) → all_ascii_digits (take i bs) ≡ true → n ≡ digits_value 10 (take i bs) → i ≤ k → n < 10 ^ k
early bs i n k a e l = rw e (digits_value_short own (take i bs) k a (rw length-take (omega arith)))

-- a byte that is no digit
pub no_number : (bs : List ℕ) (i : ℕ) → i < length bs → IsOutOfRange 48 57 (get_or bs i 0) → Err Value ≡ digits_answer bs
no_number bs i l out =
    ⊎_elim
    (λ p. absurd (let d = digit_at bs i (own.to _ p) l in grind arith))
    (λ p. sym (cond-false (all_ascii_digits bs) _ _ p))
    (cases_Bool (all_ascii_digits bs))

pub digits_bound : (bs : List ℕ) (k : ℕ) → length bs ≤ k → IfOk (digits_answer bs) (λ n. n < 10 ^ k)
digits_bound bs k l = cond_both (all_ascii_digits bs) _ _ (λ r. IfOk r (λ n. n < 10 ^ k)) (λ p. digits_value_short own bs k p l) (λ p. tt)

pub without_minus : (bs : List ℕ) (r : Result ℕ Cause) → (get_or bs 0 0 ≡ 45 → ⊥) → r ≡ number_answer bs → next r natural ≡ coordinate_answer bs
without_minus bs r m e = ap (λ (q : Result ℕ Cause). next q natural) e ∙ sym (cond-false (eqb (get_or bs 0 0) 45) _ _ (ne_eqb _ 45 m))
