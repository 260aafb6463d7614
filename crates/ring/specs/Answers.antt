-- What each call of a ring answers.
use Rattle.std.specs.Prelude.{◌≡◌, ℕ, suc, Bool, cond, not, ◌&&◌, List, [], ◌∷◌, length, is_some, Some, None, Ok, Err, Option, Result, ◌==◌, nat_le}
use Rattle.std.specs.Option.{option_map, ok_or}
use Rattle.std.specs.List.{slice_get}
use Rattle.algebra.specs.Divisors.{Congruent, Associate}
use Rattle.algebra.specs.Euclidean.{Canonical, Divided, Listed}
use Rattle.refusal.specs.declared.Refusal.{Refusal}
use Rattle.refusal.specs.declared.Cause.TheVariants.{Modulus, Outside}
use Rattle.refusal.specs.Numbers.{refuse, refused, then}
use Rattle.ring.specs.declared.elements.Element.{Element}
use Rattle.ring.specs.declared.elements.Division.{Division}
use Rattle.ring.specs.Elements.{ops, element, value, Member, same, admitted, norm_check}
use Rattle.ring.specs.Meaning.{Meaning}

-- where the checks pass, an answer with P; else their refusal
abbrev pub Meets : {X : Type 0} → Result (Unit {0}) Refusal → Result X Refusal → (X → Type 0) → Type 0
Meets (Ok u) (Ok x) P = P x
Meets (Ok u) (Err e) P = ⊥
Meets (Err e) r P = r ≡ Err e

-- the number of x in the list
abbrev pub place : {A : Type 0} → (A → A → Bool) → A → List A → Option ℕ
place eq x [] = None
place eq x (y ∷ ys) = cond (eq x y) (Some 0) (option_map suc (place eq x ys))

module _ (m : Meaning) where
  abbrev pub norm_of : Element → ℕ
  norm_of a = m.euclidean.norm (value m.coordinates a)

  abbrev pub is_zero : Element → Bool
  is_zero a = same m.coordinates (value m.coordinates a) (ops m.coordinates).zero

  -- the number of a among the canonical elements of its norm, if it is canonical
  abbrev pub canonical_place : Element → Option ℕ
  canonical_place a = place (same m.coordinates) (value m.coordinates a) (m.euclidean.canonical (norm_of a))

  abbrev pub residue_place : Element → Element → Option ℕ
  residue_place c a = place (same m.coordinates) (value m.coordinates a) (m.euclidean.residues (value m.coordinates c))

  -- c may be reduced by
  abbrev pub modulus_check : Element → Result (Unit {0}) Refusal
  modulus_check c = cond (not (is_zero c) && is_some (canonical_place c)) (Ok tt) (refuse Modulus)

  abbrev pub divisor_check : Element → Result (Unit {0}) Refusal
  divisor_check b = cond (is_zero b) (refuse Modulus) (Ok tt)

  abbrev pub one_check : Element → Result (Unit {0}) Refusal
  one_check a = admitted m.coordinates a

  abbrev pub two_check : Element → Element → Result (Unit {0}) Refusal
  two_check a b = then (one_check a) (one_check b)

  abbrev pub sum_answer : Element → Element → Result Element Refusal
  sum_answer a b =
      then (two_check a b) (Ok (element m.coordinates ((ops m.coordinates).add (value m.coordinates a) (value m.coordinates b))))

  abbrev pub product_answer : Element → Element → Result Element Refusal
  product_answer a b =
      then (two_check a b) (Ok (element m.coordinates ((ops m.coordinates).mul (value m.coordinates a) (value m.coordinates b))))

  abbrev pub norm_answer : Element → Result ℕ Refusal
  norm_answer a = then (one_check a) (Ok (norm_of a))

  abbrev pub unit_answer : Element → Result Bool Refusal
  unit_answer a = then (one_check a) (Ok (norm_of a == 1))

  -- the one associate that is canonical
  abbrev pub CanonicalAnswer : Element → Result Element Refusal → Type 0
  CanonicalAnswer a r = Meets (one_check a) r (λ c. Member m.coordinates c × Associate (ops m.coordinates) (value m.coordinates a) (value m.coordinates c) × Canonical m.euclidean (value m.coordinates c))

  -- some quotient and remainder that keep the law
  abbrev pub DivisionAnswer : Element → Element → Result Division Refusal → Type 0
  DivisionAnswer a b r = Meets (then (two_check a b) (divisor_check b)) r (λ d. Member m.coordinates d.quotient × Member m.coordinates d.remainder × Divided (ops m.coordinates) m.euclidean (value m.coordinates a) (value m.coordinates b) (value m.coordinates d.quotient) (value m.coordinates d.remainder))

  -- the one residue modulo c that is congruent to a
  abbrev pub ResidueAnswer : Element → Element → Result Element Refusal → Type 0
  ResidueAnswer a c r = Meets (then (two_check a c) (modulus_check c)) r (λ s. Member m.coordinates s × Listed (m.euclidean.residues (value m.coordinates c)) (value m.coordinates s) × Congruent (ops m.coordinates) (value m.coordinates c) (value m.coordinates a) (value m.coordinates s))

  abbrev pub count_answer : ℕ → Result ℕ Refusal
  count_answer n = then (norm_check n) (Ok (length (m.euclidean.canonical n)))

  abbrev pub canonical_element_answer : ℕ → ℕ → Result Element Refusal
  canonical_element_answer n i =
      then (norm_check n) (ok_or (option_map (element m.coordinates) (slice_get (m.euclidean.canonical n) i)) (refused Outside 0))

  abbrev pub canonical_number_answer : Element → Result ℕ Refusal
  canonical_number_answer a = then (one_check a) (cond (nat_le 1 (norm_of a) && nat_le (norm_of a) 64) (ok_or (canonical_place a) (refused Outside 0)) (refuse Outside))

  abbrev pub residue_element_answer : Element → ℕ → Result Element Refusal
  residue_element_answer c i =
      then (then (one_check c) (modulus_check c)) (ok_or (option_map (element m.coordinates) (slice_get (m.euclidean.residues (value m.coordinates c)) i)) (refused Outside 0))

  abbrev pub residue_number_answer : Element → Element → Result ℕ Refusal
  residue_number_answer c a =
      then (then (two_check c a) (modulus_check c)) (ok_or (residue_place c a) (refused Outside 0))
