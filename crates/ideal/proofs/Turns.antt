-- The turns of Euclid's algorithm, by what the ring's calls answered.
use Rattle.std.proofs.Common.{◌≡◌, ℕ, ◌^◌, ◌<◌, ◌≤◌, Ok, Err, Result, sym, ◌∙◌, subst, arith}
use Rattle.algebra.specs.Euclidean.{Divided}
use Rattle.refusal.specs.declared.Refusal.{Refusal}
use Rattle.refusal.specs.Numbers.{then}
use Rattle.ring.specs.declared.elements.Division.{Division}
use Rattle.ring.specs.declared.elements.Element.{Element}
use Rattle.ring.specs.Elements.{Member, admits, admitted, ops, reach, value}
use Rattle.ring.specs.Meaning.{Laws, Meaning}
use Rattle.ring.specs.Answers.{CanonicalAnswer, DivisionAnswer, divisor_check, norm_answer, norm_of, one_check, two_check}
use Rattle.ring.proofs.Checks.{meets, met, met_answers, met_refuses, passes}
use Rattle.ring.proofs.Rings.{ops_ring}
use Rattle.ideal.specs.Answers.{GeneratorAnswer, generator_check}
use Rattle.ideal.proofs.Euclid.{SameIdeal, generates, same_step}
use Rattle.ideal.proofs.Gates.{not_both}
use Rattle.ideal.proofs.Limits.{small_admitted}
use Rattle.ideal.proofs.Measured.{measured, not_measured, not_nought}

-- a turn begins with x to be divided by y
pub record Turn (m : Meaning) (a b x y : Element) : Type 0 where
  pub checked : generator_check m a b ≡ Ok tt
  pub dividend_fits : admitted m.coordinates x ≡ Ok tt
  pub divisor_fits : admitted m.coordinates y ≡ Ok tt
  pub small : norm_of m y ≤ 2 ^ 29
  pub not_zero : norm_of m y ≡ 0 → ⊥
  pub same : SameIdeal (ops m.coordinates) (value m.coordinates a) (value m.coordinates b) (value m.coordinates x) (value m.coordinates y)

-- in a turn
module _ (m : Meaning) (l : Laws m) (a b x y : Element) (t : Turn m a b x y) where
  pub divides : then (two_check m x y) (divisor_check m y) ≡ Ok tt
  divides =
      passes (two_check m x y) tt _ (passes (one_check m x) tt _ t.dividend_fits ∙ t.divisor_fits) ∙ not_nought m l y t.not_zero

  pub division_refused : (e : Refusal) → DivisionAnswer m x y (Err e) → ⊥
  division_refused e h = not_both divides (met_refuses (then (two_check m x y) (divisor_check m y)) _ e h)

  module _ (d : Division) (p : DivisionAnswer m x y (Ok d)) where
    divided : Member m.coordinates d.quotient × Member m.coordinates d.remainder × Divided (ops m.coordinates) m.euclidean (value m.coordinates x) (value m.coordinates y) (value m.coordinates d.quotient) (value m.coordinates d.remainder)
    divided = met (then (two_check m x y) (divisor_check m y)) _ d divides p

    pub falls : norm_of m d.remainder < norm_of m y
    falls = divided.2.smaller

    remainder_fits : admitted m.coordinates d.remainder ≡ Ok tt
    remainder_fits = small_admitted m l d.remainder divided.1 (omega (arith, falls, t.small))

    pub norm_refused : (e : Refusal) → Err e ≡ norm_answer m d.remainder → ⊥
    norm_refused e h = not_both remainder_fits (not_measured (admits m.coordinates reach d.remainder) (norm_of m d.remainder) e h)

    module _ (n : ℕ) (q : Ok n ≡ norm_answer m d.remainder) where
      size : n ≡ norm_of m d.remainder
      size = (measured (admits m.coordinates reach d.remainder) (norm_of m d.remainder) n q).1

      pub next_turn : (n ≡ 0 → ⊥) → Turn m a b y d.remainder
      next_turn h = record {
        checked = t.checked;
        dividend_fits = t.divisor_fits;
        divisor_fits = remainder_fits;
        small = omega (arith, falls, t.small);
        not_zero = λ e. h (size ∙ e);
        same = same_step (ops_ring m.coordinates) (value m.coordinates a) (value m.coordinates b) (value m.coordinates x) (value m.coordinates y) (value m.coordinates d.quotient) (value m.coordinates d.remainder) t.same divided.2.sum;
      }

      pub last_turn : n ≡ 0 → (r : Result Element Refusal) → CanonicalAnswer m y r → GeneratorAnswer m a b r
      last_turn h r c =
          let s = met_answers (one_check m y) _ r t.divisor_fits c in
          let none = l.euclidean.zero_from_norm (value m.coordinates d.remainder) (sym size ∙ h) in
          subst (GeneratorAnswer m a b) (sym s.1) (meets (generator_check m a b) _ s.0 t.checked (s.2.0, generates (ops_ring m.coordinates) (value m.coordinates a) (value m.coordinates b) (value m.coordinates x) (value m.coordinates y) (value m.coordinates d.quotient) (value m.coordinates d.remainder) t.same divided.2.sum none (value m.coordinates s.0) s.2.1 m.euclidean s.2.2))
