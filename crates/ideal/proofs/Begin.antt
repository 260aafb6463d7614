-- What is answered before the first division, and that the first turn may begin.
use Rattle.std.proofs.Common.{◌≡◌, ℕ, ◌^◌, ◌≤◌, Ok, Err, Result, sym, ap, ◌∙◌, arith}
use Rattle.refusal.specs.declared.Refusal.{Refusal}
use Rattle.refusal.specs.declared.Cause.TheVariants.{Modulus as NoModulus}
use Rattle.refusal.specs.Numbers.{refused, then}
use Rattle.ring.specs.declared.elements.Coordinates.{Coordinates}
use Rattle.ring.specs.declared.elements.Element.{Element}
use Rattle.ring.specs.Elements.{admits, admitted, reach, value}
use Rattle.ring.specs.Meaning.{Laws, Meaning}
use Rattle.ring.specs.Answers.{divisor_check, norm_answer, norm_of, one_check}
use Rattle.ring.proofs.Checks.{passes, refuses}
use Rattle.ring.proofs.Rings.{ops_ring}
use Rattle.ideal.specs.Answers.{GeneratorAnswer, generator_check, size_check}
use Rattle.ideal.proofs.Euclid.{same_start}
use Rattle.ideal.proofs.Measured.{measured, not_nought, nought, not_large}
use Rattle.ideal.proofs.Turns.{Turn}

-- k is what the ring says its coordinates are
module _ (m : Meaning) (l : Laws m) (k : Coordinates) (is : k ≡ m.coordinates) (a b : Element) where
  at_meaning : admitted k a ≡ admitted m.coordinates a
  at_meaning = ap (λ (j : Coordinates). admitted j a) is

  module _ (o : Ok tt ≡ admitted k a) where
    past_dividend : generator_check m a b ≡ then (one_check m b) (then (size_check m b) (divisor_check m b))
    past_dividend = ap (λ (j : Result (Unit {0}) Refusal). then (then j (one_check m b)) (then (size_check m b) (divisor_check m b))) (sym (o ∙ at_meaning))

    module _ (size : ℕ) (p : Ok size ≡ norm_answer m b) where
      fits : (one_check m b ≡ Ok tt) × (size ≡ norm_of m b)
      fits = measured (admits m.coordinates reach b) (norm_of m b) size p

      past_both : generator_check m a b ≡ then (size_check m b) (divisor_check m b)
      past_both = past_dividend ∙ passes (one_check m b) tt _ fits.0

      module _ (h : size ≤ 2 ^ 29) where
        last_check : generator_check m a b ≡ divisor_check m b
        last_check = past_both ∙ passes (size_check m b) tt _ (not_large m l b (omega (arith, fits.1)))

        pub refused_zero : size ≡ 0 → GeneratorAnswer m a b (Err (refused NoModulus 0))
        refused_zero e = refuses (generator_check m a b) _ _ (last_check ∙ nought m l b (omega (arith, fits.1)))

        pub first_turn : (size ≡ 0 → ⊥) → Turn m a b a b
        first_turn n =
            let z : norm_of m b ≡ 0 → ⊥ = λ e. n (fits.1 ∙ e) in
            record {
              checked = last_check ∙ not_nought m l b z;
              dividend_fits = sym (o ∙ at_meaning);
              divisor_fits = fits.0;
              small = omega (arith, fits.1);
              not_zero = z;
              same = same_start (ops_ring m.coordinates) (value m.coordinates a) (value m.coordinates b);
            }
