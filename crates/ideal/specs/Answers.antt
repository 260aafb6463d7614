-- What the functions over every ring answer.
use Rattle.std.specs.Prelude.{◌^◌, Bool, cond, Ok, Decides, Result, nat_le}
use Rattle.algebra.specs.Divisors.{Congruent}
use Rattle.refusal.specs.declared.Refusal.{Refusal}
use Rattle.refusal.specs.declared.Cause.TheVariants.{Coordinate}
use Rattle.refusal.specs.Numbers.{refuse, then}
use Rattle.ring.specs.declared.elements.Element.{Element}
use Rattle.ring.specs.Elements.{Member, ops, value}
use Rattle.ring.specs.Meaning.{Meaning}
use Rattle.ring.specs.Answers.{Meets, divisor_check, modulus_check, norm_of, one_check, two_check}
use Rattle.ideal.specs.Ideal.{Generates}

module _ (m : Meaning) where
  -- an element of this norm has coordinates up to 2^30
  abbrev pub size_check : Element → Result (Unit {0}) Refusal
  size_check b = cond (nat_le (norm_of m b) (2 ^ 29)) (Ok tt) (refuse Coordinate)

  abbrev pub generator_check : Element → Element → Result (Unit {0}) Refusal
  generator_check a b = then (two_check m a b) (then (size_check b) (divisor_check m b))

  -- the canonical generator of the ideal of a and b
  abbrev pub GeneratorAnswer : Element → Element → Result Element Refusal → Type 0
  GeneratorAnswer a b r = Meets (generator_check a b) r (λ d. Member m.coordinates d × Generates (ops m.coordinates) m.euclidean (value m.coordinates a) (value m.coordinates b) (value m.coordinates d))

  abbrev pub congruence_check : Element → Element → Element → Result (Unit {0}) Refusal
  congruence_check a b c = then (two_check m a b) (then (one_check m c) (modulus_check m c))

  -- whether a and b are congruent modulo c
  abbrev pub CongruenceAnswer : Element → Element → Element → Result Bool Refusal → Type 0
  CongruenceAnswer a b c r = Meets (congruence_check a b c) r (λ t. Decides t (Congruent (ops m.coordinates) (value m.coordinates c) (value m.coordinates a) (value m.coordinates b)))
