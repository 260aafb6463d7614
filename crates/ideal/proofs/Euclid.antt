-- Euclid's algorithm: each division keeps the ideal, and the last divisor generates it.
use Rattle.std.proofs.Common.{◌≡◌, sym, ap, ◌∙◌, ap₂}
use Rattle.algebra.specs.Ring.{Ops, CommRing}
use Rattle.algebra.specs.Divisors.{Associate, Divides, sub}
use Rattle.algebra.specs.Euclidean.{Euclidean, Canonical}
use Rattle.ideal.specs.Ideal.{Combination, Generates}
use Rattle.ideal.proofs.Multiples.{first, second, divided_sum, taken_away, difference, multiple_sum, regrouped, one_times, scaled_sum}

-- x and y have the ideal of a and b
pub record SameIdeal {A : Type 0} (o : Ops A) (a b x y : A) : Type 0 where
  pub left : Combination o x y a
  pub right : Combination o x y b
  pub dividend : Combination o a b x
  pub divisor : Combination o a b y

module _ {A : Type 0} {o : Ops A} (R : CommRing o) where
  pub same_start : (a b : A) → SameIdeal o a b a b
  same_start a b = record {
    left = (o.one, o.zero, first R a b);
    right = (o.zero, o.one, second R a b);
    dividend = (o.one, o.zero, first R a b);
    divisor = (o.zero, o.one, second R a b);
  }

  module _ (a b x y k r : A) (s : SameIdeal o a b x y) (e : x ≡ o.add (o.mul k y) r) where
    moved : (c : A) → Combination o x y c → Combination o y r c
    moved c h = (o.add (o.mul h.0 k) h.1, h.0, h.2 ∙ ap (λ (z : A). o.add (o.mul h.0 z) (o.mul h.1 y)) e ∙ divided_sum R h.0 h.1 k y r)

    remainder_is : r ≡ sub o x (o.mul k y)
    remainder_is = taken_away R k y r ∙ ap (λ (z : A). sub o z (o.mul k y)) (sym e)

    -- the next dividend is the divisor, and the next divisor the remainder
    pub same_step : SameIdeal o a b y r
    same_step =
        let f = s.dividend in
        let h = s.divisor in
        record {
          left = moved a s.left;
          right = moved b s.right;
          dividend = h;
          divisor = (sub o f.0 (o.mul k h.0), sub o f.1 (o.mul k h.1), remainder_is ∙ ap₂ (λ (z w : A). sub o z (o.mul k w)) f.2 h.2 ∙ difference R f.0 f.1 h.0 h.1 k a b);
        }

    -- with no remainder the divisor divides both, and so does its associate d
    module _ (none : r ≡ o.zero) (d : A) (t : Associate o y d) where
      associate_divides : (w : A) → o.mul w y ≡ o.mul (o.mul w t.1.0) d
      associate_divides w = ap (o.mul w) (one_times R y ∙ ap (λ (z : A). o.mul z y) (sym t.1.1)) ∙ regrouped R w t.0 t.1.0 y ∙ ap (o.mul (o.mul w t.1.0)) (sym t.2)

      divides : (c : A) → Combination o x y c → Divides o d c
      divides c h =
          let w = o.add (o.mul h.0 k) h.1 in
          (o.mul w t.1.0, h.2 ∙ ap (λ (z : A). o.add (o.mul h.0 z) (o.mul h.1 y)) (e ∙ ap (o.add (o.mul k y)) none) ∙ multiple_sum R h.0 h.1 k y ∙ associate_divides w)

      pub generates : (n : Euclidean A) → Canonical n d → Generates o n a b d
      generates n c =
          let h = s.divisor in
          record {
            canonical = c;
            divides_left = divides a s.left;
            divides_right = divides b s.right;
            combination = (o.mul t.0 h.0, o.mul t.0 h.1, t.2 ∙ ap (o.mul t.0) h.2 ∙ scaled_sum R t.0 h.0 h.1 a b);
          }
