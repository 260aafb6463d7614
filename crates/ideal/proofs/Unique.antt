-- Two canonical elements that generate one ideal are equal.
use Rattle.std.proofs.Common.{◌≡◌, ◌⊎◌, sym, ap, ◌∙◌, ap₂, inl, inr}
use Rattle.algebra.specs.Ring.{Ops, CommRing}
use Rattle.algebra.specs.Divisors.{Associate, Divides, sub}
use Rattle.algebra.specs.Euclidean.{Euclidean, EuclideanLaws}
use Rattle.ideal.specs.Ideal.{Generates, OneGenerator}
use Rattle.ideal.proofs.Multiples.{both_multiples, one_less, from_one, less_zero, zero_times}

module _ {A : Type 0} {o : Ops A} (R : CommRing o) (e : Euclidean A) (l : EuclideanLaws o e) where
  -- a divisor of both divides whatever lies in their ideal
  common : (a b c d : A) → Generates o e a b c → Generates o e a b d → Divides o c d
  common a b c d g h =
      let p = g.divides_left in
      let q = g.divides_right in
      let f = h.combination in
      (o.add (o.mul f.0 p.0) (o.mul f.1 q.0), f.2 ∙ ap₂ (λ (z w : A). o.add (o.mul f.0 z) (o.mul f.1 w)) p.1 q.1 ∙ both_multiples R f.0 f.1 p.0 q.0 c)

  -- d = p·c and c = q·d
  module _ (c d p q : A) (s : d ≡ o.mul p c) (t : c ≡ o.mul q d) where
    product_rest : o.mul (sub o o.one (o.mul q p)) c ≡ o.zero
    product_rest = one_less R p q c ∙ ap (λ (z : A). sub o c (o.mul q z)) (sym s) ∙ ap (sub o c) (sym t) ∙ R.add-neg c

    invertible : sub o o.one (o.mul q p) ≡ o.zero → o.mul p q ≡ o.one
    invertible n = from_one R p q ∙ ap (sub o o.one) n ∙ less_zero R o.one

    both_zero : c ≡ o.zero → c ≡ d
    both_zero n = n ∙ zero_times R p ∙ ap (o.mul p) (sym n) ∙ sym s

    associates : (c ≡ d) ⊎ Associate o c d
    associates = elim (l.no_zero_divisors (sub o o.one (o.mul q p)) c product_rest) [ inl n ↦ inr (p, (q, invertible n), s) | inr n ↦ inl (both_zero n) ]

  pub one_generator : OneGenerator o e
  one_generator a b c d g h =
      let s = common a b c d g h in
      let t = common a b d c h g in
      elim (associates c d s.0 t.0 s.1 t.1) [ inl n ↦ n | inr n ↦ l.canonical_unique c d g.canonical h.canonical n ]
