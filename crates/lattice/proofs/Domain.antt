-- What follows where no two elements other than 0 multiply to 0.
use Rattle.std.proofs.Common.{◌≡◌, [], ◌∷◌, sym, refl, ap, ◌∙◌, ⊎_elim}
use Rattle.algebra.specs.Ring.{CommRing, Ops}
use Rattle.algebra.specs.Divisors.{Divides, sub}
use Rattle.algebra.specs.Euclidean.{Euclidean, EuclideanLaws, Modulus}
use Rattle.algebra.proofs.CommRing as Laws
use Rattle.algebra.proofs.Quote.{quote, ring}

module _ {A : Type 0} {o : Ops A} (R : CommRing o) (e : Euclidean A) (L : EuclideanLaws o e) where
  -- a multiple of m that is 0 is the multiple by 0
  pub factor_zero : (q m : A) → (m ≡ o.zero → ⊥) → o.mul q m ≡ o.zero → q ≡ o.zero
  factor_zero q m apart h = ⊎_elim (λ z. z) (λ z. absurd (apart z)) (L.no_zero_divisors q m h)

  equal_from_difference : (a b : A) → sub o a b ≡ o.zero → a ≡ b
  equal_from_difference a b h = back ∙ ap (λ (x : A). o.add x b) h ∙ Laws.zero-add R b
    where
      back : a ≡ o.add (sub o a b) b
      back = ring R (a ∷ b ∷ []) (λ k. search quote depth 9) (λ k. search quote depth 9) refl

  pub factor_same : (p q m : A) → (m ≡ o.zero → ⊥) → o.mul p m ≡ o.mul q m → p ≡ q
  factor_same p q m apart h = equal_from_difference p q (factor_zero (sub o p q) m apart (apartness ∙ ap (λ (x : A). sub o x (o.mul q m)) h ∙ R.add-neg (o.mul q m)))
    where
      apartness : o.mul (sub o p q) m ≡ sub o (o.mul p m) (o.mul q m)
      apartness = ring R (p ∷ q ∷ m ∷ []) (λ k. search quote depth 9) (λ k. search quote depth 9) refl

  pub factor_one : (q m : A) → (m ≡ o.zero → ⊥) → m ≡ o.mul q m → q ≡ o.one
  factor_one q m apart h = factor_same q o.one m apart (sym h ∙ sym (Laws.one-mul R m))

  -- two moduli that divide each other are equal
  pub modulus_unique : (m k : A) → Modulus o e m → Modulus o e k → Divides o k m → Divides o m k → m ≡ k
  modulus_unique m k M K d f =
      let p = d.0 in
      let q = f.0 in
      let one : o.mul q p ≡ o.one = factor_one (o.mul q p) k K.not_zero (f.1 ∙ ap (o.mul q) d.1 ∙ sym (R.mul_assoc q p k)) in
      L.canonical_unique m k M.canonical K.canonical (q, (p, one), f.1)
