-- Identities of sums of multiples, in any commutative ring.
use Rattle.std.proofs.Common.{◌≡◌, [], ◌∷◌, refl}
use Rattle.algebra.specs.Ring.{Ops, CommRing}
use Rattle.algebra.specs.Divisors.{sub}
use Rattle.algebra.proofs.Quote.{ring, quote}

module _ {A : Type 0} {o : Ops A} (R : CommRing o) where
  pub first : (a b : A) → a ≡ o.add (o.mul o.one a) (o.mul o.zero b)
  first a b = ring R (a ∷ b ∷ []) (λ k. search quote depth 20 fits 5000) (λ k. search quote depth 20 fits 5000) refl

  pub second : (a b : A) → b ≡ o.add (o.mul o.zero a) (o.mul o.one b)
  second a b = ring R (a ∷ b ∷ []) (λ k. search quote depth 20 fits 5000) (λ k. search quote depth 20 fits 5000) refl

  -- p·(k·y + r) + q·y
  pub divided_sum : (p q k y r : A) → o.add (o.mul p (o.add (o.mul k y) r)) (o.mul q y) ≡ o.add (o.mul (o.add (o.mul p k) q) y) (o.mul p r)
  divided_sum p q k y r = ring R (p ∷ q ∷ k ∷ y ∷ r ∷ []) (λ z. search quote depth 20 fits 5000) (λ z. search quote depth 20 fits 5000) refl

  pub taken_away : (k y r : A) → r ≡ sub o (o.add (o.mul k y) r) (o.mul k y)
  taken_away k y r = ring R (k ∷ y ∷ r ∷ []) (λ z. search quote depth 20 fits 5000) (λ z. search quote depth 20 fits 5000) refl

  -- (s·a + t·b) − k·(u·a + v·b)
  pub difference : (s t u v k a b : A) → sub o (o.add (o.mul s a) (o.mul t b)) (o.mul k (o.add (o.mul u a) (o.mul v b))) ≡ o.add (o.mul (sub o s (o.mul k u)) a) (o.mul (sub o t (o.mul k v)) b)
  difference s t u v k a b = ring R (s ∷ t ∷ u ∷ v ∷ k ∷ a ∷ b ∷ []) (λ z. search quote depth 20 fits 5000) (λ z. search quote depth 20 fits 5000) refl

  pub multiple_sum : (p q k y : A) → o.add (o.mul p (o.add (o.mul k y) o.zero)) (o.mul q y) ≡ o.mul (o.add (o.mul p k) q) y
  multiple_sum p q k y = ring R (p ∷ q ∷ k ∷ y ∷ []) (λ z. search quote depth 20 fits 5000) (λ z. search quote depth 20 fits 5000) refl

  -- w·y, of which u·y is an associate
  pub regrouped : (w u v y : A) → o.mul w (o.mul (o.mul u v) y) ≡ o.mul (o.mul w v) (o.mul u y)
  regrouped w u v y = ring R (w ∷ u ∷ v ∷ y ∷ []) (λ z. search quote depth 20 fits 5000) (λ z. search quote depth 20 fits 5000) refl

  pub one_times : (y : A) → y ≡ o.mul o.one y
  one_times y = ring R (y ∷ []) (λ z. search quote depth 20 fits 5000) (λ z. search quote depth 20 fits 5000) refl

  pub zero_times : (p : A) → o.zero ≡ o.mul p o.zero
  zero_times p = ring R (p ∷ []) (λ z. search quote depth 20 fits 5000) (λ z. search quote depth 20 fits 5000) refl

  pub scaled_sum : (u s t a b : A) → o.mul u (o.add (o.mul s a) (o.mul t b)) ≡ o.add (o.mul (o.mul u s) a) (o.mul (o.mul u t) b)
  scaled_sum u s t a b = ring R (u ∷ s ∷ t ∷ a ∷ b ∷ []) (λ z. search quote depth 20 fits 5000) (λ z. search quote depth 20 fits 5000) refl

  pub both_multiples : (x y p q c : A) → o.add (o.mul x (o.mul p c)) (o.mul y (o.mul q c)) ≡ o.mul (o.add (o.mul x p) (o.mul y q)) c
  both_multiples x y p q c = ring R (x ∷ y ∷ p ∷ q ∷ c ∷ []) (λ z. search quote depth 20 fits 5000) (λ z. search quote depth 20 fits 5000) refl

  pub one_less : (p q c : A) → o.mul (sub o o.one (o.mul q p)) c ≡ sub o c (o.mul q (o.mul p c))
  one_less p q c = ring R (p ∷ q ∷ c ∷ []) (λ z. search quote depth 20 fits 5000) (λ z. search quote depth 20 fits 5000) refl

  pub from_one : (p q : A) → o.mul p q ≡ sub o o.one (sub o o.one (o.mul q p))
  from_one p q = ring R (p ∷ q ∷ []) (λ z. search quote depth 20 fits 5000) (λ z. search quote depth 20 fits 5000) refl

  pub less_zero : (a : A) → sub o a o.zero ≡ a
  less_zero a = ring R (a ∷ []) (λ z. search quote depth 20 fits 5000) (λ z. search quote depth 20 fits 5000) refl

  -- by way of s
  pub through : (a b s : A) → sub o a b ≡ sub o (sub o a s) (sub o b s)
  through a b s = ring R (a ∷ b ∷ s ∷ []) (λ z. search quote depth 20 fits 5000) (λ z. search quote depth 20 fits 5000) refl

  pub less_multiples : (p q m : A) → sub o (o.mul p m) (o.mul q m) ≡ o.mul (sub o p q) m
  less_multiples p q m = ring R (p ∷ q ∷ m ∷ []) (λ z. search quote depth 20 fits 5000) (λ z. search quote depth 20 fits 5000) refl

  pub around : (a b s t : A) → sub o s t ≡ sub o (o.add (sub o a b) (sub o b t)) (sub o a s)
  around a b s t = ring R (a ∷ b ∷ s ∷ t ∷ []) (λ z. search quote depth 20 fits 5000) (λ z. search quote depth 20 fits 5000) refl

  pub three_multiples : (z q p m : A) → sub o (o.add (o.mul z m) (o.mul q m)) (o.mul p m) ≡ o.mul (sub o (o.add z q) p) m
  three_multiples z q p m = ring R (z ∷ q ∷ p ∷ m ∷ []) (λ k. search quote depth 20 fits 5000) (λ k. search quote depth 20 fits 5000) refl
