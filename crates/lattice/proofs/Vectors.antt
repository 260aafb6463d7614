-- Identities of vectors, coordinate by coordinate.
use Rattle.std.proofs.Common.{◌≡◌, ℕ, zero, suc, [], ◌∷◌, refl}
use Rattle.algebra.specs.Ring.{CommRing, Ops}
use Rattle.algebra.proofs.Quote.{quote, ring}
use Rattle.lattice.specs.Vectors.{Vec, vadd, vscale, vsub, vzero}

pub cons : {A B : Type 0} {a b : A} {u v : B} → a ≡ b → u ≡ v → ◌≡◌ {A = A × B} (a, u) (b, v)
cons h k = λ i. (h i, k i)

module _ {A : Type 0} {o : Ops A} (R : CommRing o) where
  pub vadd-zero : (d : ℕ) (u : Vec A d) → vadd o d u (vzero o d) ≡ u
  vadd-zero zero u = refl
  vadd-zero (suc d) u = λ i. (R.add-zero u.0 i, vadd-zero d u.1 i)

  pub vsub_self : (d : ℕ) (u : Vec A d) → vsub o d u u ≡ vzero o d
  vsub_self zero u = refl
  vsub_self (suc d) u = λ i. (R.add-neg u.0 i, vsub_self d u.1 i)

  pub vsub-zero_scale : (d : ℕ) (u c : Vec A d) → vsub o d u (vscale o d o.zero c) ≡ u
  vsub-zero_scale zero u c = refl
  vsub-zero_scale (suc d) u c = cons (ring R (u.0 ∷ c.0 ∷ []) (λ k. search quote depth 9) (λ k. search quote depth 9) refl) (vsub-zero_scale d u.1 c.1)

  pub vsub-one_scale : (d : ℕ) (u c : Vec A d) → vsub o d u (vscale o d o.one c) ≡ vsub o d u c
  vsub-one_scale zero u c = refl
  vsub-one_scale (suc d) u c = cons (ring R (u.0 ∷ c.0 ∷ []) (λ k. search quote depth 9) (λ k. search quote depth 9) refl) (vsub-one_scale d u.1 c.1)

  -- (u − q·c) − r = (u − r) − q·c
  pub vsub_swap : (d : ℕ) (u r c : Vec A d) (q : A) → vsub o d (vsub o d u (vscale o d q c)) r ≡ vsub o d (vsub o d u r) (vscale o d q c)
  vsub_swap zero u r c q = refl
  vsub_swap (suc d) u r c q = cons (ring R (u.0 ∷ r.0 ∷ c.0 ∷ q ∷ []) (λ k. search quote depth 9) (λ k. search quote depth 9) refl) (vsub_swap d u.1 r.1 c.1 q)

  -- what is added and taken away
  pub vadd-vsub : (d : ℕ) (u v : Vec A d) → vadd o d v (vsub o d u v) ≡ u
  vadd-vsub zero u v = refl
  vadd-vsub (suc d) u v = cons (ring R (u.0 ∷ v.0 ∷ []) (λ k. search quote depth 9) (λ k. search quote depth 9) refl) (vadd-vsub d u.1 v.1)

  pub vsub_from_sum : (d : ℕ) (u v : Vec A d) → vsub o d (vadd o d v u) v ≡ u
  vsub_from_sum zero u v = refl
  vsub_from_sum (suc d) u v = cons (ring R (u.0 ∷ v.0 ∷ []) (λ k. search quote depth 9) (λ k. search quote depth 9) refl) (vsub_from_sum d u.1 v.1)
