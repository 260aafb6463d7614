-- The whole numbers in a commutative ring: `embed` keeps sums, negatives and products.
use Rattle.std.proofs.Common.{◌≡◌, ℕ, zero, suc, ◌+◌, ◌-◌, ◌*◌, ◌<◌, ◌≤◌, Bool, true, false, cond, not, T, ltb, ℤ, pos, negsuc, ◌+ℤ◌, ◌*ℤ◌, neg_ℤ, sym, refl, ap, ◌∙◌, subst, ap₂, suc-add as ℕ-suc-add, zero-add as ℕ-zero-add, zero-mul as ℕ-zero-mul, arith, ltb→lt, nltb→le}
use lib.IntN.{sub_ℕ}
use Rattle.algebra.specs.Ring.{Ops, CommRing}
use Rattle.algebra.proofs.CommRing as Laws

module _ {A : Type 0} (o : Ops A) where
  -- n ones
  abbrev pub nat : ℕ → A
  nat zero = o.zero
  nat (suc n) = o.add o.one (nat n)

  abbrev pub embed : ℤ → A
  embed (pos n) = nat n
  embed (negsuc n) = o.neg (nat (suc n))

module _ {A : Type 0} {o : Ops A} (R : CommRing o) where
  open o use {zero as 𝟘, one as 𝟙, add as ◌⊕◌, mul as ◌⊗◌, neg as ⊝}

  infixl 6 ◌⊕◌
  infixl 7 ◌⊗◌
  pub nat-add : (m n : ℕ) → nat o (m + n) ≡ nat o m ⊕ nat o n
  nat-add zero n = ap (nat o) (ℕ-zero-add n) ∙ sym (Laws.zero-add R (nat o n))
  nat-add (suc m) n = ap (nat o) (ℕ-suc-add m n) ∙ ap (λ x. 𝟙 ⊕ x) (nat-add m n) ∙ sym (R.add_assoc 𝟙 (nat o m) (nat o n))

  pub nat-mul : (m n : ℕ) → nat o (m * n) ≡ nat o m ⊗ nat o n
  nat-mul zero n = ap (nat o) (ℕ-zero-mul n) ∙ sym (Laws.zero-mul R (nat o n))
  nat-mul (suc m) n = ap (nat o) e ∙ nat-add n (m * n) ∙ ap₂ ◌⊕◌ (sym (Laws.one-mul R (nat o n))) (nat-mul m n) ∙ sym (Laws.add-mul R 𝟙 (nat o m) (nat o n))
    where
      e : suc m * n ≡ n + m * n
      e = omega arith

  -- a − b for two naturals
  embed-sub : (a b : ℕ) → embed o (sub_ℕ a b) ≡ nat o a ⊕ ⊝ (nat o b)
  embed-sub a b = go (ltb a b) refl
    where
      less : T (ltb a b) → b ≡ suc (b - suc a) + a
      less t = let h : a < b = ltb→lt a b t in omega arith

      more : T (not (ltb a b)) → a ≡ (a - b) + b
      more t = let h : b ≤ a = nltb→le a b t in omega arith

      from : (d x : A) → ⊝ d ≡ x ⊕ ⊝ (d ⊕ x)
      from d x = sym (ap (λ y. x ⊕ y) (Laws.neg-add R d x) ∙ Laws.add_left_comm R x (⊝ d) (⊝ x) ∙ ap (λ y. ⊝ d ⊕ y) (R.add-neg x) ∙ R.add-zero (⊝ d))

      onto : (d x : A) → d ≡ (d ⊕ x) ⊕ ⊝ x
      onto d x = sym (R.add_assoc d x (⊝ x) ∙ ap (λ y. d ⊕ y) (R.add-neg x) ∙ R.add-zero d)

      go : (t : Bool) → ltb a b ≡ t → embed o (cond t (negsuc (b - suc a)) (pos (a - b))) ≡ nat o a ⊕ ⊝ (nat o b)
      go true e = from (nat o (suc (b - suc a))) (nat o a) ∙ ap (λ y. nat o a ⊕ ⊝ y) (sym (nat-add (suc (b - suc a)) a) ∙ ap (nat o) (sym (less (subst T (sym e) tt))))
      go false e = onto (nat o (a - b)) (nat o b) ∙ ap (λ y. y ⊕ ⊝ (nat o b)) (sym (nat-add (a - b) b) ∙ ap (nat o) (sym (more (subst (λ t. T (not t)) (sym e) tt))))

  pub embed-neg : (x : ℤ) → embed o (neg_ℤ x) ≡ ⊝ (embed o x)
  embed-neg (pos zero) = sym (Laws.neg-zero R)
  embed-neg (pos (suc n)) = refl
  embed-neg (negsuc n) = sym (Laws.neg-neg R (nat o (suc n)))

  pub embed-add : (x y : ℤ) → embed o (x +ℤ y) ≡ embed o x ⊕ embed o y
  embed-add (pos a) (pos b) = nat-add a b
  embed-add (pos a) (negsuc b) = embed-sub a (suc b)
  embed-add (negsuc a) (pos b) = embed-sub b (suc a) ∙ R.add_comm (nat o b) (⊝ (nat o (suc a)))
  embed-add (negsuc a) (negsuc b) = ap (λ n. ⊝ (nat o n)) e ∙ ap ⊝ (nat-add (suc a) (suc b)) ∙ Laws.neg-add R (nat o (suc a)) (nat o (suc b))
    where
      e : suc (suc (a + b)) ≡ suc a + suc b
      e = omega arith

  pub embed-mul : (x y : ℤ) → embed o (x *ℤ y) ≡ embed o x ⊗ embed o y
  embed-mul (pos a) (pos b) = nat-mul a b
  embed-mul (pos a) (negsuc b) = embed-neg (pos (a * suc b)) ∙ ap ⊝ (nat-mul a (suc b)) ∙ sym (Laws.mul-neg R (nat o a) (nat o (suc b)))
  embed-mul (negsuc a) (pos b) = embed-neg (pos (suc a * b)) ∙ ap ⊝ (nat-mul (suc a) b) ∙ sym (Laws.neg-mul R (nat o (suc a)) (nat o b))
  embed-mul (negsuc a) (negsuc b) = nat-mul (suc a) (suc b) ∙ sym (Laws.neg-mul R (nat o (suc a)) (⊝ (nat o (suc b))) ∙ ap ⊝ (Laws.mul-neg R (nat o (suc a)) (nat o (suc b))) ∙ Laws.neg-neg R (nat o (suc a) ⊗ nat o (suc b)))
