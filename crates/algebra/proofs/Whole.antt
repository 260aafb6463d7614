-- Absolute values of integers, and products of natural numbers.
use Rattle.std.proofs.Common.{◌≡◌, ℕ, zero, suc, ◌+◌, ◌*◌, ◌≤◌, ◌⊎◌, ℤ, pos, negsuc, ◌+ℤ◌, nat_abs, refl, ap, inl, inr, arith}
use Rattle.std.proofs.lemmas.Int.{ints}

pub unsigned_abs-add : (a b : ℤ) → nat_abs (a +ℤ b) ≤ nat_abs a + nat_abs b
unsigned_abs-add a b = omega (arith, ints)

pub zero_from_unsigned_abs : (a : ℤ) → nat_abs a ≡ 0 → a ≡ pos 0
zero_from_unsigned_abs (pos n) e = ap pos e
zero_from_unsigned_abs (negsuc n) e = absurd (omega (arith, e))

pub zero_product : (m n : ℕ) → m * n ≡ 0 → (m ≡ 0) ⊎ (n ≡ 0)
zero_product zero n h = inl refl
zero_product (suc m) zero h = inr refl
zero_product (suc m) (suc n) h = absurd (omega (arith, h))

pub one_product : (m n : ℕ) → m * n ≡ 1 → m ≡ 1
one_product zero n h = absurd (omega (arith, h))
one_product (suc zero) n h = refl
one_product (suc (suc m)) zero h = absurd (omega (arith, h))
one_product (suc (suc m)) (suc n) h = absurd (omega (arith, h))
