-- Euclid's division: the remainder is not negative, and smaller than the divisor.
use Rattle.std.proofs.Common.{◌≡◌, ℕ, zero, suc, ◌*◌, ◌/◌, ◌%◌, ◌<◌, ℤ, pos, negsuc, ◌+ℤ◌, ◌*ℤ◌, neg_ℤ, nat_abs, refl, ap, mod-lt, zero-mul, arith}
use Rattle.std.specs.Int.{int_div_euclid, int_rem_euclid}
use Rattle.std.proofs.lemmas.Int.{ints}

pub remainder_small : (a b : ℤ) → 0 < nat_abs b → nat_abs (int_rem_euclid a b) < nat_abs b
remainder_small (pos a) b h = mod-lt a h
remainder_small (negsuc a) b h = omega arith

minus_product : (q b : ℕ) → neg_ℤ (pos q) *ℤ negsuc b ≡ pos (q * suc b)
minus_product zero b = rw zero-mul
minus_product (suc q) b = refl

pub divided : (a b : ℤ) → 0 < nat_abs b → a ≡ int_div_euclid a b *ℤ b +ℤ int_rem_euclid a b
divided (pos a) (pos zero) h = absurd (omega arith)
divided (pos a) (pos (suc b)) h = ap pos (omega arith)
divided (pos a) (negsuc b) h = let e = minus_product (a / suc b) b in omega (arith, ints)
divided (negsuc a) (pos zero) h = absurd (omega arith)
divided (negsuc a) (pos (suc b)) h = let p : a % suc b < suc b = mod-lt a (omega arith) in omega (arith, ints)
divided (negsuc a) (negsuc b) h = let p : a % suc b < suc b = mod-lt a (omega arith) in omega (arith, ints)

pub remainder_natural : (a b : ℤ) → int_rem_euclid a b ≡ pos (nat_abs (int_rem_euclid a b))
remainder_natural (pos a) b = refl
remainder_natural (negsuc a) b = refl
