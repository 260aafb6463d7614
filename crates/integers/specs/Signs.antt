-- Absolute values of products, and the units.
use Rattle.std.specs.Prelude.{◌≡◌, ℕ, zero, suc, ◌*◌, ◌<◌, ◌⊎◌, [], ◌∷◌, ℤ, pos, negsuc, ◌*ℤ◌, Some, ◌≢◌, unsigned_abs, refl}
use Rattle.std.proofs.Common.{sym, ap, ◌∙◌, inl, inr, one-mul, arith}
use Rattle.std.proofs.lemmas.Int.{ints, unsigned_abs-mul}
use Rattle.algebra.specs.Integers.{ℤ_ops}
use Rattle.algebra.specs.Divisors.{Invertible, Associate}
use Rattle.algebra.specs.Euclidean.{Listed}
use Rattle.algebra.proofs.Whole.{one_product, zero_from_unsigned_abs, zero_product}

pub size_apart : (a : ℤ) → (a ≢ pos 0) → 0 < unsigned_abs a
size_apart (pos zero) h = absurd (h refl)
size_apart (pos (suc n)) h = omega arith
size_apart (negsuc n) h = omega arith

pub no_zero_divisors : (a b : ℤ) → a *ℤ b ≡ pos 0 → (a ≡ pos 0) ⊎ (b ≡ pos 0)
no_zero_divisors a b h = elim (zero_product (unsigned_abs a) (unsigned_abs b) (sym (unsigned_abs-mul a b) ∙ ap unsigned_abs h)) [ inl e ↦ inl (zero_from_unsigned_abs a e) | inr e ↦ inr (zero_from_unsigned_abs b e) ]

pub unit_size : (u : ℤ) → Invertible ℤ_ops u → unsigned_abs u ≡ 1
unit_size u v = one_product (unsigned_abs u) (unsigned_abs v.0) (sym (unsigned_abs-mul u v.0) ∙ ap unsigned_abs v.1)

pub unit_from_size : (u : ℤ) → unsigned_abs u ≡ 1 → Invertible ℤ_ops u
unit_from_size (pos n) e = (pos 1, omega (arith, ints))
unit_from_size (negsuc n) e = (negsuc 0, omega (arith, ints))

pub units : (u : ℤ) → unsigned_abs u ≡ 1 → Listed (pos 1 ∷ negsuc 0 ∷ []) u
units (pos n) e = (0, ap (λ (k : ℕ). Some (pos k)) (sym e))
units (negsuc n) e = (1, ap (λ (k : ℕ). Some (negsuc k)) (omega arith))

-- an integer and its absolute value differ by a sign
pub size_associate : (a : ℤ) → Associate ℤ_ops a (pos (unsigned_abs a))
size_associate (pos n) = (pos 1, (pos 1, refl), omega (arith, ints))
size_associate (negsuc n) = (negsuc 0, (negsuc 0, refl), omega (arith, ints))

pub same_size : (a b : ℤ) → Associate ℤ_ops a b → unsigned_abs a ≡ unsigned_abs b
same_size a b s =
    sym (ap unsigned_abs s.2 ∙ unsigned_abs-mul s.0 a ∙ ap (λ (n : ℕ). n * unsigned_abs a) (unit_size s.0 s.1) ∙ one-mul (unsigned_abs a))
