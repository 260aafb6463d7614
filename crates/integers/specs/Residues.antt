-- The residues 0, 1, .. below the modulus: what stands at each place, and that each integer is congruent to one of them.
use Rattle.std.specs.Prelude.{◌≡◌, ℕ, zero, suc, ◌+◌, ◌*◌, ◌<◌, ◌≤◌, map, ℤ, pos, ◌+ℤ◌, neg_ℤ, Some, None, unsigned_abs}
use Rattle.std.proofs.Common.{sym, ap, ap₂, ◌∙◌, inl, inr, mul-le-mul, arith}
use Rattle.std.specs.List.{range_with_len, slice_get}
use Rattle.std.specs.Int.{int_div_euclid, int_rem_euclid}
use Rattle.std.proofs.lemmas.List.FromFn.{length-map-range_with_len}
use Rattle.std.proofs.lemmas.Option.{slice_get_past}
use Rattle.std.proofs.lemmas.Int.{ints, unsigned_abs-mul}
use Rattle.std.proofs.lemmas.Bool.{cases_lt}
use Rattle.algebra.specs.Integers.{ℤ_ops}
use Rattle.algebra.specs.Divisors.{Congruent}
use Rattle.algebra.specs.Euclidean.{Listed}
use Rattle.integers.specs.Integers.{residues}
use Rattle.algebra.proofs.Euclid.{divided, remainder_natural, remainder_small}

nth_from : (a n i : ℕ) → i < n → slice_get (map pos (range_with_len a n)) i ≡ Some (pos (a + i))
nth_from a zero i h = absurd (omega arith)
nth_from a (suc n) zero h = ap (λ (k : ℕ). Some (pos k)) (omega arith)
nth_from a (suc n) (suc i) h = nth_from (a + 1) n i (omega arith) ∙ ap (λ (k : ℕ). Some (pos k)) (omega arith)

pub residue_at : (m : ℤ) (i : ℕ) → i < unsigned_abs m → slice_get (residues m) i ≡ Some (pos i)
residue_at m i h = nth_from 0 (unsigned_abs m) i h ∙ ap (λ (k : ℕ). Some (pos k)) (omega arith)

pub residue_past : (m : ℤ) (i : ℕ) → unsigned_abs m ≤ i → slice_get (residues m) i ≡ None
residue_past m i h = slice_get_past (residues m) i (omega (arith, length-map-range_with_len pos 0 (unsigned_abs m)))

pub residue_listed : (m r : ℤ) (i : ℕ) → slice_get (residues m) i ≡ Some r → (i < unsigned_abs m) × (r ≡ pos i)
residue_listed m r i h = elim (cases_lt i (unsigned_abs m)) [ inl l ↦ (l, let e = residue_at m i l in cc) | inr l ↦ absurd (let e = residue_past m i l in let z : ◌≡◌ {A = ℕ} 0 1 = cc in omega arith) ]

-- a multiple that is smaller is 0
small_multiple : (k q m : ℕ) → k ≡ q * m → k < m → k ≡ 0
small_multiple k zero m e h = omega (arith)
small_multiple k (suc q) m e h = absurd (let p : 1 * m ≤ suc q * m = mul-le-mul (omega arith) (omega arith) in omega arith)

residues_apart : (m : ℤ) (i j : ℕ) → i < unsigned_abs m → j < unsigned_abs m → Congruent ℤ_ops m (pos i) (pos j) → i ≡ j
residues_apart m i j g h c =
    let e = small_multiple (unsigned_abs (pos i +ℤ neg_ℤ (pos j))) (unsigned_abs c.0) (unsigned_abs m) (ap unsigned_abs c.1 ∙ unsigned_abs-mul c.0 m) (omega (arith, ints)) in
    omega (arith, ints)

pub residues_once : (m : ℤ) (i j : ℕ) (r s : ℤ) → slice_get (residues m) i ≡ Some r → slice_get (residues m) j ≡ Some s → Congruent ℤ_ops m r s → i ≡ j
residues_once m i j r s p q c =
    let e = residue_listed m r i p in
    let f = residue_listed m s j q in
    residues_apart m i j e.0 f.0 (c.0, ap₂ (λ (x y : ℤ). x +ℤ neg_ℤ y) (sym e.1) (sym f.1) ∙ c.1)

pub remainder_congruent : (a m : ℤ) → 0 < unsigned_abs m → Congruent ℤ_ops m a (int_rem_euclid a m)
remainder_congruent a m h = (int_div_euclid a m, let e = divided a m h in omega (arith, ints))

pub remainder_listed : (a m : ℤ) → 0 < unsigned_abs m → Listed (residues m) (int_rem_euclid a m)
remainder_listed a m h = (unsigned_abs (int_rem_euclid a m), residue_at m (unsigned_abs (int_rem_euclid a m)) (remainder_small a m h) ∙ ap Some (sym (remainder_natural a m)))
