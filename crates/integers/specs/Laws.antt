-- The integers keep the laws of a ring.
use Rattle.std.specs.Prelude.{◌≡◌, ℕ, zero, suc, ◌<◌, ◌≤◌, [], ◌∷◌, ℤ, pos, negsuc, Some, unsigned_abs, refl}
use Rattle.std.proofs.Common.{sym, ap, ◌∙◌, arith, lit≤}
use Rattle.std.specs.Int.{int_div_euclid, int_rem_euclid}
use Rattle.std.specs.List.{slice_get}
use Rattle.std.proofs.lemmas.List.FromFn.{length-map-range_with_len}
use Rattle.algebra.specs.Integers.{ℤ_ops}
use Rattle.algebra.specs.Euclidean.{EuclideanLaws, Canonical, Listed, Modulus}
use Rattle.ring.specs.Meaning.{Laws}
use Rattle.std.proofs.lemmas.Int.{unsigned_abs-mul}
use Rattle.integers.specs.Integers.{canonical, integers, residues}
use Rattle.algebra.proofs.Whole.{zero_from_unsigned_abs}
use Rattle.integers.specs.Signs.{size_apart, no_zero_divisors, unit_size, unit_from_size, units, size_associate, same_size}
use Rattle.algebra.proofs.Euclid.{divided, remainder_small}
use Rattle.integers.specs.Residues.{residue_at, residue_listed, residues_once, remainder_congruent, remainder_listed}

-- the only canonical element of a norm, at the only place
canonical_at : (n i : ℕ) (c : ℤ) → slice_get (canonical n) i ≡ Some c → (i ≡ 0) × (c ≡ pos n)
canonical_at n zero c h = (refl, cc)
canonical_at n (suc i) c h = absurd (let z : ◌≡◌ {A = ℕ} 0 1 = cc in omega arith)

size_canonical : (a : ℤ) → Canonical integers.euclidean (pos (unsigned_abs a))
size_canonical a = (0, refl)

modulus_size : (m : ℤ) → Modulus ℤ_ops integers.euclidean m → 0 < unsigned_abs m
modulus_size m h = size_apart m h.not_zero

residue_bound : (c r : ℤ) → Modulus ℤ_ops integers.euclidean c → unsigned_abs c ≤ 64 → Listed (residues c) r → unsigned_abs r ≤ 99
residue_bound c r m h l = let e = residue_listed c r l.0 l.1 in omega (arith, ap unsigned_abs e.1)

euclidean_laws : EuclideanLaws ℤ_ops integers.euclidean
euclidean_laws = record {
  no_zero_divisors = no_zero_divisors;
  norm-zero = refl;
  zero_from_norm = zero_from_unsigned_abs;
  norm-mul = unsigned_abs-mul;
  division = λ a b h. (int_div_euclid a b, int_rem_euclid a b, record { sum = divided a b (size_apart b h); smaller = remainder_small a b (size_apart b h) });
  norm_unit = unit_size;
  unit_from_norm = unit_from_size;
  few_units = (pos 1 ∷ negsuc 0 ∷ [], lit≤ tt, units);
  canonical_associate = λ a. (pos (unsigned_abs a), size_associate a, size_canonical a);
  canonical_unique = λ a b p q s. (canonical_at (unsigned_abs a) p.0 a p.1).1 ∙ ap pos (same_size a b s) ∙ sym (canonical_at (unsigned_abs b) q.0 b q.1).1;
  zero_canonical = (0, refl);
  one_canonical = (0, refl);
  canonical_norm = λ n c l. ap unsigned_abs (canonical_at n l.0 c l.1).1;
  canonical_once = λ n i j c g h. (canonical_at n i c g).0 ∙ sym (canonical_at n j c h).0;
  few_canonical = λ n g h. lit≤ tt;
  residues_count = λ m h. length-map-range_with_len pos 0 (unsigned_abs m);
  residues_first = λ m h. residue_at m 0 (modulus_size m h);
  residue_exists = λ m h a. (int_rem_euclid a m, remainder_listed a m (modulus_size m h), remainder_congruent a m (modulus_size m h));
  residue_unique = λ m h. residues_once m;
}

pub integers_laws : Laws integers
integers_laws = record {
  mild = tt;
  euclidean = euclidean_laws;
  norm_bounds = λ a. record { x_bound = omega arith; y_bound = omega arith };
  units_small = λ u h. record { x_bound = omega arith; y_bound = omega arith };
  residues_small = λ c r m h l. record { x_bound = residue_bound c r m h l; y_bound = lit≤ tt };
}
