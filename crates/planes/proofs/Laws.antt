-- The planes keep every law of a ring.
use Rattle.std.proofs.Common.{◌≡◌, ◌<◌, ◌⊎◌, ℤ, pos, sym, ap, ◌∙◌, inl, inr, ⊎_elim, pos_of_ne-zero, arith, lit≤}
use Rattle.algebra.proofs.Whole.{zero_product}
use Rattle.algebra.specs.Euclidean.{EuclideanLaws, Modulus}
use Rattle.algebra.specs.Quadratic.{Quad}
use Rattle.ring.specs.Elements.{Mild}
use Rattle.ring.specs.Meaning.{Laws}
use Rattle.planes.specs.declared.Plane.{Plane}
use Rattle.planes.specs.declared.Plane.TheVariants.{Square, Hexagonal}
use Rattle.planes.specs.Planes.{axes, norm, pair, plane}
use Rattle.planes.proofs.Canonical.{canonical_associate, canonical_once, canonical_unique, listed_sector, norm_nought, one_canonical, zero_canonical}
use Rattle.planes.proofs.Division.{arithmetic, division}
use Rattle.planes.proofs.Norms.{im_bound, norm-mul, re_bound, zero_from_norm}
use Rattle.planes.proofs.Residues.{residue_exists, residue_unique, residues_below, residues_count, residues_first}
use Rattle.planes.proofs.Tables.{few_canonical}
use Rattle.planes.proofs.Units.{norm_unit, unit_from_norm, unit_listed, units, units_few}

mild : (p : Plane) → Mild (axes p)
mild Square = (lit≤ tt, lit≤ tt)
mild Hexagonal = (lit≤ tt, lit≤ tt)

pub positive_norm : (p : Plane) (a : Quad ℤ) → (a ≡ pair (pos 0) (pos 0) → ⊥) → 0 < norm p a
positive_norm p a apart = pos_of_ne-zero (λ e. apart (zero_from_norm p a e))

module _ (p : Plane) where
  no_zero_divisors : (a b : Quad ℤ) → (arithmetic p).mul a b ≡ pair (pos 0) (pos 0) → (a ≡ pair (pos 0) (pos 0)) ⊎ (b ≡ pair (pos 0) (pos 0))
  no_zero_divisors a b h =
      ⊎_elim (λ e. inl (zero_from_norm p a e)) (λ e. inr (zero_from_norm p b e)) (zero_product (norm p a) (norm p b) (sym (norm-mul p a b) ∙ ap (norm p) h ∙ norm_nought p))

  above : (m : Quad ℤ) → Modulus (arithmetic p) (plane p).euclidean m → 0 < norm p m
  above m h = positive_norm p m h.not_zero

  euclidean : EuclideanLaws (arithmetic p) (plane p).euclidean
  euclidean = record {
    no_zero_divisors = no_zero_divisors;
    norm-zero = norm_nought p;
    zero_from_norm = zero_from_norm p;
    norm-mul = norm-mul p;
    division = division p;
    norm_unit = norm_unit p;
    unit_from_norm = unit_from_norm p;
    few_units = (units p, units_few p, unit_listed p);
    canonical_associate = canonical_associate p;
    canonical_unique = canonical_unique p;
    zero_canonical = zero_canonical p;
    one_canonical = one_canonical p;
    canonical_norm = λ n c l. (listed_sector p n c l).0;
    canonical_once = canonical_once p;
    few_canonical = few_canonical p;
    residues_count = λ m h. residues_count p m (above m h);
    residues_first = λ m h. residues_first p m (above m h);
    residue_exists = λ m h. residue_exists p m (above m h);
    residue_unique = λ m h. residue_unique p m (above m h);
  }

  pub laws : Laws (plane p)
  laws = record {
    mild = mild p;
    euclidean = euclidean;
    norm_bounds = λ a. record { x_bound = omega (arith, re_bound p a); y_bound = omega (arith, im_bound p a) };
    units_small = λ u h. record { x_bound = omega (arith, re_bound p u, h); y_bound = omega (arith, im_bound p u, h) };
    residues_small = λ c r h l k. let b = residues_below p c (above c h) r k in record { x_bound = omega (arith, b.0, l); y_bound = omega (arith, b.1, l) };
  }
