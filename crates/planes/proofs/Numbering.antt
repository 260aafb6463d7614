-- The numbers of residues by their coordinates.
use Rattle.std.proofs.Common.{◌≡◌, ℕ, ◌+◌, ◌*◌, ◌/◌, ◌%◌, ◌<◌, ◌≤◌, ℤ, pos, nat_abs, Some, None, sym, ap, ◌∙◌, subst, ap₂, mod-lt, div-lt_iff_lt-mul, div-add-mod', arith}
use lib.Arith.{digits_div, digits_lt, digits_mod}
use Rattle.std.proofs.lemmas.Option.{slice_get_past}
use Rattle.std.specs.List.{slice_get}
use Rattle.algebra.specs.Quadratic.{Quad}
use Rattle.algebra.proofs.Once.{map_counting_listed, nth_map_counting}
use Rattle.planes.specs.declared.Plane.{Plane}
use Rattle.planes.specs.Planes.{content, norm, pair, residues, width}
use Rattle.planes.proofs.Residues.{norm_width, residues_count, width_positive}

module _ (p : Plane) (m : Quad ℤ) (nonzero : 0 < norm p m) where
  abbrev w : ℕ
  w = width p m

  pub residue_of_number : (i : ℕ) → i < norm p m → slice_get (residues p m) i ≡ Some (pair (pos (i % w)) (pos (i / w)))
  residue_of_number i h = nth_map_counting (λ n. pair (pos (n % w)) (pos (n / w))) (norm p m) i h

  pub none_past_norm : (i : ℕ) → norm p m ≤ i → slice_get (residues p m) i ≡ None
  none_past_norm i h = slice_get_past (residues p m) i (subst (λ (n : ℕ). n ≤ i) (sym (residues_count p m nonzero)) h)

  pub residue_there : (x y : ℕ) → x < w → y < content m → slice_get (residues p m) (y * w + x) ≡ Some (pair (pos x) (pos y))
  residue_there x y h k =
      residue_of_number (y * w + x) (subst (λ (n : ℕ). y * w + x < n) (sym (norm_width p m nonzero)) (digits_lt k h)) ∙ ap₂ (λ (s t : ℕ). Some (pair (pos s) (pos t))) (digits_mod y h) (digits_div y h)

  -- a residue has natural coordinates, below the width and below the content
  pub record Shape (i : ℕ) (r : Quad ℤ) : Type 0 where
    pub re : r.re ≡ pos (i % w)
    pub im : r.im ≡ pos (i / w)
    pub column : i % w < w
    pub row : i / w < content m

  pub listed_shape : (i : ℕ) (r : Quad ℤ) → slice_get (residues p m) i ≡ Some r → Shape i r
  listed_shape i r h =
      let l = map_counting_listed (λ n. pair (pos (n % w)) (pos (n / w))) (norm p m) i r h in
      record {
        re = ap (λ (z : Quad ℤ). z.re) l.1;
        im = ap (λ (z : Quad ℤ). z.im) l.1;
        column = mod-lt i (width_positive p m nonzero);
        row = (div-lt_iff_lt-mul (width_positive p m nonzero)).1 (rw (norm_width p m nonzero) at l.0);
      }

  pub residues_once : (i j : ℕ) (r : Quad ℤ) → slice_get (residues p m) i ≡ Some r → slice_get (residues p m) j ≡ Some r → i ≡ j
  residues_once i j r h k =
      let a = listed_shape i r h in
      let b = listed_shape j r k in
      let x : i % w ≡ j % w = ap nat_abs (sym a.re ∙ b.re) in
      let y : i / w ≡ j / w = ap nat_abs (sym a.im ∙ b.im) in
      let s = ap (λ (n : ℕ). n * w) y in
      omega (arith, div-add-mod' i w, div-add-mod' j w, x, s)
