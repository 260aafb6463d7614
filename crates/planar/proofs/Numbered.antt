-- What the calls on residues answer.
use Rattle.std.proofs.Common.{◌≡◌, ℕ, ◌+◌, ◌*◌, ◌/◌, ◌%◌, ◌<◌, ◌≤◌, Bool, true, false, cond, ◌&&◌, ltb, ℤ, pos, negsuc, nat_abs, Some, None, Ok, Err, Option, Result, sym, refl, ap, ◌∙◌, subst, ap₂, arith}
use Rattle.std.specs.Option.{option_map, ok_or}
use Rattle.std.specs.List.{slice_get}
use Rattle.refusal.specs.declared.Cause.TheVariants.{Outside}
use Rattle.refusal.specs.declared.Refusal.{Refusal}
use Rattle.refusal.specs.Numbers.{refused, then}
use Rattle.algebra.specs.Quadratic.{Quad}
use Rattle.ring.specs.declared.elements.Element.{Element}
use Rattle.ring.specs.Answers.{modulus_check, one_check, place, residue_element_answer, residue_number_answer, residue_place, two_check}
use Rattle.ring.specs.Elements.{element, same}
use Rattle.ring.proofs.Checks.{passes, passes_both}
use Rattle.ring.proofs.Places.{both, place_none, place_nth, same_refl, same_true}
use Rattle.planes.specs.declared.Plane.{Plane}
use Rattle.planes.specs.Planes.{axes, content, norm, pair, plane, residues, width}
use Rattle.planes.proofs.Numbering.{listed_shape, none_past_norm, residue_of_number, residue_there, residues_once}
use Rattle.planar.specs.declared.basis.Basis.{Basis}
use Rattle.planar.specs.Basis.{IsBasis}
use Rattle.planar.specs.Numbering.{number_at, number_of}
use Rattle.planar.proofs.Bases.{nonzero}

below : (x w : ℕ) → ltb x w ≡ true → x < w
below x w h = grind arith

apart : (x y w g : ℕ) → x < w → y < g → (ltb x w && ltb y g) ≡ false → ⊥
apart x y w g h k e = grind arith

module _ (p : Plane) (m : Element) (b : Basis) (is : IsBasis p m b) (checked : modulus_check (plane p) m ≡ Ok tt) (admits : Ok tt ≡ one_check (plane p) m) where
  abbrev z : Quad ℤ
  z = pair m.x m.y

  positive : 0 < norm p z
  positive = nonzero p m b is

  abbrev answer : Option (Quad ℤ) → Result Element Refusal
  answer o = ok_or (option_map (element (axes p)) o) (refused Outside 0)

  element_answer : (i : ℕ) → residue_element_answer (plane p) m i ≡ answer (slice_get (residues p z) i)
  element_answer i =
      passes (then (one_check (plane p) m) (modulus_check (plane p) m)) tt (answer (slice_get (residues p z) i)) (passes_both (one_check (plane p) m) (modulus_check (plane p) m) admits (sym checked))

  pub element_inside : (i : ℕ) → i < b.norm → residue_element_answer (plane p) m i ≡ Ok (record { x = pos (i % b.width); y = pos (i / b.width) })
  element_inside i h =
      element_answer i ∙ ap answer (residue_of_number p z positive i (subst (λ (n : ℕ). i < n) is.norm_is h)) ∙ ap (λ (w : ℕ). Ok (record { x = pos (i % w); y = pos (i / w) })) (sym is.width_is)

  pub element_past : (i : ℕ) → b.norm ≤ i → residue_element_answer (plane p) m i ≡ Err (refused Outside 0)
  element_past i h =
      element_answer i ∙ ap answer (none_past_norm p z positive i (subst (λ (n : ℕ). n ≤ i) is.norm_is h))

  -- the number of an element by its coordinates is its place
  place_is : (x y : ℤ) → place (same (axes p)) (pair x y) (residues p z) ≡ number_at (width p z) (content z) x y
  place_is (pos x) (pos y) = go (ltb x (width p z) && ltb y (content z)) refl
    where
      go : (t : Bool) → (ltb x (width p z) && ltb y (content z)) ≡ t → place (same (axes p)) (pair (pos x) (pos y)) (residues p z) ≡ cond t (Some (y * width p z + x)) None
      go true e =
          let k = both (ltb x (width p z)) (ltb y (content z)) e in
          let h = below x (width p z) k.0 in
          let l = below y (content z) k.1 in
          let there = residue_there p z positive x y h l in
          place_nth (same (axes p)) (same_true (axes p)) (same_refl (axes p)) (pair (pos x) (pos y)) (residues p z) (y * width p z + x) there (λ j i. residues_once p z positive j (y * width p z + x) (pair (pos x) (pos y)) i there)
      go false e =
          place_none (same (axes p)) (same_true (axes p)) (same_refl (axes p)) (pair (pos x) (pos y)) (residues p z) (λ j i. let s = listed_shape p z positive j (pair (pos x) (pos y)) i in absurd (apart x y (width p z) (content z) (subst (λ (n : ℕ). n < width p z) (sym (ap nat_abs s.re)) s.column) (subst (λ (n : ℕ). n < content z) (sym (ap nat_abs s.im)) s.row) e))
  place_is (pos x) (negsuc y) =
      place_none (same (axes p)) (same_true (axes p)) (same_refl (axes p)) (pair (pos x) (negsuc y)) (residues p z) (λ j i. let s = (listed_shape p z positive j (pair (pos x) (negsuc y)) i).im in let n : ◌≡◌ {A = ℕ} 0 1 = cc in omega (arith, n))
  place_is (negsuc x) y =
      place_none (same (axes p)) (same_true (axes p)) (same_refl (axes p)) (pair (negsuc x) y) (residues p z) (λ j i. let s = (listed_shape p z positive j (pair (negsuc x) y) i).re in let n : ◌≡◌ {A = ℕ} 0 1 = cc in omega (arith, n))

  pub number_is : (a : Element) → Ok tt ≡ one_check (plane p) a → residue_number_answer (plane p) m a ≡ ok_or (number_of b a) (refused Outside 0)
  number_is a ok =
      passes (then (two_check (plane p) m a) (modulus_check (plane p) m)) tt (ok_or (residue_place (plane p) m a) (refused Outside 0)) (passes_both (two_check (plane p) m a) (modulus_check (plane p) m) (sym (passes_both (one_check (plane p) m) (one_check (plane p) a) admits ok)) (sym checked))
      ∙ ap (λ (o : Option ℕ). ok_or o (refused Outside 0)) (place_is a.x a.y ∙ ap₂ (λ (w g : ℕ). number_at w g a.x a.y) (sym is.width_is) (sym is.content_is))
