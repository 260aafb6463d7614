-- What each call returns where its checks have passed.
use Rattle.std.proofs.Common.{◌≡◌, ℕ, ◌<◌, ◌≤◌, Bool, false, cond, ℤ, pos, negsuc, nat_abs, Some, Ok, Err, Option, Result, sym, refl, ap, ◌∙◌, subst, ap₂, arith}
use Rattle.std.specs.Int.{int_div_euclid, int_rem_euclid}
use Rattle.std.specs.Option.{option_map, ok_or}
use Rattle.std.specs.List.{slice_get}
use Rattle.refusal.specs.declared.Refusal.{Refusal}
use Rattle.refusal.specs.declared.Cause.TheVariants.{Outside, Modulus as NoModulus}
use Rattle.refusal.specs.Numbers.{refuse, refused, then}
use Rattle.ring.specs.declared.admitted.Admitted.{Admitted}
use Rattle.ring.specs.declared.elements.Coordinates.TheVariants.{One}
use Rattle.ring.specs.declared.elements.Division.{Division}
use Rattle.ring.specs.declared.elements.Element.{Element}
use Rattle.std.specs.Ordering.{int_eq}
use Rattle.ring.specs.Elements.{admitted, at, element}
use Rattle.ring.specs.Answers.{CanonicalAnswer, DivisionAnswer, ResidueAnswer, divisor_check, modulus_check, one_check, residue_element_answer, residue_number_answer, residue_place, two_check}
use Rattle.ring.proofs.Checks.{meets, passes}
use Rattle.ring.proofs.Places.{place_nth, place_none, same_refl, same_true}
use Rattle.integers.specs.Integers.{integers, residues}
use Rattle.integers.specs.Signs.{size_associate}
use Rattle.algebra.proofs.Euclid.{divided, remainder_small}
use Rattle.integers.specs.Residues.{residue_at, residue_listed, residue_past, remainder_congruent, remainder_listed}

abbrev pub whole : ℤ → Element
whole x = record { x = x; y = pos 0 }

module _ (a : Element) (p : Ok tt ≡ admitted One a) where
  pub canonical_is : (w : Element) → w ≡ whole (pos (nat_abs a.x)) → CanonicalAnswer integers a (Ok w)
  canonical_is w e = subst (λ (v : Element). CanonicalAnswer integers a (Ok v)) (sym e) (meets (one_check integers a) _ _ (sym p) (refl, size_associate a.x, (0, refl)))

-- the check of a modulus sees its whole number alone
pub modulus_is : (m : Element) (k : Admitted) → k.x ≡ m.x → Ok tt ≡ modulus_check integers (at k.x k.y) → Ok tt ≡ modulus_check integers m
modulus_is m k e h = subst (λ (z : ℤ). Ok tt ≡ modulus_check integers (whole z)) e h

two_pass : (a b : Element) → Ok tt ≡ admitted One a → Ok tt ≡ admitted One b → two_check integers a b ≡ Ok tt
two_pass a b p q = passes (admitted One a) tt (admitted One b) (sym p) ∙ sym q

not_nought : (x : ℤ) → 0 < nat_abs x → int_eq x (pos 0) ≡ false
not_nought (pos x) h = grind arith
not_nought (negsuc x) h = refl

pub quotient_is : (a b : Element) → Ok tt ≡ admitted One a → Ok tt ≡ admitted One b → 0 < nat_abs b.x → (v w : Element) → v ≡ whole (int_div_euclid a.x b.x) → w ≡ whole (int_rem_euclid a.x b.x) → DivisionAnswer integers a b (Ok record { quotient = v; remainder = w })
quotient_is a b p q h v w e f =
    subst (λ (d : Division). DivisionAnswer integers a b (Ok d)) (ap₂ (λ (s t : Element). record { quotient = s; remainder = t }) (sym e) (sym f)) (meets (then (two_check integers a b) (divisor_check integers b)) _ _ (passes (two_check integers a b) tt (divisor_check integers b) (two_pass a b p q) ∙ ap (λ (t : Bool). cond t (refuse NoModulus) (Ok tt)) (not_nought b.x h)) (refl, refl, record { sum = divided a.x b.x h; smaller = remainder_small a.x b.x h }))

pub residue_is : (a m : Element) → Ok tt ≡ admitted One a → Ok tt ≡ admitted One m → Ok tt ≡ modulus_check integers m → 0 < nat_abs m.x → (w : Element) → w ≡ whole (int_rem_euclid a.x m.x) → ResidueAnswer integers a m (Ok w)
residue_is a m p q o h w e =
    subst (λ (v : Element). ResidueAnswer integers a m (Ok v)) (sym e) (meets (then (two_check integers a m) (modulus_check integers m)) _ _ (passes (two_check integers a m) tt (modulus_check integers m) (two_pass a m p q) ∙ sym o) (refl, remainder_listed a.x m.x h, remainder_congruent a.x m.x h))

module _ (m : Element) (p : Ok tt ≡ admitted One m) (o : Ok tt ≡ modulus_check integers m) (i : ℕ) where
  abbrev answer_at : Option ℤ → Result Element Refusal
  answer_at r = ok_or (option_map (element One) r) (refused Outside 0)

  listed_answer : residue_element_answer integers m i ≡ answer_at (slice_get (residues m.x) i)
  listed_answer = passes (then (one_check integers m) (modulus_check integers m)) tt _ (passes (one_check integers m) tt (modulus_check integers m) (sym p) ∙ sym o)

  pub residue_element_is : i < nat_abs m.x → residue_element_answer integers m i ≡ Ok (whole (pos i))
  residue_element_is h = listed_answer ∙ ap answer_at (residue_at m.x i h)

  pub residue_element_past : nat_abs m.x ≤ i → residue_element_answer integers m i ≡ Err (refused Outside 0)
  residue_element_past h = listed_answer ∙ ap answer_at (residue_past m.x i h)

module _ (m a : Element) (p : Ok tt ≡ admitted One m) (q : Ok tt ≡ admitted One a) (o : Ok tt ≡ modulus_check integers m) where
  abbrev number_answer : Option ℕ → Result ℕ Refusal
  number_answer r = ok_or r (refused Outside 0)

  placed_answer : residue_number_answer integers m a ≡ number_answer (residue_place integers m a)
  placed_answer = passes (then (two_check integers m a) (modulus_check integers m)) tt _ (passes (two_check integers m a) tt (modulus_check integers m) (two_pass m a p q) ∙ sym o)

  pub residue_number_is : (i : ℕ) → a.x ≡ pos i → i < nat_abs m.x → residue_number_answer integers m a ≡ Ok i
  residue_number_is i e h =
      placed_answer ∙ ap number_answer (place_nth (int_eq) (same_true One) (same_refl One) a.x (residues m.x) i (residue_at m.x i h ∙ ap Some (sym e)) (λ j l. let f = residue_listed m.x a.x j l in omega (arith, ap nat_abs f.1, ap nat_abs e)))

  pub residue_number_none : ((i : ℕ) → a.x ≡ pos i → i < nat_abs m.x → ⊥) → residue_number_answer integers m a ≡ Err (refused Outside 0)
  residue_number_none h =
      placed_answer ∙ ap number_answer (place_none (int_eq) (same_true One) (same_refl One) a.x (residues m.x) (λ i l. let f = residue_listed m.x a.x i l in h i f.1 f.0))
