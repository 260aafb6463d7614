-- What the norm of an element tells of the checks.
use Rattle.std.proofs.Common.{◌≡◌, ℕ, ◌^◌, ◌≤◌, Bool, true, false, cond, Ok, Err, refl, ap, ◌∙◌, inl, inr, arith}
use Rattle.std.proofs.lemmas.Bool.{cases_Bool, le-leb}
use Rattle.refusal.specs.declared.Refusal.{Refusal}
use Rattle.refusal.specs.declared.Cause.TheVariants.{Coordinate, Modulus as NoModulus}
use Rattle.refusal.specs.Numbers.{refuse, refused, then}
use Rattle.ring.specs.declared.elements.Element.{Element}
use Rattle.ring.specs.Elements.{value}
use Rattle.ring.specs.Meaning.{Laws, Meaning}
use Rattle.ring.specs.Answers.{divisor_check, is_zero, norm_of}
use Rattle.ring.proofs.Places.{same_zero, zero_same}
use Rattle.ideal.specs.Answers.{size_check}
use Rattle.ideal.proofs.Gates.{gate}

-- what the answer to a question for the norm tells
pub measured : (t : Bool) (n size : ℕ) → Ok size ≡ then (gate t) (Ok n) → (gate t ≡ Ok tt) × (size ≡ n)
measured true n size h = (refl, cc)
measured false n size h = absurd (let z : ◌≡◌ {A = ℕ} 0 1 = cc in omega arith)

pub not_measured : (t : Bool) (n : ℕ) (x : Refusal) → Err x ≡ then (gate t) (Ok n) → gate t ≡ Err x
not_measured true n x h = absurd (let z : ◌≡◌ {A = ℕ} 0 1 = cc in omega arith)
not_measured false n x h = cc

module _ (m : Meaning) (l : Laws m) (y : Element) where
  -- the norm is 0 for 0 alone
  pub not_nought : (norm_of m y ≡ 0 → ⊥) → divisor_check m y ≡ Ok tt
  not_nought h = elim (cases_Bool (is_zero m y)) [ inl e ↦ absurd (h (ap m.euclidean.norm (zero_same m y e) ∙ l.euclidean.norm-zero)) | inr e ↦ ap (λ (t : Bool). cond t (refuse NoModulus) (Ok tt)) e ]

  pub nought : norm_of m y ≡ 0 → divisor_check m y ≡ Err (refused NoModulus 0)
  nought h = ap (λ (t : Bool). cond t (refuse NoModulus) (Ok tt)) (same_zero m y (l.euclidean.zero_from_norm (value m.coordinates y) h))

  pub not_large : norm_of m y ≤ 2 ^ 29 → size_check m y ≡ Ok tt
  not_large h = ap (λ (t : Bool). cond t (Ok tt) (refuse Coordinate)) (le-leb (norm_of m y) (2 ^ 29) h)
