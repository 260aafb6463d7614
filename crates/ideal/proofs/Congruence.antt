-- What `congruent` answers, by what the ring's calls answered.
use Rattle.std.proofs.Common.{◌≡◌, Bool, ◌&&◌, ℤ, Ok, Err, Decides, sym, ap, ◌∙◌, ap₂}
use Rattle.std.specs.Ordering.{int_eq}
use Rattle.std.proofs.lemmas.Bool.Decides.{Decides-and, Decides-int_eq}
use Rattle.refusal.specs.declared.Refusal.{Refusal}
use Rattle.refusal.specs.Numbers.{then}
use Rattle.ring.specs.declared.elements.Coordinates.{Coordinates}
use Rattle.ring.specs.declared.elements.Element.{Element}
use Rattle.ring.specs.Elements.{admits, admitted, element, reach, value}
use Rattle.ring.specs.Meaning.{Laws, Meaning}
use Rattle.ring.specs.Answers.{ResidueAnswer, modulus_check, two_check}
use Rattle.ring.proofs.Checks.{meets, met, met_passes, met_refuses, refuses}
use Rattle.ring.proofs.Places.{checked_modulus}
use Rattle.ring.proofs.Rings.{ops_ring}
use Rattle.ideal.specs.Answers.{CongruenceAnswer, congruence_check}
use Rattle.ideal.proofs.Gates.{not_both, passed, passed_last, passed_other, refused_pair}
use Rattle.ideal.proofs.Residues.{residues_same, same_residue}

-- `==` on elements
told : (r : Bool) (s t : Element) → r ≡ (int_eq s.x t.x && int_eq s.y t.y) → Decides r (s ≡ t)
told r s t h =
    let d = Decides-and _ _ (Decides-int_eq s.x t.x) (Decides-int_eq s.y t.y) in
    (λ e. let p = d.0 (sym h ∙ e) in ap₂ (λ (u v : ℤ). record { x = u; y = v }) p.0 p.1, λ e. h ∙ d.1 (ap (λ (z : Element). z.x) e, ap (λ (z : Element). z.y) e))

-- k is what the ring says its coordinates are
module _ (m : Meaning) (k : Coordinates) (is : k ≡ m.coordinates) (a b c : Element) where
  at_meaning : admitted k b ≡ admitted m.coordinates b
  at_meaning = ap (λ (j : Coordinates). admitted j b) is

  module _ (o : Ok tt ≡ admitted k b) where
    pub not_reduced : (x : Refusal) → ResidueAnswer m a c (Err x) → CongruenceAnswer m a b c (Err x)
    not_reduced x h =
        refuses (congruence_check m a b c) _ x (refused_pair (admits m.coordinates reach a) (admits m.coordinates reach b) (admits m.coordinates reach c) (modulus_check m c) x (sym (o ∙ at_meaning)) (met_refuses _ _ x h))

    module _ (s : Element) (p : ResidueAnswer m a c (Ok s)) where
      pub reduced_too : (x : Refusal) → ResidueAnswer m b c (Err x) → ⊥
      reduced_too x h =
          not_both (passed_other (admits m.coordinates reach a) (admits m.coordinates reach b) (admits m.coordinates reach c) (modulus_check m c) (sym (o ∙ at_meaning)) (met_passes _ _ s p)) (met_refuses _ _ x h)

      pub compared : Laws m → (t : Element) → ResidueAnswer m b c (Ok t) → (r : Bool) → r ≡ (int_eq s.x t.x && int_eq s.y t.y) → CongruenceAnswer m a b c (Ok r)
      compared l t q r h =
          let j = m.coordinates in
          let pass = met_passes (then (two_check m a c) (modulus_check m c)) _ s p in
          let left = met (then (two_check m a c) (modulus_check m c)) _ s pass p in
          let right = met (then (two_check m b c) (modulus_check m c)) _ t (met_passes (then (two_check m b c) (modulus_check m c)) _ t q) q in
          let n = checked_modulus m c tt (passed_last (admits j reach a) (admits j reach c) (modulus_check m c) pass) in
          let d = told r s t h in
          meets (congruence_check m a b c) _ r (passed (admits j reach a) (admits j reach b) (admits j reach c) (modulus_check m c) (sym (o ∙ at_meaning)) pass) (
            λ e. same_residue (ops_ring j) (value j c) (value j a) (value j b) (value j s) (value j t) left.2 right.2 (ap (value j) (d.0 e)),
            λ f. d.1 (sym left.0 ∙ ap (element j) (residues_same (ops_ring j) (value j c) (value j a) (value j b) (value j s) (value j t) left.2 right.2 m.euclidean l.euclidean n left.1 right.1 f) ∙ right.0),
          )
