-- The entries of a matrix, one after another.
use Rattle.std.proofs.Common.{◌≡◌, ℕ, suc, ◌+◌, ◌-◌, ◌<◌, List, [], ◌∷◌, ◌++◌, length, take, set, Some, None, Ok, Err, Option, Result, sym, refl, ap, ◌∙◌, subst, append_assoc, arith, length-set}
use Rattle.std.proofs.lemmas.List.{take_more_set}
use Rattle.refusal.specs.declared.Cause.{Cause}
use Rattle.refusal.specs.declared.Cause.TheVariants.{Value}
use Rattle.ring.specs.declared.elements.Element.{Element}
use Rattle.ring.specs.declared.elements.Coordinates.{Coordinates}
use Rattle.text.specs.Parts.{front, back}
use Rattle.text.specs.Requests.{elements}
use Rattle.text.specs.Values.{next, element_answer}

-- the answer to come, if the first i of es are read
abbrev pub going : Coordinates → ℕ → ℕ → List Element → Option (List ℕ) → Result (List Element) Cause
going k n i es rest = next (elements k (n - i) rest) (λ fs. Ok (take i es ++ fs))

-- i entries of n are read
pub record Filled (k : Coordinates) (n : ℕ) (bs : List ℕ) (i : ℕ) (es : List Element) (rest : Option (List ℕ)) : Type 0 where
  pub count : length es ≡ n
  pub reads : going k n i es rest ≡ elements k n (Some bs)

-- the element that was read joins those before it
regroup : (front : List Element) (e : Element) (r : Result (List Element) Cause) → next r (λ fs. Ok ((front ++ (e ∷ [])) ++ fs)) ≡ next (next r (λ fs. Ok (e ∷ fs))) (λ fs. Ok (front ++ fs))
regroup front e (Ok fs) = ap Ok (append_assoc front (e ∷ []) fs)
regroup front e (Err c) = refl

module _ (k : Coordinates) (n : ℕ) (bs : List ℕ) (i : ℕ) (es : List Element) where
  -- one more is to be read
  at_one_left : (rest : Option (List ℕ)) → i < n → Filled k n bs i es rest → next (elements k (suc (n - (i + 1))) rest) (λ fs. Ok (take i es ++ fs)) ≡ elements k n (Some bs)
  at_one_left rest l f = subst (λ (m : ℕ). next (elements k m rest) (λ fs. Ok (take i es ++ fs)) ≡ elements k n (Some bs)) (let e : n - i ≡ suc (n - (i + 1)) = omega arith in e) f.reads

  pub missing : i < n → Filled k n bs i es None → Err Value ≡ elements k n (Some bs)
  missing l f = at_one_left None l f

  pub faulty : (part first : List ℕ) (e : Cause) → i < n → first ≡ front 44 part → Err e ≡ element_answer k first → Filled k n bs i es (Some part) → Err e ≡ elements k n (Some bs)
  faulty part first e l p q f = rw (sym p, sym q) at (at_one_left (Some part) l f)

  pub one_more : (part first : List ℕ) (e : Element) (rest : Option (List ℕ)) → i < n → first ≡ front 44 part → Ok e ≡ element_answer k first → rest ≡ back 44 part → Filled k n bs i es (Some part) → Filled k n bs (i + 1) (set es i e) rest
  one_more part first e rest l p q b f =
      record {
        count = length-set es i e ∙ f.count;
        reads =
            ap (λ (front : List Element). next (elements k (n - (i + 1)) rest) (λ fs. Ok (front ++ fs))) (take_more_set es i e (omega (arith, f.count)))
            ∙ regroup (take i es) e (elements k (n - (i + 1)) rest)
            ∙ subst (λ (r : Option (List ℕ)). next (next (elements k (n - (i + 1)) r) (λ fs. Ok (e ∷ fs))) (λ fs. Ok (take i es ++ fs)) ≡ elements k n (Some bs)) (sym b) (rw (sym p, sym q) at (at_one_left (Some part) l f));
      }
