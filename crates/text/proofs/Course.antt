-- The course of a reading.
use Rattle.std.proofs.Common.{◌≡◌, ℕ, suc, ◌+◌, ◌-◌, ◌<◌, ◌≤◌, leb, List, length, Ok, Err, Result, sym, ◌∙◌, subst, add-one, arith}
use Rattle.std.proofs.lemmas.Bool.{cond-true, le-leb}
use Rattle.refusal.specs.declared.Refusal.{Refusal}
use Rattle.text.specs.declared.request.Request.{Request}
use Rattle.text.specs.declared.state.State.{State}
use Rattle.text.specs.declared.state.State.TheVariants.{Ring}
use Rattle.text.specs.Lines.{finished, line_answer, placed, read_answer, reading}
use Rattle.text.specs.Values.{next}

-- i lines are read, and what is left gives the answer
pub record Course (i n : ℕ) (s : State) (t text : List ℕ) : Type 0 where
  pub answer : reading (3 - i) n s t ≡ reading 3 1 Ring text

module _ (i n : ℕ) (s : State) (t text : List ℕ) (k : Course i n s t text) where
  one_left : i < 3 → next (placed n (line_answer s t)) (λ step. reading (3 - (i + 1)) (suc n) step.0 step.1) ≡ reading 3 1 Ring text
  one_left l = subst (λ (m : ℕ). reading m n s t ≡ reading 3 1 Ring text) (let e : 3 - i ≡ suc (3 - (i + 1)) = omega arith in e) k.answer

  pub fault : (e : Refusal) → i < 3 → Err e ≡ placed n (line_answer s t) → Err e ≡ reading 3 1 Ring text
  fault e l h = rw (sym h) at (one_left l)

  pub more : (m : ℕ) (s' : State) (t' : List ℕ) → i < 3 → Ok (s', t') ≡ placed n (line_answer s t) → m ≡ n + 1 → Course (i + 1) m s' t' text
  more m s' t' l h e = record { answer = subst (λ (j : ℕ). reading (3 - (i + 1)) j s' t' ≡ reading 3 1 Ring text) (sym (e ∙ add-one n)) (rw (sym h) at (one_left l)) }

  pub done : 3 ≤ i → finished n s t ≡ reading 3 1 Ring text
  done l = subst (λ (m : ℕ). reading m n s t ≡ reading 3 1 Ring text) (let e : 3 - i ≡ 0 = omega arith in e) k.answer

-- a text that is not too long
pub within : (text : List ℕ) (r : Result Request Refusal) → length text ≤ 16384 → r ≡ reading 3 1 Ring text → r ≡ read_answer text
within text r l e = e ∙ sym (cond-true (leb (length text) 16384) _ _ (le-leb _ _ l))
