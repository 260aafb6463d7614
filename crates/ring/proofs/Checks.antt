-- Answers of calls whose checks are known to pass.
use Rattle.std.proofs.Common.{◌≡◌, ℕ, Ok, Err, Result, sym, refl, ap, ◌∙◌, subst, arith}
use Rattle.refusal.specs.declared.Refusal.{Refusal}
use Rattle.refusal.specs.Numbers.{then}
use Rattle.ring.specs.Answers.{Meets}

pub passes : {X Y : Type 0} (k : Result X Refusal) (x : X) (next : Result Y Refusal) → k ≡ Ok x → then k next ≡ next
passes k x next e = ap (λ (j : Result _ Refusal). then j next) e

pub meets : {X : Type 0} (k : Result (Unit {0}) Refusal) (P : X → Type 0) (x : X) → k ≡ Ok tt → P x → Meets k (Ok x) P
meets k P x e p = subst (λ (j : Result (Unit {0}) Refusal). Meets j (Ok x) P) (sym e) p

pub refuses : {X : Type 0} (k : Result (Unit {0}) Refusal) (P : X → Type 0) (e : Refusal) → k ≡ Err e → Meets k (Err e) P
refuses k P e h = subst (λ (j : Result (Unit {0}) Refusal). Meets j (Err e) P) (sym h) refl

pub met : {X : Type 0} (k : Result (Unit {0}) Refusal) (P : X → Type 0) (x : X) → k ≡ Ok tt → Meets k (Ok x) P → P x
met k P x e p = subst (λ (j : Result (Unit {0}) Refusal). Meets j (Ok x) P) e p

-- an answer tells that its checks passed
pub met_passes : {X : Type 0} (k : Result (Unit {0}) Refusal) (P : X → Type 0) (x : X) → Meets k (Ok x) P → k ≡ Ok tt
met_passes (Ok u) P x p = refl
met_passes (Err e) P x p = absurd (let z : ◌≡◌ {A = ℕ} 0 1 = cc in omega arith)

-- a refusal is that of the checks
pub met_refuses : {X : Type 0} (k : Result (Unit {0}) Refusal) (P : X → Type 0) (e : Refusal) → Meets k (Err e) P → k ≡ Err e
met_refuses (Ok u) P e p = absurd p
met_refuses (Err f) P e p = cc

-- where the checks pass there is an answer
pub met_answers : {X : Type 0} (k : Result (Unit {0}) Refusal) (P : X → Type 0) (r : Result X Refusal) → k ≡ Ok tt → Meets k r P → (x : X) × (r ≡ Ok x) × P x
met_answers k P (Ok x) e p = (x, refl, met k P x e p)
met_answers k P (Err f) e p = absurd (subst (λ (j : Result (Unit {0}) Refusal). Meets j (Err f) P) e p)

-- both checks pass
pub passes_both : (j k : Result (Unit {0}) Refusal) → Ok tt ≡ j → Ok tt ≡ k → then j k ≡ Ok tt
passes_both j k p q = passes j tt k (sym p) ∙ sym q
