-- Checks one after another: which of them a refusal comes from.
use Rattle.std.proofs.Common.{◌≡◌, ℕ, Bool, true, false, cond, Ok, Err, Result, refl, arith}
use Rattle.refusal.specs.declared.Refusal.{Refusal}
use Rattle.refusal.specs.declared.Cause.TheVariants.{Coordinate}
use Rattle.refusal.specs.Numbers.{refuse, then}

abbrev Check : Type 0
Check = Result (Unit {0}) Refusal

-- the check of an element's limits
abbrev pub gate : Bool → Check
gate t = cond t (Ok tt) (refuse Coordinate)

pub not_both : {x : Unit {0}} {y : Refusal} {r : Check} → r ≡ Ok x → r ≡ Err y → ⊥
not_both p q = let z : ◌≡◌ {A = ℕ} 0 1 = cc in omega arith

-- α, β and μ, and then a check of the last alone
abbrev all : Bool → Bool → Bool → Check → Check
all α β μ last = then (then (gate α) (gate β)) (then (gate μ) last)

abbrev pair : Bool → Bool → Check → Check
pair α μ last = then (then (gate α) (gate μ)) last

pub refused_pair : (α β μ : Bool) (last : Check) (x : Refusal) → gate β ≡ Ok tt → pair α μ last ≡ Err x → all α β μ last ≡ Err x
refused_pair true true true last x o h = h
refused_pair true true false last x o h = h
refused_pair false true true last x o h = h
refused_pair false true false last x o h = h
refused_pair α false μ last x o h = absurd (not_both o refl)

pub passed : (α β μ : Bool) (last : Check) → gate β ≡ Ok tt → pair α μ last ≡ Ok tt → all α β μ last ≡ Ok tt
passed true true true last o h = h
passed true true false last o h = absurd (not_both h refl)
passed false true μ last o h = absurd (not_both h refl)
passed α false μ last o h = absurd (not_both o refl)

pub passed_other : (α β μ : Bool) (last : Check) → gate β ≡ Ok tt → pair α μ last ≡ Ok tt → pair β μ last ≡ Ok tt
passed_other true true true last o h = h
passed_other true true false last o h = absurd (not_both h refl)
passed_other false true μ last o h = absurd (not_both h refl)
passed_other α false μ last o h = absurd (not_both o refl)

pub passed_last : (α μ : Bool) (last : Check) → pair α μ last ≡ Ok tt → last ≡ Ok tt
passed_last true true last h = h
passed_last true false last h = absurd (not_both h refl)
passed_last false μ last h = absurd (not_both h refl)
