-- Where a text is cut.
use Rattle.std.proofs.Common.{◌≡◌, ℕ, zero, suc, ◌<◌, List, [], ◌∷◌, length, get_or, take, drop, Some, None, sym, refl, arith, false, eqb}
use Rattle.std.proofs.lemmas.Bool.{eq-eqb, ne_eqb}
use Rattle.text.specs.Parts.{front, back}

-- the parts at the first mark
pub cut_at : (m : ℕ) (bs : List ℕ) (i : ℕ) → i < length bs → ((k : ℕ) → k < i → get_or bs k 0 ≡ m → ⊥) → get_or bs i 0 ≡ m → (front m bs ≡ take i bs) × (back m bs ≡ Some (drop (suc i) bs))
cut_at m [] i l before e = absurd (omega arith)
cut_at m (b ∷ bs) zero l before e = let t = eq-eqb m b (sym e) in (rw t, rw t)
cut_at m (b ∷ bs) (suc i) l before e =
    let n : eqb m b ≡ false = ne_eqb m b (λ p. before 0 (omega arith) (sym p)) in
    let r = cut_at m bs i (omega arith) (λ k h. before (suc k) (omega arith)) e in
    (rw (n, r.0), rw (n, r.1))

-- without a mark
pub uncut : (m : ℕ) (bs : List ℕ) → ((k : ℕ) → k < length bs → get_or bs k 0 ≡ m → ⊥) → (front m bs ≡ bs) × (back m bs ≡ None)
uncut m [] before = (refl, refl)
uncut m (b ∷ bs) before =
    let n : eqb m b ≡ false = ne_eqb m b (λ p. before 0 (omega arith) (sym p)) in
    let r = uncut m bs (λ k h. before (suc k) (omega arith)) in
    (rw (n, r.0), rw (n, r.1))
