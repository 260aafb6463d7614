-- The steps of turning an element into the sector.
use Rattle.std.proofs.Common.{◌≡◌, ℕ, suc, ◌+◌, ◌*◌, ◌^◌, ◌<◌, ◌≤◌, true, false, ℤ, sym, ap, ◌∙◌, subst, pow-suc, add-one, arith, pow_mono}
use Rattle.algebra.specs.Quadratic.{Quad}
use Rattle.planes.specs.declared.Plane.{Plane}
use Rattle.planes.specs.Planes.{Turned, sector, turn, turns}
use Rattle.planes.proofs.Sectors.{turned_last, turned_there}

pub turns_more : (p : Plane) (k : ℕ) (z w v : Quad ℤ) → w ≡ turns p k z → v ≡ turn p w → v ≡ turns p (k + 1) z
turns_more p k z w v h e = e ∙ ap (turn p) h ∙ ap (λ (n : ℕ). turns p n z) (sym (add-one k))

-- a bound doubles with each turn
pub doubled : (k : ℕ) → 2 ^ (30 + (k + 1)) ≡ 2 * 2 ^ (30 + k)
doubled k = ap (λ (n : ℕ). 2 ^ n) (let e : 30 + (k + 1) ≡ suc (30 + k) = omega arith in e) ∙ pow-suc 2 (30 + k) ∙ omega arith

pub low : (k : ℕ) → k < 5 → 2 ^ (30 + k) ≤ 2 ^ 40
low k h = let b : 30 + k ≤ 40 = omega arith in pow_mono b

pub turned_now : (p : Plane) (k : ℕ) (z w : Quad ℤ) → w ≡ turns p k z → sector p w ≡ true → Turned p z w
turned_now p k z w e s = subst (Turned p z) (sym e) (turned_there p k z (ap (sector p) (sym e) ∙ s))

pub turned_after : (p : Plane) (k : ℕ) (z w : Quad ℤ) → k ≡ 5 → w ≡ turns p k z → ((i : ℕ) → i < k → sector p (turns p i z) ≡ false) → Turned p z w
turned_after p k z w five e out =
    subst (Turned p z) (sym (e ∙ ap (λ (n : ℕ). turns p n z) five)) (turned_last p z (λ i h. out i (omega (arith, h, five))))
