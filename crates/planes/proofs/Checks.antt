-- A modulus is an element of the sector.
use Rattle.std.proofs.Common.{◌≡◌, ◌<◌, Bool, true, false, cond, not, ◌&&◌, pos, is_some, Ok, sym, refl, ap, ◌∙◌, ap₂, ⊎_elim, true≢false, arith}
use Rattle.refusal.specs.declared.Cause.TheVariants.{Modulus}
use Rattle.refusal.specs.Numbers.{refuse}
use Rattle.ring.specs.declared.elements.Element.{Element}
use Rattle.ring.specs.Answers.{canonical_place, divisor_check, is_zero, modulus_check}
use Rattle.ring.proofs.Places.{canonical_listed, listed_canonical, same_zero, zero_same}
use Rattle.std.proofs.lemmas.Bool.{cases_Bool}
use Rattle.planes.specs.declared.Plane.{Plane}
use Rattle.planes.specs.declared.Plane.TheVariants.{Square, Hexagonal}
use Rattle.planes.specs.Planes.{norm, pair, plane, sector}
use Rattle.planes.proofs.Canonical.{listed_sector, norm_nought, sector_canonical}
use Rattle.planes.proofs.Norms.{zero_from_norm}

nought_outside : (p : Plane) → sector p (pair (pos 0) (pos 0)) ≡ false
nought_outside Square = refl
nought_outside Hexagonal = refl

module _ (p : Plane) (e : Element) where
  pub inside_not_zero : sector p (pair e.x e.y) ≡ true → is_zero (plane p) e ≡ false
  inside_not_zero s =
      ⊎_elim (λ z. absurd (true≢false (sym s ∙ ap (sector p) (zero_same (plane p) e z) ∙ nought_outside p))) (λ f. f) (cases_Bool (is_zero (plane p) e))

  outside : sector p (pair e.x e.y) ≡ false → (not (is_zero (plane p) e) && is_some (canonical_place (plane p) e)) ≡ false
  outside s = go (is_zero (plane p) e) refl (is_some (canonical_place (plane p) e)) refl
    where
      go : (z : Bool) → is_zero (plane p) e ≡ z → (c : Bool) → is_some (canonical_place (plane p) e) ≡ c → (not z && c) ≡ false
      go true f c h = refl
      go false f false h = refl
      go false f true h = absurd (⊎_elim (λ n. true≢false (sym (same_zero (plane p) e n) ∙ f)) (λ i. true≢false (sym i ∙ s)) (listed_sector p (norm p (pair e.x e.y)) (pair e.x e.y) (canonical_listed (plane p) e h)).1)

  pub modulus_inside : sector p (pair e.x e.y) ≡ true → modulus_check (plane p) e ≡ Ok tt
  modulus_inside s =
      ap₂ (λ (z c : Bool). cond (not z && c) (Ok tt) (refuse Modulus)) (inside_not_zero s) (listed_canonical (plane p) e (sector_canonical p (pair e.x e.y) s))

  pub modulus_outside : sector p (pair e.x e.y) ≡ false → modulus_check (plane p) e ≡ refuse Modulus
  modulus_outside s = ap (λ (b : Bool). cond b (Ok tt) (refuse Modulus)) (outside s)

  -- a divisor is 0 exactly if its norm is
  pub divisor_none : norm p (pair e.x e.y) ≡ 0 → divisor_check (plane p) e ≡ refuse Modulus
  divisor_none n = ap (λ (z : Bool). cond z (refuse Modulus) (Ok tt)) (same_zero (plane p) e (zero_from_norm p (pair e.x e.y) n))

  pub divisor_some : 0 < norm p (pair e.x e.y) → divisor_check (plane p) e ≡ Ok tt
  divisor_some n = ap (λ (z : Bool). cond z (refuse Modulus) (Ok tt)) (⊎_elim (λ z. absurd (let h : norm p (pair e.x e.y) ≡ 0 = ap (norm p) (zero_same (plane p) e z) ∙ norm_nought p in omega (arith, h, n))) (λ f. f) (cases_Bool (is_zero (plane p) e)))
