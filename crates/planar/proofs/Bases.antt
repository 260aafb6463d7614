-- What a basis of the multiples of a modulus is good for.
use Rattle.std.proofs.Common.{◌≡◌, ℕ, zero, suc, ◌+◌, ◌*◌, ◌/◌, ◌<◌, ◌≤◌, ℤ, pos, ◌-ℤ◌, ◌*ℤ◌, nat_abs, sym, ◌∙◌, subst, ap₂, mul-le-mul, arith}
use Rattle.std.specs.Int.{int_div_euclid, int_rem_euclid}
use Rattle.algebra.specs.Divisors.{Congruent, Divides}
use Rattle.algebra.specs.Euclidean.{Listed}
use Rattle.algebra.specs.Quadratic.{Quad}
use Rattle.algebra.proofs.Euclid.{remainder_natural}
use Rattle.algebra.proofs.Floor.{Floor, floor_euclid}
use Rattle.ring.specs.declared.elements.Element.{Element}
use Rattle.planes.specs.declared.Plane.{Plane}
use Rattle.planes.specs.Planes.{content, norm, pair, residues, width}
use Rattle.planes.proofs.Division.{arithmetic}
use Rattle.planes.proofs.Residues.{content_positive, norm_width, residue_congruent, residue_nth, width_positive}
use Rattle.planar.specs.declared.basis.Basis.{Basis}
use Rattle.planar.specs.Basis.{IsBasis}

pub width_low : (n g w : ℕ) → 0 < g → n ≡ g * w → w ≤ n
width_low n (suc g) w h e = omega (arith, e)
width_low n zero w h e = absurd (omega (arith, h))

-- what the norm and the content of a modulus tell of its basis
module _ (p : Plane) (m : Element) (n y : ℕ) (size : n ≡ norm p (pair m.x m.y)) (some : 0 < n) (e : y ≡ content (pair m.x m.y)) where
  positive : 0 < norm p (pair m.x m.y)
  positive = subst (λ (k : ℕ). 0 < k) size some

  pub content_some : 0 < y
  content_some = subst (λ (k : ℕ). 0 < k) (sym e) (content_positive p (pair m.x m.y) positive)

  pub width_is : n / y ≡ width p (pair m.x m.y)
  width_is = ap₂ ◌/◌ size e

  pub width_some : 0 < n / y
  width_some = subst (λ (k : ℕ). 0 < k) (sym width_is) (width_positive p (pair m.x m.y) positive)

  pub product : n ≡ y * (n / y)
  product = size ∙ norm_width p (pair m.x m.y) positive ∙ ap₂ ◌*◌ (sym e) (sym width_is)

pub nonzero : (p : Plane) (m : Element) (b : Basis) → IsBasis p m b → 0 < norm p (pair m.x m.y)
nonzero p m b is = go b.content b.width b.content_some b.width_some (sym is.norm_is ∙ b.product)
  where
    go : (g w : ℕ) → 0 < g → 0 < w → norm p (pair m.x m.y) ≡ g * w → 0 < norm p (pair m.x m.y)
    go g w i j e = let l : 1 * 1 ≤ g * w = mul-le-mul {n₁ = 1} {m₁ = 1} i j in omega (arith, l, e)

-- the residue of a, as the code computes it
module _ (p : Plane) (m : Element) (b : Basis) (is : IsBasis p m b) (a r : Element) (x : r.x ≡ int_rem_euclid (a.x -ℤ int_div_euclid a.y (pos b.content) *ℤ b.step) (pos b.width)) (y : r.y ≡ int_rem_euclid a.y (pos b.content)) where
  abbrev z' : Quad ℤ
  z' = pair m.x m.y

  abbrev h : ℤ
  h = int_div_euclid a.y (pos b.content)

  abbrev k : ℤ
  k = int_div_euclid (a.x -ℤ h *ℤ b.step) (pos b.width)

  abbrev u : ℕ
  u = nat_abs (int_rem_euclid (a.x -ℤ h *ℤ b.step) (pos b.width))

  abbrev v : ℕ
  v = nat_abs (int_rem_euclid a.y (pos b.content))

  reduced_is : pair r.x r.y ≡ pair (pos u) (pos v)
  reduced_is = λ i. pair ((x ∙ remainder_natural (a.x -ℤ h *ℤ b.step) (pos b.width)) i) ((y ∙ remainder_natural a.y (pos b.content)) i)

  step_there : Divides (arithmetic p) z' (pair b.step (pos (content z')))
  step_there = subst (λ (g : ℕ). Divides (arithmetic p) z' (pair b.step (pos g))) is.content_is is.step

  second : Floor a.y (content z') h v
  second = subst (λ (g : ℕ). Floor a.y g h v) is.content_is (floor_euclid a.y b.content b.content_some)

  first : Floor (a.x -ℤ h *ℤ b.step) (width p z') k u
  first = subst (λ (w : ℕ). Floor (a.x -ℤ h *ℤ b.step) w k u) is.width_is (floor_euclid (a.x -ℤ h *ℤ b.step) b.width b.width_some)

  pub congruent : Congruent (arithmetic p) z' (pair a.x a.y) (pair r.x r.y)
  congruent = subst (Congruent (arithmetic p) z' (pair a.x a.y)) (sym reduced_is) (residue_congruent p z' (nonzero p m b is) b.step step_there (pair a.x a.y) h k u v second first)

  pub listed : Listed (residues p z') (pair r.x r.y)
  listed = subst (Listed (residues p z')) (sym reduced_is) (v * width p z' + u, residue_nth p z' (nonzero p m b is) b.step step_there (pair a.x a.y) h k u v second first)
