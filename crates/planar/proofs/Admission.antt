-- Elements that were admitted are those that were given.
use Rattle.std.proofs.Common.{◌≡◌, ℕ, ◌<◌, ℤ, ap, ◌∙◌, subst}
use Rattle.algebra.specs.Quadratic.{Quad}
use Rattle.ring.specs.declared.admitted.Admitted.{Admitted}
use Rattle.ring.specs.declared.elements.Division.{Division}
use Rattle.ring.specs.declared.elements.Element.{Element}
use Rattle.ring.specs.Elements.{at}
use Rattle.planes.specs.declared.Plane.{Plane}
use Rattle.planes.specs.Planes.{norm, pair, plane}
use Rattle.planar.specs.Division.{Divided}
use Rattle.planar.specs.declared.divisor.Divisor.{Divisor}

pub given : (a : Admitted) (e : Element) → pair a.x a.y ≡ pair e.x e.y → at a.x a.y ≡ e
given a e h = ap (λ (z : Quad ℤ). at z.re z.im) h

-- a divisor that was made of an admitted element
module _ (p : Plane) (b : Admitted) (e : Element) (same : pair b.x b.y ≡ pair e.x e.y) (d : Divisor) (plane_is : d.plane ≡ p) (element_is : d.element ≡ b) where
  pub divisor_norm : 0 < norm p (pair e.x e.y)
  divisor_norm =
      subst (λ (n : ℕ). 0 < n) (d.norm_is ∙ ap (λ (q : Plane). norm q (pair d.element.x d.element.y)) plane_is ∙ ap (λ (i : Admitted). norm p (pair i.x i.y)) element_is ∙ ap (norm p) same) d.some

  pub divided : (x : Element) (r : Division) → Divided (plane d.plane) x (at d.element.x d.element.y) r → Divided (plane p) x e r
  divided x r h =
      subst (λ (i : Element). Divided (plane p) x i r) (ap (λ (i : Admitted). at i.x i.y) element_is ∙ given b e same) (subst (λ (q : Plane). Divided (plane q) x (at d.element.x d.element.y) r) plane_is h)
