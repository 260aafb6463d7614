-- An element of small norm is within the limits of a ring's calls.
use Rattle.std.proofs.Common.{◌≡◌, ℕ, ◌*◌, ◌^◌, ◌≤◌, Bool, true, cond, nat_abs, Ok, ap, arith}
use Rattle.std.proofs.lemmas.Bool.{and_from, le-leb}
use Rattle.refusal.specs.declared.Cause.TheVariants.{Coordinate}
use Rattle.refusal.specs.Numbers.{refuse}
use Rattle.ring.specs.declared.elements.Coordinates.{Coordinates}
use Rattle.ring.specs.declared.elements.Coordinates.TheVariants.{One, Two}
use Rattle.ring.specs.declared.elements.Element.{Element}
use Rattle.ring.specs.Elements.{Member, Within, admits, admitted, element, reach, value}
use Rattle.ring.specs.Meaning.{Laws, Meaning}
use Rattle.ring.specs.Answers.{norm_of}

admits_within : (k : Coordinates) (n : ℕ) (e : Element) → n ≤ reach → Member k e → Within n (element k (value k e)) → admits k reach e ≡ true
admits_within One n e h m w =
    and_from _ _ (le-leb (nat_abs e.x) reach (omega (arith, w.x_bound))) (le-leb (nat_abs e.y) 0 (omega (arith, ap (λ (z : Element). nat_abs z.y) m)))
admits_within (Two a b) n e h m w =
    and_from _ _ (le-leb (nat_abs e.x) reach (omega (arith, w.x_bound))) (le-leb (nat_abs e.y) reach (omega (arith, w.y_bound)))

pub small_admitted : (m : Meaning) → Laws m → (e : Element) → Member m.coordinates e → norm_of m e ≤ 2 ^ 29 → admitted m.coordinates e ≡ Ok tt
small_admitted m l e s h =
    ap (λ (t : Bool). cond t (Ok tt) (refuse Coordinate)) (admits_within m.coordinates (2 * norm_of m e) e (omega arith) s (l.norm_bounds (value m.coordinates e)))
