-- What a lattice of rank 1 is located by.
use Rattle.std.specs.Prelude.{◌≡◌, cond, length, Some, Ok, Result, nat_le}
use Rattle.std.specs.List.{slice_get}
use Rattle.refusal.specs.declared.Refusal.{Refusal}
use Rattle.refusal.specs.declared.Cause.TheVariants.{Coordinate, Singular, Outside}
use Rattle.refusal.specs.Numbers.{refuse, then}
use Rattle.algebra.specs.Divisors.{Associate}
use Rattle.algebra.specs.Euclidean.{Canonical}
use Rattle.ring.specs.declared.elements.Element.{Element}
use Rattle.ring.specs.declared.elements.Coordinates.{Coordinates}
use Rattle.ring.specs.Elements.{Member, admits, ops, value}
use Rattle.ring.specs.Answers.{Meets, is_zero, norm_of}
use Rattle.ring.specs.Meaning.{Meaning}
use Rattle.location.specs.declared.Location.{Location}

abbrev pub entry_check : Coordinates → Element → Result (Unit {0}) Refusal
entry_check k e = cond (admits k 99 e) (Ok tt) (refuse Coordinate)

module _ (m : Meaning) (e : Element) where
  -- 0 spans no lattice of finite index
  abbrev pub singular_check : Result (Unit {0}) Refusal
  singular_check = cond (is_zero m e) (refuse Singular) (Ok tt)

  abbrev pub index_check : Result (Unit {0}) Refusal
  index_check = cond (nat_le (norm_of m e) 64) (Ok tt) (refuse Outside)

  abbrev pub location_check : Result (Unit {0}) Refusal
  location_check = then (entry_check m.coordinates e) (then singular_check index_check)

  -- the form is the canonical associate, and stands at its number in the list of its index
  pub record LocatedAt (l : Location) : Type 0 where
    pub index : l.index ≡ norm_of m e
    pub sublattices : l.sublattices ≡ length (m.euclidean.canonical l.index)
    pub member : Member m.coordinates l.form
    pub associate : Associate (ops m.coordinates) (value m.coordinates e) (value m.coordinates l.form)
    pub canonical : Canonical m.euclidean (value m.coordinates l.form)
    pub lattice : slice_get (m.euclidean.canonical l.index) l.lattice ≡ Some (value m.coordinates l.form)

  abbrev pub Located : Result Location Refusal → Type 0
  Located r = Meets location_check r LocatedAt
