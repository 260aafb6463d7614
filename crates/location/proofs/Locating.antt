-- What the calls of a ring tell of a lattice of rank 1.
use Rattle.std.proofs.Common.{◌≡◌, ℕ, ◌*◌, ◌<◌, ◌≤◌, Bool, true, false, cond, ◌&&◌, leb, pos, nat_abs, Some, Ok, Err, Option, Result, sym, refl, ap, ◌∙◌, subst, one-mul, arith, lit≤}
use Rattle.std.specs.Option.{ok_or}
use Rattle.std.specs.List.{slice_get}
use Rattle.std.proofs.lemmas.Bool.{and_from, and_parts, cond-true, cond-false, le-leb, leb-true, lt-leb}
use Rattle.refusal.specs.declared.Refusal.{Refusal}
use Rattle.refusal.specs.declared.Cause.{Cause}
use Rattle.refusal.specs.declared.Cause.TheVariants.{Coordinate, Singular, Outside}
use Rattle.refusal.specs.Numbers.{refuse, refused, then}
use Rattle.algebra.specs.Divisors.{Associate}
use Rattle.algebra.specs.Euclidean.{Canonical}
use Rattle.ring.specs.declared.elements.Element.{Element}
use Rattle.ring.specs.declared.elements.Coordinates.{Coordinates}
use Rattle.ring.specs.declared.elements.Coordinates.TheVariants.{One, Two}
use Rattle.ring.specs.Elements.{Member, Within, admits, admitted, element, norm_check, ops, reach, same, value}
use Rattle.ring.specs.Answers.{CanonicalAnswer, Meets, canonical_number_answer, canonical_place, count_answer, is_zero, norm_answer, norm_of, one_check}
use Rattle.ring.specs.Meaning.{Laws, Meaning}
use Rattle.ring.proofs.Places.{nth_place, place-Listed, same_refl, same_true, same_zero, zero_same}
use Rattle.location.specs.Located.{LocatedAt, Located, index_check, location_check, singular_check}

no_fault : {X E : Type 0} (e : E) (x : X) → Err e ≡ Ok x → ⊥
no_fault e x h = let z : ◌≡◌ {A = ℕ} 0 1 = cc in omega arith

same_ok : {X E : Type 0} {x y : X} → ◌≡◌ {A = Result X E} (Ok x) (Ok y) → x ≡ y
same_ok h = cc

then_is : {X : Type 0} (r : Result (Unit {0}) Refusal) (x y : X) → Ok x ≡ then r (Ok y) → x ≡ y
then_is (Ok u) x y h = cc
then_is (Err e) x y h = absurd (no_fault e x (sym h))

wider : (a b c : ℕ) → b ≤ c → leb a b ≡ true → leb a c ≡ true
wider a b c l h = le-leb a c (let w = leb-true a b h in omega arith)

-- an entry may be passed to the ring
reach_from : (k : Coordinates) (e : Element) → admits k 99 e ≡ true → admits k reach e ≡ true
reach_from One e h = let p = and_parts _ _ h in and_from _ _ (wider (nat_abs e.x) 99 reach (lit≤ tt) p.0) p.1
reach_from (Two a b) e h =
    let p = and_parts _ _ h in
    and_from _ _ (wider (nat_abs e.x) 99 reach (lit≤ tt) p.0) (wider (nat_abs e.y) 99 reach (lit≤ tt) p.1)

-- an element with small coordinates too
admits_small : (k : Coordinates) (f : Element) (n : ℕ) → n ≤ reach → Member k f → Within n (element k (value k f)) → admits k reach f ≡ true
admits_small One f n l m w =
    let z : f.y ≡ pos 0 = ap (λ (g : Element). g.y) (sym m) in
    and_from _ _ (wider (nat_abs f.x) n reach l (le-leb _ _ w.x_bound)) (rw z)
admits_small (Two s t) f n l m w = and_from _ _ (wider (nat_abs f.x) n reach l (le-leb _ _ w.x_bound)) (wider (nat_abs f.y) n reach l (le-leb _ _ w.y_bound))

-- k and n are what the ring answered
module _ (m : Meaning) (laws : Laws m) (e : Element) (k : Coordinates) (is : k ≡ m.coordinates) (entry : true ≡ admits k 99 e) where
  entry_admits : admits m.coordinates 99 e ≡ true
  entry_admits = subst (λ (j : Coordinates). admits j 99 e ≡ true) is (sym entry)

  entry_reach : admitted m.coordinates e ≡ Ok tt
  entry_reach = cond-true _ _ _ (reach_from m.coordinates e entry_admits)

  after_entry : location_check m e ≡ then (singular_check m e) (index_check m e)
  after_entry = ap (λ (b : Bool). then (cond b (Ok tt) (refuse Coordinate)) (then (singular_check m e) (index_check m e))) entry_admits

  refuses : (f : Refusal) (c : Cause) → f ≡ refused c 0 → location_check m e ≡ refuse c → Located m e (Err f)
  refuses f c q h = subst (λ (r : Result (Unit {0}) Refusal). Meets r (Err f) (LocatedAt m e)) (sym h) (ap Err q)

  module _ (n : ℕ) (norm : Ok n ≡ norm_answer m e) where
    norm_is : n ≡ norm_of m e
    norm_is = then_is (one_check m e) n (norm_of m e) norm

    -- only 0 has norm 0
    pub singular : (f : Refusal) → n ≡ 0 → f ≡ refused Singular 0 → Located m e (Err f)
    singular f z q =
        let w = same_zero m e (laws.euclidean.zero_from_norm (value m.coordinates e) (sym norm_is ∙ z)) in
        refuses f Singular q (after_entry ∙ ap (λ (b : Bool). then (cond b (refuse Singular) (Ok tt)) (index_check m e)) w)

    module _ (z : n ≡ 0 → ⊥) where
      not_zero : is_zero m e ≡ false
      not_zero = go (is_zero m e) refl
        where
          go : (b : Bool) → is_zero m e ≡ b → b ≡ false
          go true h = absurd (z (norm_is ∙ ap m.euclidean.norm (zero_same m e h) ∙ laws.euclidean.norm-zero))
          go false h = refl

      regular : location_check m e ≡ index_check m e
      regular = after_entry ∙ ap (λ (b : Bool). then (cond b (refuse Singular) (Ok tt)) (index_check m e)) not_zero

      pub outside : (f : Refusal) → 64 < n → f ≡ refused Outside 0 → Located m e (Err f)
      outside f l q = refuses f Outside q (regular ∙ cond-false _ _ _ (lt-leb _ _ (subst (λ (j : ℕ). 64 < j) norm_is l)))

      module _ (l : n ≤ 64) (form : Element) (answer : CanonicalAnswer m e (Ok form)) where
        is_form : Member m.coordinates form × Associate (ops m.coordinates) (value m.coordinates e) (value m.coordinates form) × Canonical m.euclidean (value m.coordinates form)
        is_form = subst (λ (r : Result (Unit {0}) Refusal). Meets r (Ok form) (λ c. Member m.coordinates c × Associate (ops m.coordinates) (value m.coordinates e) (value m.coordinates c) × Canonical m.euclidean (value m.coordinates c))) entry_reach answer

        -- associates have one norm
        form_norm : norm_of m form ≡ n
        form_norm =
            let a = is_form.1 in
            ap m.euclidean.norm a.2
            ∙ laws.euclidean.norm-mul a.0 (value m.coordinates e)
            ∙ ap (λ (j : ℕ). j * norm_of m e) (laws.euclidean.norm_unit a.0 a.1)
            ∙ one-mul (norm_of m e)
            ∙ sym norm_is

        form_reach : admitted m.coordinates form ≡ Ok tt
        form_reach = cond-true _ _ _ (admits_small m.coordinates form (2 * norm_of m form) (omega (arith, form_norm)) is_form.0 (laws.norm_bounds (value m.coordinates form)))

        place_is : (i : ℕ) × (canonical_place m form ≡ Some i)
        place_is = place-Listed (same m.coordinates) (same_true m.coordinates) (same_refl m.coordinates) (value m.coordinates form) _ is_form.2.0 is_form.2.1

        number_is : canonical_number_answer m form ≡ Ok place_is.0
        number_is =
            ap (λ (r : Result (Unit {0}) Refusal). then r (cond (leb 1 (norm_of m form) && leb (norm_of m form) 64) (ok_or (canonical_place m form) (refused Outside 0)) (refuse Outside))) form_reach
            ∙ cond-true _ _ _ (and_from _ _ (le-leb 1 (norm_of m form) (omega (arith, form_norm, z))) (le-leb (norm_of m form) 64 (omega (arith, form_norm))))
            ∙ ap (λ (o : Option ℕ). ok_or o (refused Outside 0)) place_is.1

        pub number_passes : (f : Refusal) → Err f ≡ canonical_number_answer m form → ⊥
        number_passes f h = no_fault f place_is.0 (h ∙ number_is)

        pub located : (sublattices lattice : ℕ) → Ok sublattices ≡ count_answer m n → Ok lattice ≡ canonical_number_answer m form → Located m e (Ok (record { index = n; sublattices = sublattices; lattice = lattice; form = form }))
        located sublattices lattice s t =
            let q : location_check m e ≡ Ok tt = regular ∙ cond-true _ _ _ (le-leb _ _ (subst (λ (j : ℕ). j ≤ 64) norm_is l)) in
            let j : place_is.0 ≡ lattice = same_ok (sym number_is ∙ sym t) in
            subst (λ (r : Result (Unit {0}) Refusal). Meets r (Ok (record { index = n; sublattices = sublattices; lattice = lattice; form = form })) (LocatedAt m e)) (sym q)
            (record {
              index = norm_is;
              sublattices = then_is (norm_check n) _ _ s;
              member = is_form.0;
              associate = is_form.1;
              canonical = is_form.2;
              lattice =
                  subst (λ (i : ℕ). slice_get (m.euclidean.canonical i) lattice ≡ Some (value m.coordinates form)) form_norm
                  (subst (λ (i : ℕ). slice_get (m.euclidean.canonical (norm_of m form)) i ≡ Some (value m.coordinates form)) j
                  (nth_place (same m.coordinates) (same_true m.coordinates) (same_refl m.coordinates) (value m.coordinates form) _ place_is.0 place_is.1));
            })
