-- Equal elements, places in lists, and what the checks of a ring's calls tell.
use Rattle.std.proofs.Common.{◌≡◌, ℕ, zero, suc, Bool, true, false, cond, not, ◌&&◌, List, [], ◌∷◌, ℤ, is_some, Some, None, Ok, Option, sym, refl, ap, ◌∙◌, subst, ap₂, true≢false, rules, arith}
use Rattle.std.specs.Option.{option_map}
use Rattle.std.specs.Ordering.{int_eq}
use Rattle.std.proofs.lemmas.Bool.Decides.{Decides-int_eq}
use Rattle.std.specs.List.{slice_get}
use Rattle.algebra.specs.Euclidean.{Canonical, Modulus}
use Rattle.refusal.specs.declared.Cause.TheVariants.{Modulus as NoModulus}
use Rattle.refusal.specs.Numbers.{refuse}
use Rattle.ring.specs.declared.elements.Coordinates.{Coordinates}
use Rattle.ring.specs.declared.elements.Coordinates.TheVariants.{One, Two}
use Rattle.ring.specs.declared.elements.Element.{Element}
use Rattle.ring.specs.Elements.{Carrier, ops, element, value, same}
use Rattle.ring.specs.Meaning.{Meaning}
use Rattle.ring.specs.Answers.{place, is_zero, canonical_place, modulus_check}

pub both : (a b : Bool) → (a && b) ≡ true → (a ≡ true) × (b ≡ true)
both true b h = (refl, h)
both false b h = absurd (true≢false (sym h))

whole_true : (x y : ℤ) → int_eq x y ≡ true → x ≡ y
whole_true x y h = search (Decides-int_eq, rules)

whole_refl : (x : ℤ) → int_eq x x ≡ true
whole_refl x = search (Decides-int_eq, rules)

pub same_true : (k : Coordinates) (u v : Carrier k) → same k u v ≡ true → u ≡ v
same_true One u v h = whole_true u v h
same_true (Two a b) u v h =
    let e = both (int_eq u.re v.re) (int_eq u.im v.im) h in
    λ i. record { re = whole_true u.re v.re e.0 i; im = whole_true u.im v.im e.1 i }

pub same_refl : (k : Coordinates) (u : Carrier k) → same k u u ≡ true
same_refl One u = whole_refl u
same_refl (Two a b) u = ap₂ ◌&&◌ (whole_refl u.re) (whole_refl u.im)

pub value-element : (k : Coordinates) (u : Carrier k) → value k (element k u) ≡ u
value-element One u = refl
value-element (Two a b) u = refl

-- a test that passes at equal elements alone
module _ {A : Type 0} (eq : A → A → Bool) (eq-true : (u v : A) → eq u v ≡ true → u ≡ v) (eq_refl : (u : A) → eq u u ≡ true) where
  suc_some : (o : Option ℕ) (i : ℕ) → option_map suc o ≡ Some i → (j : ℕ) × (o ≡ Some j) × (i ≡ suc j)
  suc_some (Some j) i h = (j, refl, cc)
  suc_some None i h = absurd (let z : ◌≡◌ {A = ℕ} 0 1 = cc in omega arith)

  -- what is found stands there
  pub nth_place : (x : A) (xs : List A) (i : ℕ) → place eq x xs ≡ Some i → slice_get xs i ≡ Some x
  nth_place x [] i h = absurd (let z : ◌≡◌ {A = ℕ} 0 1 = cc in omega arith)
  nth_place x (y ∷ ys) i h = go (λ j. nth_place x ys j) (eq x y) refl h
    where
      go : ((j : ℕ) → place eq x ys ≡ Some j → slice_get ys j ≡ Some x) → (b : Bool) → eq x y ≡ b → cond b (Some 0) (option_map suc (place eq x ys)) ≡ Some i → slice_get (y ∷ ys) i ≡ Some x
      go ih true e q = let z : 0 ≡ i = cc in subst (λ (n : ℕ). slice_get (y ∷ ys) n ≡ Some x) z (ap Some (sym (eq-true x y e)))
      go ih false e q =
          let s = suc_some (place eq x ys) i q in
          subst (λ (n : ℕ). slice_get (y ∷ ys) n ≡ Some x) (sym s.2) (ih s.0 s.1)

  -- what stands somewhere is found
  pub place-Listed : (x : A) (xs : List A) (i : ℕ) → slice_get xs i ≡ Some x → (j : ℕ) × (place eq x xs ≡ Some j)
  place-Listed x [] i h = absurd (let z : ◌≡◌ {A = ℕ} 0 1 = cc in omega arith)
  place-Listed x (y ∷ ys) zero h =
      let e : y ≡ x = cc in
      (0, ap (λ (b : Bool). cond b (Some 0) (option_map suc (place eq x ys))) (subst (λ (v : A). eq x v ≡ true) (sym e) (eq_refl x)))
  place-Listed x (y ∷ ys) (suc i) h = go (place-Listed x ys i h) (eq x y)
    where
      go : ((j : ℕ) × (place eq x ys ≡ Some j)) → (b : Bool) → (j : ℕ) × (cond b (Some 0) (option_map suc (place eq x ys)) ≡ Some j)
      go ih true = (0, refl)
      go ih false = (suc ih.0, ap (option_map suc) ih.1)

  -- in a list without repetitions it is found at its place
  pub place_nth : (x : A) (xs : List A) (i : ℕ) → slice_get xs i ≡ Some x → ((j : ℕ) → slice_get xs j ≡ Some x → j ≡ i) → place eq x xs ≡ Some i
  place_nth x xs i h once =
      let p = place-Listed x xs i h in
      p.1 ∙ ap Some (once p.0 (nth_place x xs p.0 p.1))

  pub place_none : (x : A) (xs : List A) → ((i : ℕ) → slice_get xs i ≡ Some x → ⊥) → place eq x xs ≡ None
  place_none x xs apart = go (place eq x xs) refl
    where
      go : (o : Option ℕ) → place eq x xs ≡ o → place eq x xs ≡ None
      go (Some i) e = absurd (apart i (nth_place x xs i e))
      go None e = e

-- what the checks tell
module _ (m : Meaning) where
  pub canonical_listed : (a : Element) → is_some (canonical_place m a) ≡ true → Canonical m.euclidean (value m.coordinates a)
  canonical_listed a h = go (canonical_place m a) refl h
    where
      go : (o : Option ℕ) → canonical_place m a ≡ o → is_some o ≡ true → Canonical m.euclidean (value m.coordinates a)
      go (Some i) e t = (i, nth_place (same m.coordinates) (same_true m.coordinates) (same_refl m.coordinates) (value m.coordinates a) _ i e)
      go None e t = absurd (true≢false (sym t))

  pub listed_canonical : (a : Element) → Canonical m.euclidean (value m.coordinates a) → is_some (canonical_place m a) ≡ true
  listed_canonical a c = ap is_some (place-Listed (same m.coordinates) (same_true m.coordinates) (same_refl m.coordinates) (value m.coordinates a) _ c.0 c.1).1

  pub zero_same : (a : Element) → is_zero m a ≡ true → value m.coordinates a ≡ (ops m.coordinates).zero
  zero_same a h = same_true m.coordinates _ _ h

  pub same_zero : (a : Element) → value m.coordinates a ≡ (ops m.coordinates).zero → is_zero m a ≡ true
  same_zero a h = subst (λ (v : Carrier m.coordinates). same m.coordinates (value m.coordinates a) v ≡ true) h (same_refl m.coordinates (value m.coordinates a))

  pub checked_modulus : (c : Element) (u : Unit {0}) → modulus_check m c ≡ Ok u → Modulus (ops m.coordinates) m.euclidean (value m.coordinates c)
  checked_modulus c u h = go (is_zero m c) refl (is_some (canonical_place m c)) refl h
    where
      go : (z : Bool) → is_zero m c ≡ z → (s : Bool) → is_some (canonical_place m c) ≡ s → cond (not z && s) (Ok tt) (refuse NoModulus) ≡ Ok u → Modulus (ops m.coordinates) m.euclidean (value m.coordinates c)
      go true e s f t = absurd (let z : ◌≡◌ {A = ℕ} 0 1 = cc in omega arith)
      go false e false f t = absurd (let z : ◌≡◌ {A = ℕ} 0 1 = cc in omega arith)
      go false e true f t = record { canonical = canonical_listed c f; not_zero = λ p. true≢false (sym (same_zero c p) ∙ e) }
