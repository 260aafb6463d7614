-- Lists in which each element stands once.
use Rattle.std.proofs.Common.{◌≡◌, ℕ, zero, suc, ◌+◌, ◌*◌, ◌<◌, Bool, true, false, cond, ◌⊎◌, List, [], ◌∷◌, ◌++◌, map, length, Some, None, filter, sym, refl, ap, ◌∙◌, subst, ap₂, inl, inr, ⊎_elim, zero-mul, arith}
use Rattle.std.specs.List.{range_with_len, flat_map, slice_get}
use Rattle.std.proofs.lemmas.List.{length-append}
use Rattle.std.proofs.lemmas.List.FromFn.{get_or-map-range_with_len, length-map-range_with_len}
use Rattle.std.proofs.lemmas.Option.{slice_get-get_or, slice_get_past}
use Rattle.std.proofs.lemmas.Bool.{cases_lt}
use Rattle.algebra.specs.Euclidean.{Listed}

pub none_some : {A : Type 0} {X : Type 0} {x : A} → None ≡ Some x → X
none_some h = absurd (let z : ◌≡◌ {A = ℕ} 0 1 = cc in omega arith)

pub some_same : {A : Type 0} {x y : A} → Some x ≡ Some y → x ≡ y
some_same h = cc

abbrev pub Once : {A : Type 0} → List A → Type 0
Once [] = Unit {0}
Once (x ∷ xs) = (Listed xs x → ⊥) × Once xs

-- an element has one place
pub Once-place : {A : Type 0} (xs : List A) → Once xs → (i j : ℕ) (x : A) → slice_get xs i ≡ Some x → slice_get xs j ≡ Some x → i ≡ j
Once-place [] o i j x h k = none_some h
Once-place (y ∷ ys) o zero zero x h k = refl
Once-place (y ∷ ys) o zero (suc j) x h k = absurd (o.0 (j, k ∙ sym h))
Once-place (y ∷ ys) o (suc i) zero x h k = absurd (o.0 (i, h ∙ sym k))
Once-place (y ∷ ys) o (suc i) (suc j) x h k = ap suc (Once-place ys o.1 i j x h k)

pub once_from_places : {A : Type 0} (xs : List A) → ((i j : ℕ) (x : A) → slice_get xs i ≡ Some x → slice_get xs j ≡ Some x → i ≡ j) → Once xs
once_from_places [] h = tt
once_from_places (y ∷ ys) h =
    ((λ l. let z : 0 ≡ suc l.0 = h 0 (suc l.0) y refl l.1 in omega (arith, z)), once_from_places ys (λ i j x a b. let z : suc i ≡ suc j = h (suc i) (suc j) x a b in omega (arith, z)))

longer : {A : Type 0} (b : Bool) (y : A) (ys : List A) (x : A) → Listed ys x → Listed (cond b (y ∷ ys) ys) x
longer true y ys x l = (suc l.0, l.1)
longer false y ys x l = l

shorter : {A : Type 0} (b : Bool) (y : A) (ys : List A) (x : A) → Listed (cond b (y ∷ ys) ys) x → ((b ≡ true) × (y ≡ x)) ⊎ Listed ys x
shorter true y ys x (zero, h) = inl (refl, some_same h)
shorter true y ys x (suc i, h) = inr (i, h)
shorter false y ys x l = inr l

-- what a filter keeps
pub kept_listed : {A : Type 0} (test : A → Bool) (xs : List A) (x : A) → Listed xs x → test x ≡ true → Listed (filter test xs) x
kept_listed test [] x l t = none_some l.1
kept_listed test (y ∷ ys) x (zero, h) t = subst (λ (b : Bool). Listed (cond b (y ∷ filter test ys) (filter test ys)) x) (sym (ap test (some_same h) ∙ t)) (0, h)
kept_listed test (y ∷ ys) x (suc i, h) t = longer (test y) y (filter test ys) x (kept_listed test ys x (i, h) t)

pub listed_kept : {A : Type 0} (test : A → Bool) (xs : List A) (x : A) → Listed (filter test xs) x → Listed xs x × (test x ≡ true)
listed_kept test [] x l = none_some l.1
listed_kept test (y ∷ ys) x l =
    ⊎_elim (λ e. ((0, ap Some e.1), ap test (sym e.1) ∙ e.0)) (λ k. let r = listed_kept test ys x k in ((suc r.0.0, r.0.1), r.1)) (shorter (test y) y (filter test ys) x l)

pub once_kept : {A : Type 0} (test : A → Bool) (xs : List A) → Once xs → Once (filter test xs)
once_kept test [] o = tt
once_kept test (y ∷ ys) o = go (test y) (once_kept test ys o.1)
  where
    go : (b : Bool) → Once (filter test ys) → Once (cond b (y ∷ filter test ys) (filter test ys))
    go true r = ((λ l. o.0 (listed_kept test ys y l).0), r)
    go false r = r

-- a list made from a function of the place
module _ {A : Type 0} (f : ℕ → A) (n : ℕ) where
  pub nth_map_counting : (i : ℕ) → i < n → slice_get (map f (range_with_len 0 n)) i ≡ Some (f i)
  nth_map_counting i h =
      slice_get-get_or (map f (range_with_len 0 n)) i (f i) (rw length-map-range_with_len h) ∙ ap Some (get_or-map-range_with_len f 0 n i i (f i) h (omega arith))

  pub map_counting_listed : (i : ℕ) (x : A) → slice_get (map f (range_with_len 0 n)) i ≡ Some x → (i < n) × (x ≡ f i)
  map_counting_listed i x h =
      ⊎_elim (λ l. (l, some_same (sym h ∙ nth_map_counting i l))) (λ g. none_some (sym (slice_get_past (map f (range_with_len 0 n)) i (rw length-map-range_with_len g)) ∙ h)) (cases_lt i n)

  pub Once-map_counting : ((i j : ℕ) → i < n → j < n → f i ≡ f j → i ≡ j) → Once (map f (range_with_len 0 n))
  Once-map_counting inj =
      once_from_places (map f (range_with_len 0 n)) (λ i j x h k. let a = map_counting_listed i x h in let b = map_counting_listed j x k in inj i j a.0 b.0 (sym a.1 ∙ b.1))

-- one list after another
pub listed_left : {A : Type 0} (xs ys : List A) (x : A) → Listed xs x → Listed (xs ++ ys) x
listed_left [] ys x l = none_some l.1
listed_left (z ∷ zs) ys x (zero, h) = (0, h)
listed_left (z ∷ zs) ys x (suc i, h) = let l = listed_left zs ys x (i, h) in (suc l.0, l.1)

pub listed_right : {A : Type 0} (xs ys : List A) (x : A) → Listed ys x → Listed (xs ++ ys) x
listed_right [] ys x l = l
listed_right (z ∷ zs) ys x l = let r = listed_right zs ys x l in (suc r.0, r.1)

pub listed_either : {A : Type 0} (xs ys : List A) (x : A) → Listed (xs ++ ys) x → Listed xs x ⊎ Listed ys x
listed_either [] ys x l = inr l
listed_either (z ∷ zs) ys x (zero, h) = inl (0, h)
listed_either (z ∷ zs) ys x (suc i, h) = ⊎_elim (λ l. inl (suc l.0, l.1)) inr (listed_either zs ys x (i, h))

pub Once-append : {A : Type 0} (xs ys : List A) → Once xs → Once ys → ((x : A) → Listed xs x → Listed ys x → ⊥) → Once (xs ++ ys)
Once-append [] ys a b apart = b
Once-append (z ∷ zs) ys a b apart =
    ((λ l. ⊎_elim a.0 (λ r. apart z (0, refl) r) (listed_either zs ys z l)), Once-append zs ys a.1 b (λ x l r. apart x (suc l.0, l.1) r))

-- the images of a list
pub Listed-map : {A B : Type 0} (f : A → B) (xs : List A) (x : A) → Listed xs x → Listed (map f xs) (f x)
Listed-map f [] x l = none_some l.1
Listed-map f (z ∷ zs) x (zero, h) = (0, ap (λ y. Some (f y)) (some_same h))
Listed-map f (z ∷ zs) x (suc i, h) = let l = Listed-map f zs x (i, h) in (suc l.0, l.1)

pub map-Listed : {A B : Type 0} (f : A → B) (xs : List A) (y : B) → Listed (map f xs) y → (x : A) × Listed xs x × (f x ≡ y)
map-Listed f [] y l = none_some l.1
map-Listed f (z ∷ zs) y (zero, h) = (z, (0, refl), some_same h)
map-Listed f (z ∷ zs) y (suc i, h) = let r = map-Listed f zs y (i, h) in (r.0, (suc r.1.0, r.1.1), r.2)

pub Once-map : {A B : Type 0} (f : A → B) (xs : List A) → ((x y : A) → f x ≡ f y → x ≡ y) → Once xs → Once (map f xs)
Once-map f [] inj o = tt
Once-map f (z ∷ zs) inj o =
    ((λ l. let r = map-Listed f zs (f z) l in o.0 (subst (Listed zs) (inj r.0 z r.2) r.1)), Once-map f zs inj o.1)

-- the lists that a list gives, one after another
pub listed_joined : {A B : Type 0} (f : A → List B) (xs : List A) (x : A) (y : B) → Listed xs x → Listed (f x) y → Listed (flat_map f xs) y
listed_joined f [] x y l k = none_some l.1
listed_joined f (z ∷ zs) x y (zero, h) k = listed_left (f z) (flat_map f zs) y (subst (λ a. Listed (f a) y) (sym (some_same h)) k)
listed_joined f (z ∷ zs) x y (suc i, h) k = listed_right (f z) (flat_map f zs) y (listed_joined f zs x y (i, h) k)

pub joined_listed : {A B : Type 0} (f : A → List B) (xs : List A) (y : B) → Listed (flat_map f xs) y → (x : A) × Listed xs x × Listed (f x) y
joined_listed f [] y l = none_some l.1
joined_listed f (z ∷ zs) y l =
    ⊎_elim (λ k. (z, (0, refl), k)) (λ k. let r = joined_listed f zs y k in (r.0, (suc r.1.0, r.1.1), r.2)) (listed_either (f z) (flat_map f zs) y l)

pub once_joined : {A B : Type 0} (f : A → List B) (xs : List A) → Once xs → ((x : A) → Once (f x)) → ((x z : A) (y : B) → Listed (f x) y → Listed (f z) y → x ≡ z) → Once (flat_map f xs)
once_joined f [] o each apart = tt
once_joined f (z ∷ zs) o each apart =
    Once-append (f z) (flat_map f zs) (each z) (once_joined f zs o.1 each apart) (λ y l r. let k = joined_listed f zs y r in o.0 (subst (Listed zs) (apart k.0 z y k.2 l) k.1))

pub length_joined : {A B : Type 0} (f : A → List B) (xs : List A) (n : ℕ) → ((x : A) → length (f x) ≡ n) → length (flat_map f xs) ≡ length xs * n
length_joined f [] n same = sym (zero-mul n)
length_joined f (z ∷ zs) n same =
    length-append (f z) (flat_map f zs) ∙ ap₂ ◌+◌ (same z) (length_joined f zs n same) ∙ omega arith
