-- What this crate proves, over every ring that keeps the laws and in every rank.
use Rattle.std.specs.Prelude.{◌≡◌, ℕ, List, [], ◌∷◌, length, Some, ◌≢◌}
use Rattle.std.specs.List.{slice_get}
use Rattle.algebra.specs.Ring.{CommRing, Ops}
use Rattle.algebra.specs.Euclidean.{Euclidean, EuclideanLaws, Listed}
use Rattle.lattice.specs.Vectors.{Sublattice, Vec, vscale, vsub}
use Rattle.lattice.specs.Determinants.{det}
use Rattle.lattice.specs.Forms.{Form, Hermite, Reduced, Spanned, index, sites}

-- two Hermite forms with the same vectors are equal
abbrev pub FormsAreUnique : Type 0 → Type 0
FormsAreUnique A = (o : Ops A) → CommRing o → (e : Euclidean A) → EuclideanLaws o e → (d : ℕ) (h k : Form A d) → Hermite o e d h → Hermite o e d k → ((v : Vec A d) → Spanned o e d h v → Spanned o e d k v) → ((v : Vec A d) → Spanned o e d k v → Spanned o e d h v) → h ≡ k

-- some n other than 0 takes every vector into the sublattice of the columns
abbrev pub Full : {A : Type 0} → Ops A → (d : ℕ) → List (Vec A d) → Type 0
Full {A} o d us = (n : A) × (n ≢ o.zero) × ((v : Vec A d) → Sublattice o d us (vscale o d n v))

-- the determinant of as many columns as the rank, where it is not 0, takes every vector into their sublattice
pub record FullByDeterminant {A : Type 0} (o : Ops A) : Type 0 where
  pub one : (a : Vec A 1) → (det o 1 (a ∷ []) ≢ o.zero) → Full o 1 (a ∷ [])
  pub two : (a b : Vec A 2) → (det o 2 (a ∷ b ∷ []) ≢ o.zero) → Full o 2 (a ∷ b ∷ [])
  pub three : (a b c : Vec A 3) → (det o 3 (a ∷ b ∷ c ∷ []) ≢ o.zero) → Full o 3 (a ∷ b ∷ c ∷ [])

abbrev pub DeterminantsFill : Type 0 → Type 0
DeterminantsFill A = (o : Ops A) → CommRing o → FullByDeterminant o

-- a Hermite form with the same vectors as the columns
pub record FormOf {A : Type 0} (o : Ops A) (e : Euclidean A) (d : ℕ) (us : List (Vec A d)) : Type 0 where
  pub form : Form A d
  pub hermite : Hermite o e d form
  pub holds : (v : Vec A d) → Sublattice o d us v → Spanned o e d form v
  pub only : (v : Vec A d) → Spanned o e d form v → Sublattice o d us v

-- the columns of every sublattice of full rank have a Hermite form
abbrev pub FormsExist : Type 0 → Type 0
FormsExist A = (o : Ops A) → CommRing o → (e : Euclidean A) → EuclideanLaws o e → (d : ℕ) (us : List (Vec A d)) → Full o d us → FormOf o e d us

-- the index of the Hermite form is the norm of the determinant
pub record IndexByDeterminant {A : Type 0} (o : Ops A) (e : Euclidean A) : Type 0 where
  pub one : (a : Vec A 1) (f : FormOf o e 1 (a ∷ [])) → e.norm (det o 1 (a ∷ [])) ≡ index o e 1 f.form
  pub two : (a b : Vec A 2) (f : FormOf o e 2 (a ∷ b ∷ [])) → e.norm (det o 2 (a ∷ b ∷ [])) ≡ index o e 2 f.form
  pub three : (a b c : Vec A 3) (f : FormOf o e 3 (a ∷ b ∷ c ∷ [])) → e.norm (det o 3 (a ∷ b ∷ c ∷ [])) ≡ index o e 3 f.form

abbrev pub IndexIsNorm : Type 0 → Type 0
IndexIsNorm A = (o : Ops A) → CommRing o → (e : Euclidean A) → EuclideanLaws o e → IndexByDeterminant o e

-- modulo a Hermite form every vector is congruent to exactly one reduced vector
pub record Reduction {A : Type 0} (o : Ops A) (e : Euclidean A) (d : ℕ) (h : Form A d) : Type 0 where
  pub exists : (v : Vec A d) → (r : Vec A d) × Reduced o e d h r × Spanned o e d h (vsub o d v r)
  pub unique : (u v : Vec A d) → Reduced o e d h u → Reduced o e d h v → Spanned o e d h (vsub o d u v) → u ≡ v

abbrev pub VectorsReduce : Type 0 → Type 0
VectorsReduce A = (o : Ops A) → CommRing o → (e : Euclidean A) → EuclideanLaws o e → (d : ℕ) (h : Form A d) → Hermite o e d h → Reduction o e d h

-- the list of sites holds each reduced vector once and nothing else, and is as long as the index
pub record SitesOf {A : Type 0} (o : Ops A) (e : Euclidean A) (d : ℕ) (h : Form A d) : Type 0 where
  pub holds : (v : Vec A d) → Reduced o e d h v → Listed (sites o e d h) v
  pub only : (v : Vec A d) → Listed (sites o e d h) v → Reduced o e d h v
  pub once : (i j : ℕ) (v : Vec A d) → slice_get (sites o e d h) i ≡ Some v → slice_get (sites o e d h) j ≡ Some v → i ≡ j
  pub count : length (sites o e d h) ≡ index o e d h

abbrev pub SitesAreCounted : Type 0 → Type 0
SitesAreCounted A = (o : Ops A) → CommRing o → (e : Euclidean A) → EuclideanLaws o e → (d : ℕ) (h : Form A d) → Hermite o e d h → SitesOf o e d h
