-- Rings with a norm, a division, one canonical element among associates and numbered residues.
use Rattle.std.specs.Prelude.{◌≡◌, ℕ, ◌*◌, ◌<◌, ◌≤◌, ◌⊎◌, List, length, Some, ◌≢◌}
use Rattle.std.specs.List.{slice_get}
use Rattle.algebra.specs.Ring.{Ops}
use Rattle.algebra.specs.Divisors.{Congruent, Invertible, Associate}

-- x stands somewhere in the list
abbrev pub Listed : {A : Type 0} → List A → A → Type 0
Listed xs x = (i : ℕ) × (slice_get xs i ≡ Some x)

-- what a ring has beside its operations; an element's number is its place in the list, from 0
pub record Euclidean (A : Type 0) : Type 0 where
  pub norm : A → ℕ
  -- the canonical elements of a norm
  pub canonical : ℕ → List A
  -- the residues modulo a canonical element
  pub residues : A → List A

-- c is the chosen one among its associates
abbrev pub Canonical : {A : Type 0} → Euclidean A → A → Type 0
Canonical e c = Listed (e.canonical (e.norm c)) c

-- what may be divided by and reduced by
pub record Modulus {A : Type 0} (o : Ops A) (e : Euclidean A) (m : A) : Type 0 where
  pub canonical : Canonical e m
  pub not_zero : m ≡ o.zero → ⊥

-- a = q·b + r, and r is smaller than b
pub record Divided {A : Type 0} (o : Ops A) (e : Euclidean A) (a b q r : A) : Type 0 where
  pub sum : a ≡ o.add (o.mul q b) r
  pub smaller : e.norm r < e.norm b

pub record EuclideanLaws {A : Type 0} (o : Ops A) (e : Euclidean A) : Type 0 where
  pub no_zero_divisors : (a b : A) → o.mul a b ≡ o.zero → (a ≡ o.zero) ⊎ (b ≡ o.zero)
  -- the norm tells 0 from the rest, and is multiplicative
  pub norm-zero : e.norm o.zero ≡ 0
  pub zero_from_norm : (a : A) → e.norm a ≡ 0 → a ≡ o.zero
  pub norm-mul : (a b : A) → e.norm (o.mul a b) ≡ e.norm a * e.norm b
  pub division : (a b : A) → (b ≢ o.zero) → (q : A) × (r : A) × Divided o e a b q r
  -- norm 1 marks the units, and there are few of them
  pub norm_unit : (u : A) → Invertible o u → e.norm u ≡ 1
  pub unit_from_norm : (u : A) → e.norm u ≡ 1 → Invertible o u
  pub few_units : (us : List A) × (length us ≤ 6) × ((u : A) → e.norm u ≡ 1 → Listed us u)
  -- each class of associates has one canonical element; a norm up to 64 has a short list of them
  pub canonical_associate : (a : A) → (c : A) × Associate o a c × Canonical e c
  pub canonical_unique : (a b : A) → Canonical e a → Canonical e b → Associate o a b → a ≡ b
  pub zero_canonical : Canonical e o.zero
  pub one_canonical : Canonical e o.one
  pub canonical_norm : (n : ℕ) (c : A) → Listed (e.canonical n) c → e.norm c ≡ n
  pub canonical_once : (n i j : ℕ) (c : A) → slice_get (e.canonical n) i ≡ Some c → slice_get (e.canonical n) j ≡ Some c → i ≡ j
  pub few_canonical : (n : ℕ) → 1 ≤ n → n ≤ 64 → length (e.canonical n) ≤ 8
  -- the residues of m represent each class modulo m once, beginning with 0
  pub residues_count : (m : A) → Modulus o e m → length (e.residues m) ≡ e.norm m
  pub residues_first : (m : A) → Modulus o e m → slice_get (e.residues m) 0 ≡ Some o.zero
  pub residue_exists : (m : A) → Modulus o e m → (a : A) → (r : A) × Listed (e.residues m) r × Congruent o m a r
  pub residue_unique : (m : A) → Modulus o e m → (i j : ℕ) (r s : A) → slice_get (e.residues m) i ≡ Some r → slice_get (e.residues m) j ≡ Some s → Congruent o m r s → i ≡ j
