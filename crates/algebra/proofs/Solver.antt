-- A decision procedure for equations that hold in every commutative ring.
use Rattle.std.proofs.Common.{◌≡◌, ℕ, zero, suc, T, List, [], ◌∷◌, ℤ, pos, negsuc, ◌+ℤ◌, ◌*ℤ◌, sym, refl, ap, ◌∙◌, subst, ap₂, eqb→eq}
use Prim.Native.Nat.{compare, Ordering}
use lib.Dec.{compare_is_eq}
use Rattle.algebra.specs.Ring.{Ops, CommRing}
use Rattle.algebra.proofs.CommRing as Laws
use Rattle.algebra.proofs.Numeral.{embed, embed-add, embed-mul}

-- ---- terms
pub data Expr : Type 0 where
  var : ℕ → Expr
  num : ℤ → Expr
  nil : Expr
  unit : Expr
  plus : Expr → Expr → Expr
  times : Expr → Expr → Expr
  minus : Expr → Expr

-- terms as the operations of a ring, so that what is defined over any `Ops` can be read as a term
abbrev pub terms : Ops Expr
terms = record { zero = nil; one = unit; add = plus; mul = times; neg = minus }

-- ---- normal forms: a whole number, or x·p + q, where q has no x and p no variable before x
pub data Poly : Type 0 where
  con : ℤ → Poly
  node : ℕ → Poly → Poly → Poly

abbrev pub mk : ℕ → Poly → Poly → Poly
mk i (con (pos zero)) q = q
mk i (con (pos (suc n))) q = node i (con (pos (suc n))) q
mk i (con (negsuc n)) q = node i (con (negsuc n)) q
mk i (node j p r) q = node i (node j p r) q

abbrev pub padd_con : ℤ → Poly → Poly
padd_con c (con d) = con (c +ℤ d)
padd_con c (node j p q) = node j p (padd_con c q)

-- x·p + q is added, where `ap` adds p and `aq` adds q
abbrev pub padd_node : (Poly → Poly) → (Poly → Poly) → ℕ → Poly → Poly → Poly
padd_node ap aq i p (con c) = node i p (aq (con c))
padd_node ap aq i p (node j r s) = elim (compare i j) [
  | Ordering.lt ↦ node i p (aq (node j r s))
  | Ordering.eq ↦ mk i (ap r) (aq s)
  | Ordering.gt ↦ node j r (padd_node ap aq i p s)
]

abbrev pub padd : Poly → Poly → Poly
padd (con c) = padd_con c
padd (node i p q) = padd_node (padd p) (padd q) i p

abbrev pub pscale : ℤ → Poly → Poly
pscale c (con d) = con (c *ℤ d)
pscale c (node j p q) = node j (pscale c p) (pscale c q)

abbrev pub pmul_var : ℕ → Poly → Poly
pmul_var i (con c) = mk i (con c) (con (pos zero))
pmul_var i (node j p q) = elim (compare i j) [
  | Ordering.lt ↦ node i (node j p q) (con (pos zero))
  | Ordering.eq ↦ node i (node j p q) (con (pos zero))
  | Ordering.gt ↦ node j (pmul_var i p) (pmul_var i q)
]

abbrev pub pmul_con : ℤ → Poly → Poly
pmul_con (pos zero) q = con (pos zero)
pmul_con (pos (suc n)) q = pscale (pos (suc n)) q
pmul_con (negsuc n) q = pscale (negsuc n) q

abbrev pub pmul : Poly → Poly → Poly
pmul (con c) q = pmul_con c q
pmul (node i p r) q = padd (pmul_var i (pmul p q)) (pmul r q)

abbrev pub norm : Expr → Poly
norm (var i) = node i (con (pos 1)) (con (pos 0))
norm (num c) = con c
norm nil = con (pos 0)
norm unit = con (pos 1)
norm (plus e f) = padd (norm e) (norm f)
norm (times e f) = pmul (norm e) (norm f)
norm (minus e) = pscale (negsuc 0) (norm e)

-- ---- values
module _ {A : Type 0} (o : Ops A) where
  abbrev pub look : List A → ℕ → A
  look [] i = o.zero
  look (x ∷ xs) zero = x
  look (x ∷ xs) (suc i) = look xs i

  abbrev pub eval : List A → Expr → A
  eval env (var i) = look env i
  eval env (num c) = embed o c
  eval env nil = o.zero
  eval env unit = o.one
  eval env (plus e f) = o.add (eval env e) (eval env f)
  eval env (times e f) = o.mul (eval env e) (eval env f)
  eval env (minus e) = o.neg (eval env e)

  abbrev pub value : List A → Poly → A
  value env (con c) = embed o c
  value env (node i p q) = o.add (o.mul (look env i) (value env p)) (value env q)

module _ {A : Type 0} {o : Ops A} (R : CommRing o) (env : List A) where
  open o use {zero as 𝟘, one as 𝟙, add as ◌⊕◌, mul as ◌⊗◌, neg as ⊝}

  infixl 6 ◌⊕◌
  infixl 7 ◌⊗◌
  abbrev X : ℕ → A
  X i = look o env i

  abbrev v : Poly → A
  v p = value o env p

  mk_ok : (i : ℕ) (p q : Poly) → v (mk i p q) ≡ X i ⊗ v p ⊕ v q
  mk_ok i (con (pos zero)) q = sym (ap (λ x. x ⊕ v q) (Laws.mul-zero R (X i)) ∙ Laws.zero-add R (v q))
  mk_ok i (con (pos (suc n))) q = refl
  mk_ok i (con (negsuc n)) q = refl
  mk_ok i (node j p r) q = refl

  padd_con_ok : (c : ℤ) (q : Poly) → v (padd_con c q) ≡ embed o c ⊕ v q
  padd_con_ok c (con d) = embed-add R c d
  padd_con_ok c (node j p q) = ap (λ x. X j ⊗ v p ⊕ x) (padd_con_ok c q) ∙ Laws.add_left_comm R (X j ⊗ v p) (embed o c) (v q)

  padd_node_ok : (f g : Poly → Poly) (i : ℕ) (p q : Poly)
      → ((r : Poly) → v (f r) ≡ v p ⊕ v r) → ((r : Poly) → v (g r) ≡ v q ⊕ v r)
      → (r : Poly) → v (padd_node f g i p r) ≡ (X i ⊗ v p ⊕ v q) ⊕ v r
  padd_node_ok f g i p q hf hg (con c) = ap (λ x. X i ⊗ v p ⊕ x) (hg (con c)) ∙ sym (R.add_assoc (X i ⊗ v p) (v q) (embed o c))
  padd_node_ok f g i p q hf hg (node j r s) = go (compare i j) refl (padd_node_ok f g i p q hf hg s)
    where
      go : (t : Ordering) → compare i j ≡ t → v (padd_node f g i p s) ≡ (X i ⊗ v p ⊕ v q) ⊕ v s
          → v (elim t [
            | Ordering.lt ↦ node i p (g (node j r s))
            | Ordering.eq ↦ mk i (f r) (g s)
            | Ordering.gt ↦ node j r (padd_node f g i p s)
          ]) ≡ (X i ⊗ v p ⊕ v q) ⊕ (X j ⊗ v r ⊕ v s)
      go Ordering.lt e h = ap (λ x. X i ⊗ v p ⊕ x) (hg (node j r s)) ∙ sym (R.add_assoc (X i ⊗ v p) (v q) (X j ⊗ v r ⊕ v s))
      go Ordering.eq e h =
          mk_ok i (f r) (g s)
          ∙ ap₂ (λ x y. X i ⊗ x ⊕ y) (hf r) (hg s)
          ∙ ap (λ x. x ⊕ (v q ⊕ v s)) (R.mul-add (X i) (v p) (v r))
          ∙ Laws.add-add R (X i ⊗ v p) (X i ⊗ v r) (v q) (v s)
          ∙ ap (λ k. (X i ⊗ v p ⊕ v q) ⊕ (X k ⊗ v r ⊕ v s)) (eqb→eq i j (subst (λ t. T (compare_is_eq t)) (sym e) tt))
      go Ordering.gt e h = ap (λ x. X j ⊗ v r ⊕ x) h ∙ Laws.add_left_comm R (X j ⊗ v r) (X i ⊗ v p ⊕ v q) (v s)

  padd_ok : (p q : Poly) → v (padd p q) ≡ v p ⊕ v q
  padd_ok (con c) q = padd_con_ok c q
  padd_ok (node i p r) q = padd_node_ok (padd p) (padd r) i p r (padd_ok p) (padd_ok r) q

  pscale_ok : (c : ℤ) (q : Poly) → v (pscale c q) ≡ embed o c ⊗ v q
  pscale_ok c (con d) = embed-mul R c d
  pscale_ok c (node j p q) = ap₂ (λ x y. X j ⊗ x ⊕ y) (pscale_ok c p) (pscale_ok c q) ∙ ap (λ x. x ⊕ embed o c ⊗ v q) (Laws.mul_left_comm R (X j) (embed o c) (v p)) ∙ sym (R.mul-add (embed o c) (X j ⊗ v p) (v q))

  pmul_var_ok : (i : ℕ) (p : Poly) → v (pmul_var i p) ≡ X i ⊗ v p
  pmul_var_ok i (con c) = mk_ok i (con c) (con (pos zero)) ∙ R.add-zero (X i ⊗ embed o c)
  pmul_var_ok i (node j p q) = go (compare i j) (pmul_var_ok i p) (pmul_var_ok i q)
    where
      go : (t : Ordering) → v (pmul_var i p) ≡ X i ⊗ v p → v (pmul_var i q) ≡ X i ⊗ v q
          → v (elim t [
            | Ordering.lt ↦ node i (node j p q) (con (pos zero))
            | Ordering.eq ↦ node i (node j p q) (con (pos zero))
            | Ordering.gt ↦ node j (pmul_var i p) (pmul_var i q)
          ]) ≡ X i ⊗ (X j ⊗ v p ⊕ v q)
      go Ordering.lt h k = R.add-zero (X i ⊗ (X j ⊗ v p ⊕ v q))
      go Ordering.eq h k = R.add-zero (X i ⊗ (X j ⊗ v p ⊕ v q))
      go Ordering.gt h k = ap₂ (λ x y. X j ⊗ x ⊕ y) h k ∙ ap (λ x. x ⊕ X i ⊗ v q) (Laws.mul_left_comm R (X j) (X i) (v p)) ∙ sym (R.mul-add (X i) (X j ⊗ v p) (v q))

  pmul_con_ok : (c : ℤ) (q : Poly) → v (pmul_con c q) ≡ embed o c ⊗ v q
  pmul_con_ok (pos zero) q = sym (Laws.zero-mul R (v q))
  pmul_con_ok (pos (suc n)) q = pscale_ok (pos (suc n)) q
  pmul_con_ok (negsuc n) q = pscale_ok (negsuc n) q

  pmul_ok : (p q : Poly) → v (pmul p q) ≡ v p ⊗ v q
  pmul_ok (con c) q = pmul_con_ok c q
  pmul_ok (node i p r) q =
      padd_ok (pmul_var i (pmul p q)) (pmul r q)
      ∙ ap₂ ◌⊕◌ (pmul_var_ok i (pmul p q) ∙ ap (λ x. X i ⊗ x) (pmul_ok p q) ∙ sym (R.mul_assoc (X i) (v p) (v q))) (pmul_ok r q)
      ∙ sym (Laws.add-mul R (X i ⊗ v p) (v r) (v q))

  pub norm_ok : (e : Expr) → v (norm e) ≡ eval o env e
  norm_ok (var i) = R.add-zero (X i ⊗ (𝟙 ⊕ 𝟘)) ∙ ap (λ x. X i ⊗ x) (R.add-zero 𝟙) ∙ R.mul-one (X i)
  norm_ok (num c) = refl
  norm_ok nil = refl
  norm_ok unit = R.add-zero 𝟙
  norm_ok (plus e f) = padd_ok (norm e) (norm f) ∙ ap₂ ◌⊕◌ (norm_ok e) (norm_ok f)
  norm_ok (times e f) = pmul_ok (norm e) (norm f) ∙ ap₂ ◌⊗◌ (norm_ok e) (norm_ok f)
  norm_ok (minus e) =
      pscale_ok (negsuc 0) (norm e) ∙ ap (λ x. ⊝ x ⊗ v (norm e)) (R.add-zero 𝟙) ∙ Laws.neg-mul R 𝟙 (v (norm e)) ∙ ap ⊝ (Laws.one-mul R (v (norm e)) ∙ norm_ok e)

  pub solve : (e f : Expr) → norm e ≡ norm f → eval o env e ≡ eval o env f
  solve e f h = sym (norm_ok e) ∙ ap v h ∙ norm_ok f

  -- e ≡ f follows from p ≡ q where e − f = p − q. The sum of several hypotheses, each times a factor, is one such, by `ap₂`
  pub from : (p q : Expr) → eval o env p ≡ eval o env q → (e f : Expr) → norm (plus e q) ≡ norm (plus f p) → eval o env e ≡ eval o env f
  from p q k e f h =
      Laws.cancel R (eval o env e) (eval o env f) (eval o env q) (solve (plus e q) (plus f p) h ∙ ap (λ x. eval o env f ⊕ x) k)
