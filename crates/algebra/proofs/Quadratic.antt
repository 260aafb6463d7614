-- Over a commutative ring the pairs x + y·θ with θ² = a + b·θ are a commutative ring.
use Rattle.std.proofs.Common.{◌≡◌, List, [], ◌∷◌, refl}
use Rattle.algebra.specs.Ring.{Ops, CommRing}
use Rattle.algebra.specs.Quadratic.{Quad, quad_ops, conjugate, norm_form}
use Rattle.algebra.specs.Statements.{QuadraticRing}
use Rattle.algebra.proofs.Solver.{Expr, var, nil, times, terms, eval, norm, solve}

-- the operations on pairs of terms, and three pairs of variables
abbrev T : Ops (Quad Expr)
T = quad_ops terms (var 0) (var 1)

abbrev form : Quad Expr → Expr
form p = norm_form terms (var 0) (var 1) p

abbrev x : Quad Expr
x = record { re = var 2; im = var 3 }

abbrev y : Quad Expr
y = record { re = var 4; im = var 5 }

abbrev z : Quad Expr
z = record { re = var 6; im = var 7 }

module _ {A : Type 0} {o : Ops A} (R : CommRing o) (a b : A) where
  -- two pairs of terms with the same normal forms have the same values
  both : (env : List A) (E F : Quad Expr) → norm E.re ≡ norm F.re → norm E.im ≡ norm F.im
      → ◌≡◌ {A = Quad A} (record { re = eval o env E.re; im = eval o env E.im }) (record { re = eval o env F.re; im = eval o env F.im })
  both env E F h k = λ i. record { re = solve R env E.re F.re h i; im = solve R env E.im F.im k i }

  abbrev env : Quad A → Quad A → Quad A → List A
  env p q r = a ∷ b ∷ p.re ∷ p.im ∷ q.re ∷ q.im ∷ r.re ∷ r.im ∷ []

  pub quad_ring : CommRing (quad_ops o a b)
  quad_ring = record {
    add_assoc = λ p q r. both (env p q r) (T.add (T.add x y) z) (T.add x (T.add y z)) refl refl;
    add_comm = λ p q. both (env p q q) (T.add x y) (T.add y x) refl refl;
    add-zero = λ p. both (env p p p) (T.add x T.zero) x refl refl;
    add-neg = λ p. both (env p p p) (T.add x (T.neg x)) T.zero refl refl;
    mul_assoc = λ p q r. both (env p q r) (T.mul (T.mul x y) z) (T.mul x (T.mul y z)) refl refl;
    mul_comm = λ p q. both (env p q q) (T.mul x y) (T.mul y x) refl refl;
    mul-one = λ p. both (env p p p) (T.mul x T.one) x refl refl;
    mul-add = λ p q r. both (env p q r) (T.mul x (T.add y z)) (T.add (T.mul x y) (T.mul x z)) refl refl;
  }

  pub quadratic : QuadraticRing o a b
  quadratic = record {
    laws = quad_ring;
    norm_form-mul = λ p q. solve R (env p q q) (form (T.mul x y)) (times (form x) (form y)) refl;
    mul-conjugate = λ p. both (env p p p) (T.mul x (conjugate terms (var 0) (var 1) x)) (record { re = form x; im = nil }) refl refl;
  }
