-- Pairs x + y·θ with θ² = a + b·θ, over any operations.
use Rattle.algebra.specs.Ring.{Ops}
use Rattle.algebra.specs.Divisors.{sub}

pub record Quad (A : Type 0) : Type 0 where
  pub re : A
  pub im : A

module _ {A : Type 0} (o : Ops A) (a b : A) where
  abbrev pub quad_ops : Ops (Quad A)
  quad_ops = record {
    zero = record { re = o.zero; im = o.zero };
    one = record { re = o.one; im = o.zero };
    add = λ p q. record { re = o.add p.re q.re; im = o.add p.im q.im };
    mul = λ p q. record {
      re = o.add (o.mul p.re q.re) (o.mul a (o.mul p.im q.im));
      im = o.add (o.add (o.mul p.re q.im) (o.mul p.im q.re)) (o.mul b (o.mul p.im q.im));
    };
    neg = λ p. record { re = o.neg p.re; im = o.neg p.im };
  }

  -- the other root of θ² = a + b·θ is b − θ
  abbrev pub conjugate : Quad A → Quad A
  conjugate p = record { re = o.add p.re (o.mul b p.im); im = o.neg p.im }

  -- an element times its conjugate: x² + b·x·y − a·y²
  abbrev pub norm_form : Quad A → A
  norm_form p = sub o (o.add (o.mul p.re p.re) (o.mul b (o.mul p.re p.im))) (o.mul a (o.mul p.im p.im))
