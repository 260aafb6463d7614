use Rattle.std.proofs.Common.{◌≡◌, ◌<◌, pos, nat_abs, Err, sym, ap, ◌∙◌, arith, w64, to_z, of_z}
use Rattle.std.proofs.lemmas.Int.{ints}
use Rattle.integers.proofs.Returned.{modulus_is, residue_number_is, residue_number_none}
use Rattle.integers.proofs.IntegersRing.residue_number.Goals as goal

pub returns-then-contains : goal.returns-then-contains
returns-then-contains c =
    let n = nat_abs (to_z w64 (of_z w64 c.in_ok-a.a.x)) in
    let e : c.args.a.x ≡ pos n = grind (arith, ints) in
    let h : n < nat_abs c.args.m.x = grind (arith, ints) in
    sym (residue_number_is c.args.m c.args.a c.in_ok-m.ensures.check c.in_ok-a.ensures.check (modulus_is c.args.m c.in_ok-m.m c.in_ok-m.ensures.x c.in_ok-modulus.ensures.0) n e h)

pub returns-else-contains : goal.returns-else-contains
returns-else-contains c =
    ap Err c.into.ensures ∙ sym (residue_number_none c.args.m c.args.a c.in_ok-m.ensures.check c.in_ok-a.ensures.check (modulus_is c.args.m c.in_ok-m.m c.in_ok-m.ensures.x c.in_ok-modulus.ensures.0) (λ i e l. absurd (grind (arith, ints))))
