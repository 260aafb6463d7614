use Rattle.std.proofs.Common.{arith}
use Rattle.text.proofs.Numerals.{early, no_number, one_more}
use Rattle.text.proofs.values.digits.Goals as goal

pub returns-then-not-is_ascii_digit : goal.returns-then-not-is_ascii_digit
returns-then-not-is_ascii_digit c = no_number c.args.bytes.now c.loop-byte.byte-index c.loop-byte-test.true c.if-not-is_ascii_digit.ensures.cases

pub overflow_mul-n : goal.overflow_mul-n
overflow_mul-n c =
    let e = early c.args.bytes.now c.loop-byte.byte-index c.loop-byte.n 15 c.loop-byte.invariant.0 c.loop-byte.invariant.1 (omega arith) in
    omega arith

pub overflow_add-n : goal.overflow_add-n
overflow_add-n c =
    let e = early c.args.bytes.now c.loop-byte.byte-index c.loop-byte.n 15 c.loop-byte.invariant.0 c.loop-byte.invariant.1 (omega arith) in
    omega (arith, c.if-not-is_ascii_digit.ensures.cases)

pub loop-byte-preserved : goal.loop-byte-preserved
loop-byte-preserved c =
    let e = one_more c.args.bytes.now c.loop-byte.byte-index c.loop-byte.n c.loop-byte-test.true c.if-not-is_ascii_digit.ensures.cases c.loop-byte.invariant.0 c.loop-byte.invariant.1 in
    (e.0, rw c.from.ensures e.1)
