use Rattle.std.proofs.Common.{rules}
use Rattle.text.proofs.Numerals.{digits_bound}
use Rattle.text.proofs.values.number.Goals as goal

pub returns-in_default-2 : goal.returns-in_default-2
returns-in_default-2 c =
    record {
      value = search rules;
      bound = rw c.digits.ensures (digits_bound c.args.bytes.now 15 c.if-bytes-gt-DIGITS.false);
    }
