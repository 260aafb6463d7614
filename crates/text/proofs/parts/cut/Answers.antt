use Rattle.std.proofs.Common.{sym, add-one, rules}
use Rattle.std.proofs.lemmas.List.{take_rest}
use Rattle.text.proofs.Cutting.{cut_at, uncut}
use Rattle.text.proofs.parts.cut.Goals as goal

pub returns-in-Some : goal.returns-in-Some
returns-in-Some c =
    let k = cut_at c.args.mark c.args.bytes.now c.in-Some.i (search rules) (search rules) (search rules) in
    record { before = sym k.0; after = rw (take_rest, add-one) (sym k.1) }

pub returns-in-None : goal.returns-in-None
returns-in-None c =
    let k = uncut c.args.mark c.args.bytes.now (search rules) in
    record { before = sym k.0; after = sym k.1 }
