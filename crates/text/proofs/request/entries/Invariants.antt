use Rattle.text.specs.Parts.{held}
use Rattle.text.proofs.Entries.{Filled}
use Rattle.text.proofs.request.entries.Given as goal

abbrev pub invariant-loop-entry : goal.invariant-loop-entry
invariant-loop-entry g l = Filled l.k g.row.N l.bytes l.entry-index l.entry-items (held l.rest)
