use Rattle.text.proofs.Course.{Course}
use Rattle.text.proofs.read.Given as goal

abbrev pub invariant-loop : goal.invariant-loop
invariant-loop l = Course l.counter l.reader.line l.reader.state l.reader.rest.now l.text
