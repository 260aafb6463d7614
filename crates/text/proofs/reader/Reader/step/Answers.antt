use Rattle.std.proofs.Common.{ℕ, ◌+◌, ap, ◌∙◌}
use Rattle.text.proofs.Chains.{line_follows}
use Rattle.text.proofs.reader.Reader.step.Goals as goal

pub invariant_of-self : goal.invariant_of-self
invariant_of-self c =
    record { waits = ap (λ (n : ℕ). n + 1) c.args.self.now.waits ∙ line_follows c.args.self.now.state c.args.self.now.rest.now c.in-Ok.state c.in-Ok.rest.now c.in-Ok.ensures }
