use Rattle.text.proofs.Backward.{read_back}
use Rattle.text.proofs.Forward.{read_forth}
use Rattle.text.proofs.reading_inverts_writing.Goals as goal

pub returns : goal.returns
returns c = record { accepted = read_forth; only = read_back }
