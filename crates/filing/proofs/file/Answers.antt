use Rattle.std.proofs.lemmas.Result.{err_from_is_err_and}
use Rattle.filing.proofs.Reading.{not_filed}
use Rattle.filing.proofs.file.Goals as goal

pub returns-in_err-location : goal.returns-in_err-location
returns-in_err-location c =
    let p = err_from_is_err_and c.from_residual-in_err-location.result c.from_residual-in_err-location.ensures.1 in
    rw (p.1, p.2) (not_filed c.args.request.now c.in_ok-read.read c.in-One.entries c.in_err-location.field-0.0 c.in_ok-read.ensures c.in-One.is c.in_err-location.ensures)
