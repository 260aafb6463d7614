use Rattle.std.proofs.Common.{◌≡◌, ℕ, ◌<◌, List, length, get_or, arith, ltb-true}
use Rattle.std.proofs.lemmas.List.{get_or_past}
use Rattle.std.proofs.lemmas.Result.{err_from_is_err_and}
use Rattle.text.proofs.Numerals.{without_minus}
use Rattle.text.proofs.values.coordinate.Goals as goal
use Rattle.text.proofs.values.coordinate.Goals.{in_default-via-then-bytes-lt1, in_default-via-else-bytes-lt1+in_default-1}

empty : (bs : List ℕ) → get_or bs 0 0 ≡ 45 → length bs < 1 → ⊥
empty bs e l = omega (arith, get_or_past bs 0 0 (omega arith))

pub returns-in_err-number-in_default : goal.returns-in_err-number-in_default
returns-in_err-number-in_default c =
    let p = err_from_is_err_and c.from_residual-in_err-number-in_default.result c.from_residual-in_err-number-in_default.ensures.1 in
    rw (p.1, p.2) (without_minus c.args.bytes.now _
    (λ e. elim c.in_default.branch [ in_default-via-then-bytes-lt1 w ↦ empty c.args.bytes.now e (omega (arith, ltb-true)) | in_default-via-else-bytes-lt1+in_default-1 w ↦ omega arith ])
    c.in_err-number-in_default.ensures.value)
