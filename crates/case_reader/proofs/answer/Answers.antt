-- `case_reader::answer` meets its contract: refused by the first row that applies to the draft, or accepted. Assumes nothing.
use Rattle.std.proofs.Common.{refl}
use Rattle.std.proofs.lemmas.Result.{err_from_is_err_and}
use Rattle.case_reader.proofs.Parts.{refused-by, accepted-by}
use Rattle.case_reader.proofs.answer.Goals as goal

pub returns-in_err-first_row : goal.returns-in_err-first_row
returns-in_err-first_row c =
    let p = err_from_is_err_and c.from_residual.result c.from_residual.ensures.1 in
    rw (p.1, p.2) (refused-by _ _ c.in_err-first_row.ensures _ refl)

pub returns : goal.returns
returns c = accepted-by _ _ c.in_ok-first_row.ensures refl
