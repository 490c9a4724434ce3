-- `check_io::bytes_put` meets its contract, by what was put.
-- Assumes nothing.
use mathlib.Core.Path.{◌≡◌, refl, ◌∙◌}
use mathlib.Core.Option.{get_or}
use Rattle.std.specs.Result.{result_unwrap_or}
use Rattle.case_file.specs.Written.{Written, Bytes, Refused}
use Rattle.case_file.specs.Writing.{written_count}
use Rattle.check_io.proofs.bytes_put.Goals as goal

counted : (w : Written) → result_unwrap_or w 0 ≡ get_or (written_count w) 0
counted (Bytes n) = refl
counted (Refused f) = refl

pub returns : goal.returns
returns c = c.unwrap_or.ensures ∙ counted c.args.put
