-- `runs_api::runs_case` meets its contract: refused by the reader, or both tables of the railway that was read. Assumes nothing.
use mathlib.Core.Path.{refl}
use Rattle.runs_api.proofs.Exported.{read-accepted, text-refused, text-read}
use Rattle.runs_api.proofs.runs_case.Goals as goal

pub both_tables-requires : goal.both_tables-requires
both_tables-requires c = read-accepted _ _ c.in-Ok.ensures refl

pub returns-in-Err : goal.returns-in-Err
returns-in-Err c = text-refused _ _ c.in-Err.ensures _ _ _ _ refl c.number.ensures

pub returns-in-Ok : goal.returns-in-Ok
returns-in-Ok c =
    text-read _ _ c.in-Ok.ensures _ _ _ _ _ refl
    c.both_tables.ensures
