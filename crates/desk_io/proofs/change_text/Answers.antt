-- `desk_io::change_text` meets its contract, by the answer to the change. Made, the tables that were lent with it stand where those of the old case stood.
-- Assumes nothing.
use mathlib.Core.Path.{refl, ap}
use Rattle.desk_calls.specs.Answers.{desk_at}
use Rattle.desk_io.specs.Session.{panel_of}
use Rattle.desk_io.proofs.Changing.{new-made, new-refused}
use Rattle.desk_io.proofs.change_text.Goals as goal

pub returns-in-Ok : goal.returns-in-Ok
returns-in-Ok c =
    new-made _ (panel_of c.args.r _ _ (desk_at c.args.desk)) _ c.read_case.ensures _ c.empty.ensures.empty _ c.unwrap_or-s.ensures _ _ _ c.solve.ensures _
    c.in-Ok.ensures
    _ _ c.copy_from_slice.ensures.after c.copy_from_slice-in-Ok.ensures.after refl _ _ _ _ c.tell.ensures

pub returns-in-Err : goal.returns-in-Err
returns-in-Err c =
    new-refused _ (panel_of c.args.r _ _ (desk_at c.args.desk)) _ c.read_case.ensures _ c.empty.ensures.empty _ c.unwrap_or-s.ensures _ _ _ c.solve.ensures _
    c.in-Err.ensures
    _ refl _ _ _ _ c.refuse.ensures.0 (ap desk_at c.refuse.ensures.1) c.refuse.ensures.2
    c.refuse.ensures.3
