-- `desk_text::open_text` meets its contract, by the answer to the opening.
-- Assumes nothing.
use mathlib.Core.Path.{refl}
use Rattle.desk_text.proofs.Said.{refused-said, none_said, opening-said, nowhere-said}
use Rattle.desk_text.proofs.open_text.Goals as goal

pub returns-in-Ok-Some : goal.returns-in-Ok-Some
returns-in-Ok-Some c =
    let p = rw c.in-Ok-Some.field-0-is at c.in-Ok-Some.ensures in
    opening-said _ _ _ _ p _ refl c.state_text.ensures

pub returns-in-Ok-None : goal.returns-in-Ok-None
returns-in-Ok-None c =
    let p = rw c.in-Ok-None.field-0-is at c.in-Ok-None.ensures in
    nowhere-said _ _ _ _ p _ refl c.nowhere.ensures (none_said _ _ _ _ c.none_line.ensures)

pub returns-in-Err : goal.returns-in-Err
returns-in-Err c =
    nowhere-said _ _ _ _ c.in-Err.ensures _ refl c.nowhere-in-Err.ensures
    (refused-said _ _ _ c.in-Err.f _ _ c.refusal_line.ensures)
