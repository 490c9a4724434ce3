-- `check_text::go_on` meets its contract: the call for the lines in front, and whether a whole line stands behind them.
-- Assumes nothing.
use mathlib.Core.Path.{refl}
use Rattle.check_text.proofs.Pieces.{piece-refused, piece-taken}
use Rattle.check_text.proofs.go_on.Goals as goal

pub returns-in-Err : goal.returns-in-Err
returns-in-Err c = piece-refused c.in-Err.ensures refl

pub returns-in-Ok : goal.returns-in-Ok
returns-in-Ok c = piece-taken c.in-Ok.ensures refl _ c.line_ends.ensures
