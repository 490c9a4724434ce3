-- `counts_io::railway_text` meets its contract: the tables are the call's own, and the text is the one for the reply to the call for the counts.
-- Assumes nothing.
use Rattle.std.proofs.Common.{refl}
use Rattle.counts_io.proofs.Shown.{railway-refused, railway-counted}
use Rattle.counts_io.proofs.railway_text.Goals as goal

pub returns-in-Err : goal.returns-in-Err
returns-in-Err c =
    railway-refused _ _ _ _ c.solve.ensures _ c.in-Err.ensures _ refl
    c.refused_text.ensures

pub returns-in-Ok : goal.returns-in-Ok
returns-in-Ok c =
    railway-counted _ _ _ _ c.solve.ensures _ c.in-Ok.ensures _ refl
    c.power.ensures c.counted_text.ensures
