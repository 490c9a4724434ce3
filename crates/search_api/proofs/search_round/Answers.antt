-- `search_api::search_round` meets its contract: refused by the reader, or what is answered for the railway that was read. Assumes nothing.
use mathlib.Core.Path.{refl}
use Rattle.case_reader.proofs.Answers.{by-refused, by-accepted}
use Rattle.search_api.proofs.search_round.Goals as goal

pub returns-in-Err : goal.returns-in-Err
returns-in-Err c = by-refused _ _ _ _ c.in-Err.ensures _ refl (c.number.ensures, refl)

pub returns-in-Ok : goal.returns-in-Ok
returns-in-Ok c = by-accepted _ _ _ _ c.in-Ok.ensures refl c.round_railway.ensures
