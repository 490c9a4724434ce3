-- `search_api::open_railway` meets its contract: what the searcher answers that opens a search, and the search in numbers. Assumes nothing.
use mathlib.Core.Path.{refl}
use Rattle.search_api.proofs.Exported.{opened-refused, opened-railway}
use Rattle.search_api.proofs.open_railway.Goals as goal

pub returns-in-Err : goal.returns-in-Err
returns-in-Err c =
    opened-refused c.args.r c.args.state.now c.args.figures.now c.args.settings.now c.args.marks.now _ _ _ _ _
    c.in-Err.ensures _ refl _ c.number.ensures

pub returns-in-Ok : goal.returns-in-Ok
returns-in-Ok c =
    opened-railway c.args.r c.args.state.now c.args.figures.now c.args.settings.now c.args.marks.now _ _ _ _ _
    c.in-Ok.ensures refl _ c.search_numbers.ensures
