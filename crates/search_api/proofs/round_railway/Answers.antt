-- `search_api::round_railway` meets its contract: what the searcher answers for the search that the numbers stand for, and the next one in numbers. Assumes nothing.
use mathlib.Core.Path.{refl}
use Rattle.search.specs.SearchAnswer.{Going, Ended}
use Rattle.search_api.proofs.Exported.{rounded-refused, rounded-railway}
use Rattle.search_api.proofs.round_railway.Goals as goal

pub returns-in-Err : goal.returns-in-Err
returns-in-Err c =
    rounded-refused c.args.r c.args.state.now c.args.figures.now c.args.settings.now c.args.marks.now _
    c.search_of-search.ensures _ _ _ _ _ c.round.ensures _ c.in-Err.is _ c.number.ensures

pub returns-in-Ok-Going : goal.returns-in-Ok-Going
returns-in-Ok-Going c =
    rounded-railway c.args.r c.args.state.now c.args.figures.now c.args.settings.now c.args.marks.now _
    c.search_of-search.ensures _ _ _ _ _ c.round.ensures Going (rw c.in-Ok-Going.field-0-is at c.in-Ok-Going.is) refl _
    c.search_numbers.ensures

pub returns-in-Ok-Ended : goal.returns-in-Ok-Ended
returns-in-Ok-Ended c =
    rounded-railway c.args.r c.args.state.now c.args.figures.now c.args.settings.now c.args.marks.now _
    c.search_of-search.ensures _ _ _ _ _ c.round.ensures Ended (rw c.in-Ok-Ended.field-0-is at c.in-Ok-Ended.is) refl _
    c.search_numbers-in-Ok-Ended.ensures
