-- `search_api::look_railway` meets its contract: what the searcher answers for the search and the placement that the numbers stand for. Assumes nothing.
use mathlib.Core.Path.{refl}
use Rattle.search_api.proofs.Exported.{looked-railway}
use Rattle.search_api.proofs.look_railway.Goals as goal

pub returns-in-Ok-Figure : goal.returns-in-Ok-Figure
returns-in-Ok-Figure c =
    looked-railway c.args.r c.args.state.now c.args.figures.now c.args.settings.now c.args.sections.now c.args.figure.now _
    c.search_of-search.ensures _ c.placement_of-at.ensures _ c.look_up.ensures.answers _ (rw c.in-Ok-Figure.field-0-is at c.in-Ok-Figure.is) _ refl

pub returns-in-Ok-NotYet : goal.returns-in-Ok-NotYet
returns-in-Ok-NotYet c =
    looked-railway c.args.r c.args.state.now c.args.figures.now c.args.settings.now c.args.sections.now c.args.figure.now _
    c.search_of-search.ensures _ c.placement_of-at.ensures _ c.look_up.ensures.answers _
    (rw c.in-Ok-NotYet.field-0-is at c.in-Ok-NotYet.is) _ refl

pub returns-in-Ok-NoFigure : goal.returns-in-Ok-NoFigure
returns-in-Ok-NoFigure c =
    looked-railway c.args.r c.args.state.now c.args.figures.now c.args.settings.now c.args.sections.now c.args.figure.now _
    c.search_of-search.ensures _ c.placement_of-at.ensures _ c.look_up.ensures.answers _
    (rw c.in-Ok-NoFigure.field-0-is at c.in-Ok-NoFigure.is) _ refl

pub returns-in-Err : goal.returns-in-Err
returns-in-Err c =
    looked-railway c.args.r c.args.state.now c.args.figures.now c.args.settings.now c.args.sections.now c.args.figure.now _
    c.search_of-search.ensures _ c.placement_of-at.ensures _ c.look_up.ensures.answers _ c.in-Err.is _
    c.number.ensures
