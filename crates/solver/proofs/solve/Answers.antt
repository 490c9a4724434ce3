-- `solver::solve` meets its contract: the case is refused before anything is written, or both tables are filled.
-- Assumes nothing.
use Rattle.std.proofs.Common.{refl}
use Rattle.std.proofs.lemmas.Result.{err_from_is_err_and}
use Rattle.solver.proofs.Answering.{room, answer-refused, answer-solved}
use Rattle.solver.proofs.solve.Goals as goal

pub fill-requires : goal.fill-requires
fill-requires c =
    let all = room c.args.r c.args.figures.now c.args.settings.now _ c.in_ok-table.ensures refl _ c.placements-m.ensures in
    record { m_le_most_codes = all.0; m_in_bounds = all.1 }

pub returns-in_err-table : goal.returns-in_err-table
returns-in_err-table c =
    let p = err_from_is_err_and c.from_residual.result c.from_residual.ensures.1 in
    rw (p.1, p.2) (answer-refused c.args.r c.args.figures.now c.args.settings.now _ c.in_err-table.ensures _ refl)

pub returns : goal.returns
returns c =
    answer-solved c.args.r c.args.figures.now c.args.settings.now _ c.in_ok-table.ensures
    refl _ c.placements-m.ensures _ _ _
    (λ h e. c.fill.ensures c.args.r h c.case_ways-ways.ensures c.ways_behind-behind.ensures e)
    c.start_figure.ensures
