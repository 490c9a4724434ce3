-- `solver_api::solve_railway` meets its contract: the solver's answer by its number. Assumes nothing.
use mathlib.Core.Path.{refl}
use Rattle.solver_api.proofs.Exported.{solved-railway, solved-zero}
use Rattle.solver_api.proofs.solve_railway.Goals as goal

pub returns-in-Err : goal.returns-in-Err
returns-in-Err c =
    solved-railway c.args.r c.args.figures.now c.args.settings.now _ _ _ c.solve.ensures _
    c.in-Err.is _ c.number.ensures

pub returns-in-Ok : goal.returns-in-Ok
returns-in-Ok c =
    solved-railway c.args.r c.args.figures.now c.args.settings.now _ _ _ c.solve.ensures _
    c.in-Ok.is _ (solved-zero c.in-Ok.field-0)
