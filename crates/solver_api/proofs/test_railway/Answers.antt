-- `solver_api::test_railway` meets its contract: what the checker answers that the numbers stand for. Assumes nothing.
use mathlib.Core.Path.{refl}
use Rattle.solver_api.proofs.Plans.{tested-railway}
use Rattle.solver_api.proofs.test_railway.Goals as goal

pub returns-in-Err : goal.returns-in-Err
returns-in-Err c =
    tested-railway c.args.r c.args.state.now c.args.figures.now c.args.settings.now _ c.checker_of-checker.ensures _ _
    c.test.ensures _ c.in-Err.is _ c.number.ensures

pub returns-in-Ok : goal.returns-in-Ok
returns-in-Ok c =
    tested-railway c.args.r c.args.state.now c.args.figures.now c.args.settings.now _ c.checker_of-checker.ensures _ _
    c.test.ensures _ c.in-Ok.is _ refl
