-- `solver_api::begin_railway` meets its contract: what the checker answers that makes the tables fresh, its state in numbers. Assumes nothing.
use Rattle.solver_api.proofs.Plans.{begun-refused, begun-railway}
use Rattle.solver_api.proofs.begin_railway.Goals as goal

pub returns-in-Err : goal.returns-in-Err
returns-in-Err c =
    begun-refused c.args.r c.args.state.now c.args.figures.now c.args.settings.now _ _ _ _ c.fresh-begun.ensures _
    c.in-Err.is _ c.number.ensures

pub returns-in-Ok : goal.returns-in-Ok
returns-in-Ok c =
    begun-railway c.args.r c.args.state.now c.args.figures.now c.args.settings.now _ _ _ _ c.fresh-begun.ensures
    c.in-Ok.is _ c.state_numbers.ensures
