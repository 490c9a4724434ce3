-- `solver_api::take_railway` meets its contract: what the checker answers that the numbers stand for, and the next one in numbers. Assumes nothing.
use Rattle.solver_api.proofs.Plans.{taken_refused, taken-railway}
use Rattle.solver_api.proofs.take_railway.Goals as goal

pub returns-in-Err : goal.returns-in-Err
returns-in-Err c =
    taken_refused c.args.r c.args.state.now c.args.figures.now c.args.settings.now c.args.plan.now c.args.bytes.now _
    c.checker_of-checker.ensures _ _ _ _ c.take_front.ensures _ c.in-Err.is _ c.number.ensures

pub returns-in-Ok : goal.returns-in-Ok
returns-in-Ok c =
    taken-railway c.args.r c.args.state.now c.args.figures.now c.args.settings.now c.args.plan.now c.args.bytes.now _
    c.checker_of-checker.ensures _ _ _ _ c.take_front.ensures _ c.in-Ok.is _ c.state_numbers.ensures
