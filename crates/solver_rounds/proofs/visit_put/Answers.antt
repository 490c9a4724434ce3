-- `solver_rounds::visit_put` meets its contract: the placement waits for a visit and gets one, or does not. Assumes nothing.
use Rattle.solver_rounds.proofs.Retracing.{one-visit}
use Rattle.solver_rounds.proofs.visit_put.Goals as goal

pub returns : goal.returns
returns c =
    λ r d o on lt there is.
    one-visit o c.args.mover.code c.args.mover.train c.args.y c.args.p there is c.args.mover.placement _ on lt _
    c.waits.ensures c.if-not-waits.false c.put_on-q.ensures c.visit.ensures
