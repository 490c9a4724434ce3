-- `solver_rounds::visit_weighing` meets its contract: the train has another weight, or its moves back are visited.
-- Assumes nothing.
use Rattle.solver_rounds.proofs.Visits.{visited-less}
use Rattle.solver_rounds.proofs.visit_weighing.Goals as goal

pub returns : goal.returns
returns c = λ r d g o. visited-less (c.visit_train.ensures r d g o) (λ q l k. k.by)
