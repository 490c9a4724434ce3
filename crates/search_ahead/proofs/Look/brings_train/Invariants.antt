-- `search_ahead::Look::brings_train` meets its contract. The loop's invariant: none of the placements with the train put back by the
-- first j ways gains. Where there is no way with number j, or j has come to the most ways, those are all.
-- Assumes nothing.
use Rattle.solver_predecessors.specs.Behind.{BackBy}
use Rattle.solver_rounds.specs.Visits.{MoverOf}
use Rattle.search_ahead.specs.Bringing.{Looking}
use Rattle.search_ahead.proofs.Telling.{RestsTo}
use Rattle.search_ahead.proofs.Look.brings_train.Given as goal

abbrev pub invariant-loop-j : goal.invariant-loop-j
invariant-loop-j l =
    RestsTo (λ r. Looking r l.self × MoverOf r l.self.table.now l.self.behind.now l.mover) l.self.n l.self.figures.now
    (λ r i. BackBy r l.mover.code l.mover.train l.x i) l.j
