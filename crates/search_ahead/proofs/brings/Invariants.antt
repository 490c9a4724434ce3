-- `search_ahead::brings` meets its contract. The loop's invariant: nothing gains that is before the frontier by the weight of
-- one of the first t trains. Assumes nothing.
use Rattle.solver_rounds.specs.Visits.{MarkedFor, Weighed}
use Rattle.search_ahead.specs.Bringing.{Looking}
use Rattle.search_ahead.proofs.Telling.{RestsTo}
use Rattle.search_ahead.proofs.brings.Given as goal

abbrev pub invariant-loop-t : goal.invariant-loop-t
invariant-loop-t l =
    RestsTo (λ r. Looking r l.look × MarkedFor r l.look.n l.look.figures.now l.marks) l.look.n l.look.figures.now
    (λ r i. Weighed r l.look.n l.look.figures.now 0 l.look.m i) l.t
