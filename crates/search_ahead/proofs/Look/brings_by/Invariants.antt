-- `search_ahead::Look::brings_by` meets its contract: a lower train has the weight, or each stretch is looked at that is due by it.
-- The loop's invariant: nothing gains that is before one of the codes below c. Assumes nothing.
use Prim.Native.Nat.{◌-◌, ◌<◌}
use Rattle.railway.specs.Record.{weight_of}
use Rattle.solver_rounds.specs.Visits.{First, MarkedFor, Ahead}
use Rattle.search_ahead.specs.Bringing.{Looking}
use Rattle.search_ahead.proofs.Telling.{RestsTo}
use Rattle.search_ahead.proofs.Look.brings_by.Given as goal

abbrev pub invariant-loop-c : goal.invariant-loop-c
invariant-loop-c l =
    RestsTo (λ r. Looking r l.self × MarkedFor r l.self.n l.self.figures.now l.marks × (l.t < r.trains) × First r l.t)
    l.self.n l.self.figures.now (λ r i. Ahead r l.self.n (weight_of r l.t) l.self.figures.now 0 i) l.c

abbrev pub decreases-loop-c : goal.decreases-loop-c
decreases-loop-c l = l.self.m - l.c
