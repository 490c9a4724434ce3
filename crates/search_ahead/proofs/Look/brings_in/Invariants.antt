-- `search_ahead::Look::brings_in` meets its contract. The loop's invariant: nothing gains that is before one of the codes below c.
-- Assumes nothing.
use Prim.Native.Nat.{◌≤◌}
use Rattle.solver_rounds.specs.Visits.{Ahead}
use Rattle.search_ahead.specs.Bringing.{Looking}
use Rattle.search_ahead.proofs.Telling.{RestsTo}
use Rattle.search_ahead.proofs.Look.brings_in.Given as goal

abbrev pub invariant-loop-c : goal.invariant-loop-c
invariant-loop-c l = RestsTo (λ r. Looking r l.self × (l.fn.codes.upto ≤ l.self.m)) l.self.n l.self.figures.now (λ r i. Ahead r l.self.n l.w l.self.figures.now l.fn.codes.from i) l.c
