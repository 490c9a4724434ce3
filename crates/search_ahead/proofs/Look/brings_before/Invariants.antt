-- `search_ahead::Look::brings_before` meets its contract. The loop's invariant: nothing gains that is before the placement by the
-- first t trains. Assumes nothing.
use Prim.Native.Nat.{◌<◌}
use Rattle.game.specs.Placement.{placements}
use Rattle.solver_rounds.specs.Visits.{Comes}
use Rattle.search_ahead.specs.Bringing.{Looking}
use Rattle.search_ahead.proofs.Telling.{RestsTo}
use Rattle.search_ahead.proofs.Look.brings_before.Given as goal

abbrev pub invariant-loop-t : goal.invariant-loop-t
invariant-loop-t l = RestsTo (λ r. Looking r l.self × (l.c < placements r)) l.self.n l.self.figures.now (λ r i. Comes r l.w l.c i) l.t
