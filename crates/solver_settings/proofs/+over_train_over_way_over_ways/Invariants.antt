-- `solver_settings::over_train`, `over_ways` and `over_way` meet their contracts. They call each other with one train less ahead. The loop's invariant in `over_ways`:
-- the smallest bits with train t on one of the first j ways. A way is left out where the union of the wants does not suit both parts, for then nothing does.
-- Assumes nothing.
use Prim.Native.Nat.{ℕ, ◌*◌, ◌-◌}
use Rattle.railway.specs.declared.Railway.{Railway}
use Rattle.game_tables.specs.Tables.{figure_in}
use Rattle.solver_settings.specs.Search.{Asked, Smallest, ways_of, Placed, ByWay}
use Rattle.solver_settings.proofs.Search.{Tried}
use Rattle.solver_settings.proofs.+over_train_over_way_over_ways.Given as goal

-- THE MEASURES: three times the trains ahead, and less by one or two on the way to the next train
abbrev pub decreases-over_train : goal.decreases-over_train
decreases-over_train l = 3 * (l.aim.trains - l.t)

abbrev pub decreases-over_way : goal.decreases-over_way
decreases-over_way l = 3 * (l.aim.trains - l.t) - 2

abbrev pub decreases-over_ways : goal.decreases-over_ways
decreases-over_ways l = 3 * (l.aim.trains - l.t) - 1

abbrev pub invariant-over_ways-loop-j : goal.invariant-over_ways-loop-j
invariant-over_ways-loop-j l =
    (r : Railway) (p : ℕ) → Asked r p l.table l.ways l.aim.placement l.aim.code l.aim.trains → Placed r l.sum.care l.sum.want
    → Smallest (Tried (ByWay r (figure_in l.figures) p l.aim.figure l.t l.sum.care l.sum.want) (ways_of r p l.t) l.j)
    r.points l.sum.best l.least
