-- `solver_settings::least_way` meets its contract. The loop's invariant: the smallest bits that suit one of the first j ways, if it is a good one.
-- Assumes nothing.
use Prim.Native.Nat.{ℕ, ◌<◌}
use Rattle.railway.specs.declared.Railway.{Railway}
use Rattle.game_tables.specs.Tables.{figure_in}
use Rattle.solver_settings.specs.Search.{Looks, no_bits, Smallest, ways_of, OnWay}
use Rattle.solver_settings.proofs.Search.{Tried}
use Rattle.solver_settings.proofs.least_way.Given as goal

abbrev pub invariant-loop-j : goal.invariant-loop-j
invariant-loop-j l =
    (r : Railway) (p : ℕ) → Looks r p l.table l.ways l.aim.placement l.aim.code → l.t < r.trains
    → Smallest (Tried (OnWay r (figure_in l.figures) p l.aim.figure l.t) (ways_of r p l.t) l.j) r.points no_bits l.best
