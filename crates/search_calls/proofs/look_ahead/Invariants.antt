-- `search_calls::look_ahead` meets its contract. The loop's invariant: no round before d brings a figure, and the marks are right for d.
-- Assumes nothing.
use Prim.Native.Nat.{◌+◌, ◌-◌}
use Rattle.game_tables.specs.Rounds.{most_figure}
use Rattle.search_calls.proofs.Looking.{LookedTo}
use Rattle.search_calls.proofs.look_ahead.Given as goal

abbrev pub invariant-loop-d : goal.invariant-loop-d
invariant-loop-d l = LookedTo l.table l.ways l.behind l.initial.figures l.initial.settings l.initial.marks l.figures l.settings l.marks l.from l.d

abbrev pub decreases-loop-d : goal.decreases-loop-d
decreases-loop-d l = most_figure + 1 - l.d
