-- `desk_io::follow_plan` meets its contract. The loop's invariant: what has been written is all that is written for the lines so far (`Listened`), and the tables are as long as they were. It
-- ends, for its turns are counted.
-- Assumes nothing.
use mathlib.Core.Path.{◌≡◌}
use Prim.Native.Nat.{◌-◌}
use lib.ListN.{length}
use Rattle.game_tables.specs.Lengths.{entries}
use Rattle.desk_calls.specs.Answers.{desk_at}
use Rattle.desk_io.specs.Session.{panel_of}
use Rattle.desk_io.proofs.Followed.{Listened}
use Rattle.desk_io.proofs.follow_plan.Given as goal

abbrev pub invariant-loop-going : goal.invariant-loop-going
invariant-loop-going l = Listened l.initial.railway l.initial.figures l.initial.settings (panel_of l.railway l.figures l.settings (desk_at l.desk)) l.bytes l.going l.turns × (length l.figures ≡ entries) × (length l.settings ≡ entries)

abbrev pub decreases-loop-going : goal.decreases-loop-going
decreases-loop-going l = 72057594037927937 - l.turns
