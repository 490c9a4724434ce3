-- `plan_lines::put_trains` meets its contract. The loop's invariant: the pieces before t are written, and the buffer is as long as it was.
-- Assumes nothing.
use mathlib.Core.Path.{◌≡◌}
use lib.ListN.{length}
use Rattle.laws.specs.Below.{gather_below}
use Rattle.text.specs.Appending.{Appended}
use Rattle.game_tables.specs.Entries.{opens_in}
use Rattle.plan_lines.specs.Spelling.{open_piece}
use Rattle.plan_lines.proofs.put_trains.Given as goal

abbrev pub invariant-loop-t : goal.invariant-loop-t
invariant-loop-t l = Appended l.initial.out l.at (gather_below (open_piece (opens_in l.v)) l.t) l.out l.next × (length l.out ≡ length l.initial.out)
