-- `desk_lines::put_trains` meets its contract. The loop's invariant: the pieces before t are written, and the buffer is as long as it was.
-- Assumes nothing.
use mathlib.Core.Path.{◌≡◌}
use lib.ListN.{length}
use Rattle.laws.specs.Below.{gather_below}
use Rattle.text.specs.Appending.{Appended}
use Rattle.desk_lines.specs.Panel.{train_piece}
use Rattle.desk_lines.proofs.put_trains.Given as goal

abbrev pub invariant-loop-t : goal.invariant-loop-t
invariant-loop-t l = Appended l.initial.out l.at (gather_below (train_piece l.q l.v) l.t) l.out l.next × (length l.out ≡ length l.initial.out)
