-- `plan_lines::put_signs` meets its contract. The loop's invariant: the pieces before n are written, and the buffer is as long as it was.
-- Assumes nothing.
use mathlib.Core.Path.{◌≡◌}
use lib.ListN.{length}
use Rattle.laws.specs.Below.{gather_below}
use Rattle.text.specs.Appending.{Appended}
use Rattle.laws.specs.Bits.{bit}
use Rattle.plan_lines.specs.Spelling.{point_piece}
use Rattle.plan_lines.proofs.put_signs.Given as goal

abbrev pub invariant-loop-n : goal.invariant-loop-n
invariant-loop-n l = Appended l.initial.out l.at (gather_below (point_piece (bit l.v)) l.n) l.out l.next × (length l.out ≡ length l.initial.out)
