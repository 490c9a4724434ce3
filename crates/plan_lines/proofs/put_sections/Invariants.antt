-- `plan_lines::put_sections` meets its contract. The loop's invariant: the pieces before t are written, and the buffer is as long as it was.
-- Assumes nothing.
use mathlib.Core.Path.{◌≡◌}
use lib.ListN.{length}
use Rattle.laws.specs.Below.{gather_below}
use Rattle.text.specs.Appending.{Appended}
use Rattle.plan_lines.specs.Spelling.{section_piece}
use Rattle.plan_lines.proofs.put_sections.Given as goal

abbrev pub invariant-loop-t : goal.invariant-loop-t
invariant-loop-t l = Appended l.initial.out l.at (gather_below (section_piece l.q) l.t) l.out l.next × (length l.out ≡ length l.initial.out)
