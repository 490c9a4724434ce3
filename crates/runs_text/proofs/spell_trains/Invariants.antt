-- `runs_text::spell_trains` meets its contract. The loop's invariant: the lines of the trains below t are written, and the buffer is as long as it was. Assumes nothing.
use mathlib.Core.Path.{◌≡◌}
use lib.ListN.{length, get_or}
use Rattle.laws.specs.Below.{gather_below}
use Rattle.text.specs.Appending.{Appended}
use Rattle.runs_text.specs.Written.{run_line}
use Rattle.runs_text.proofs.spell_trains.Given as goal

abbrev pub invariant-loop-t : goal.invariant-loop-t
invariant-loop-t l = Appended l.initial.out 0 (gather_below (λ i. run_line i (get_or l.runs i 0)) l.t) l.out l.next × (length l.out ≡ length l.initial.out)
