-- `runs_text::spell_trains` meets its contract. The loop's invariant: the lines of the trains below t are written, and the buffer is as long as it was. Assumes nothing.
use mathlib.Core.Path.{refl, ◌∙◌}
use lib.ListN.{get_or}
use Rattle.text.proofs.Appending.{pieces_none, pieces-next}
use Rattle.runs_text.specs.Written.{run_line}
use Rattle.runs_text.proofs.spell_trains.Goals as goal

pub loop-t-init : goal.loop-t-init
loop-t-init c = (pieces_none (λ i. run_line i (get_or c.args.runs i 0)), refl)

pub loop-t-preserved : goal.loop-t-preserved
loop-t-preserved c = (pieces-next (λ i. run_line i (get_or c.args.runs i 0)) c.loop-t.t c.loop-t.invariant.0 c.spell_run-next.ensures, c.spell_run-next.auto.out ∙ c.loop-t.invariant.1)
