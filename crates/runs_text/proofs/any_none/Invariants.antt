-- `runs_text::any_none` meets its contract. The loop's invariant: no train below t is without a run. Assumes nothing.
use mathlib.Core.Path.{◌≡◌}
use mathlib.Core.Bool.{false}
use lib.ListN.{get_or}
use Rattle.laws.specs.Below.{any_below}
use Rattle.runs_text.specs.Written.{is_none}
use Rattle.runs_text.proofs.any_none.Given as goal

abbrev pub invariant-loop-t : goal.invariant-loop-t
invariant-loop-t l = any_below (λ i. is_none (get_or l.runs i 0)) l.t ≡ false
