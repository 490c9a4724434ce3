-- `runs_text::sum_of` meets its contract. The loop's invariant: the sum of the runs below t, which is at most 255 for each. Assumes nothing.
use mathlib.Core.Path.{◌≡◌}
use Prim.Native.Nat.{◌*◌, ◌≤◌}
use lib.ListN.{get_or}
use Rattle.laws.specs.Below.{sum_below}
use Rattle.runs_text.proofs.sum_of.Given as goal

abbrev pub invariant-loop-t : goal.invariant-loop-t
invariant-loop-t l = (l.sum ≡ sum_below (λ i. get_or l.runs i 0) l.t) × (l.sum ≤ 255 * l.t)
