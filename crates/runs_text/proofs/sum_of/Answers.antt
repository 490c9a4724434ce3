-- `runs_text::sum_of` meets its contract. The loop's invariant: the sum of the runs below t, which is at most 255 for each. Assumes nothing.
use native.Mathlib.Omega.{arith}
use mathlib.Core.Path.{refl}
use Rattle.laws.specs.Below.{sum_below}
use Rattle.runs_text.proofs.Reading.{sum-next}
use Rattle.runs_text.proofs.sum_of.Goals as goal

pub loop-t-init : goal.loop-t-init
unfolding sum_below
loop-t-init c = (refl, omega arith)

pub overflow_add-sum : goal.overflow_add-sum
overflow_add-sum c = omega (arith, c.loop-t.invariant.1, c.requires)

pub loop-t-preserved : goal.loop-t-preserved
loop-t-preserved c = (sum-next c.args.runs c.loop-t.t _ _ c.loop-t.invariant.0 c.from-sum.ensures, omega (arith, c.loop-t.invariant.1))
