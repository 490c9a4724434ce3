-- `plan_emitter::next_code` meets its contract. The loop's invariant: no placement from c on before p has a figure.
-- Assumes nothing.
use mathlib.Core.Path.{◌≡◌}
use mathlib.Core.Bool.{false}
use Rattle.laws.specs.Below.{any_below}
use Rattle.plan.specs.Emitter.{figure_from}
use Rattle.plan_emitter.proofs.next_code.Given as goal

abbrev pub invariant-loop-p : goal.invariant-loop-p
invariant-loop-p l = any_below (figure_from l.figures l.c) l.p ≡ false
