-- `solver_rounds::visit_before` meets its contract. The loop's invariant: what is before the placement by the first t trains
-- has been visited, and the stride is that of train t. Assumes nothing.
use native.Mathlib.Omega.{arith}
use mathlib.Core.Path.{◌∙◌, ap}
use Prim.Native.Nat.{ℕ}
use Rattle.game_moves.specs.Steps.{stride_of}
use Rattle.solver_rounds.proofs.Loops.{visited-to-next, visited-to-end}
use Rattle.solver_rounds.proofs.Loops.{train-next, all-trains, train-there}
use Rattle.solver_rounds.proofs.visit_before.Goals as goal

pub loop-t-preserved : goal.loop-t-preserved
loop-t-preserved c = (
  visited-to-next c.loop-t.invariant.0
      c.visit_weighing.auto.figures c.visit_weighing.auto.settings
      c.visit_weighing.auto.marks
      (λ r d h o.
      c.visit_weighing.ensures r d
      (record {
        laid = o.back;
        on = c.placement_of-q.ensures r o.compiled;
        code = omega (arith, c.requires.2, o.counted);
        train = train-there r _ _ (c.trains_in-t-end.ensures r o.compiled) c.loop-t-test.true;
        stride = c.loop-t.invariant.1 ∙ ap (λ (x : ℕ). stride_of x c.loop-t.t) (c.sections_in-s.ensures r o.compiled);
      })
      o)
      (λ r d h s o q lq x. train-next c.loop-t.t x),
  c.next_stride-stride.ensures c.loop-t.invariant.1,
)

pub returns : goal.returns
returns c =
    λ r d o.
    visited-to-end c.loop-t.invariant.0
    (λ r d h o q l x. all-trains (c.trains_in-t-end.ensures r o.compiled) c.loop-t-test.false x)
    r d tt o
