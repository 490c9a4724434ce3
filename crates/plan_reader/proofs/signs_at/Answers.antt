-- `plan_reader::signs_at` meets its contract. The loop's invariant: what is to be read from here on is what was to be read where the loop began, and the
-- bits so far are below the next point's.
-- Assumes nothing.
use native.Mathlib.Omega.{arith}
use mathlib.Core.Path.{sym, ◌∙◌}
use Rattle.plan_reader.proofs.Taking.{signs-plus, signs-minus, signs-none, signs-end}
use Rattle.plan_reader.proofs.signs_at.Goals as goal
use Rattle.plan_reader.proofs.signs_at.Goals.{then-b-eq43, else-b-eq43+else-b-ne45}

pub returns-then-b-ne45 : goal.returns-then-b-ne45
returns-then-b-ne45 c =
    signs-none _ _ _ _ _ _ c.loop-i.invariant c.loop-i-test.true c.requires
    (λ h. c.if-b-eq43.false (c.peek-b.ensures ∙ h)) (λ h. c.if-b-ne45.true (c.peek-b.ensures ∙ h))

pub loop-i-preserved : goal.loop-i-preserved
loop-i-preserved c =
    elim c.if-b-eq43.branch [
      | then-b-eq43 w ↦ rw w.v-is (signs-plus _ _ _ _ _ _ c.loop-i.invariant c.loop-i-test.true c.requires (sym c.peek-b.ensures ∙ w.if-b-eq43.true))
      | else-b-eq43+else-b-ne45 w ↦ rw w.v-is (signs-minus _ _ _ _ _ _ c.loop-i.invariant c.loop-i-test.true c.requires (sym c.peek-b.ensures ∙ w.if-b-ne45.false))
    ]

pub returns : goal.returns
returns c = signs-end _ _ _ _ _ _ c.loop-i.invariant (omega arith)
