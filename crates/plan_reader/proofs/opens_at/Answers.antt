-- `plan_reader::opens_at` meets its contract. The loop's invariant: what is to be read from here on is what was to be read where the loop began, and the
-- bits so far are below the next train's.
-- Assumes nothing.
use native.Mathlib.Omega.{arith}
use mathlib.Core.Path.{sym, ◌∙◌}
use Rattle.plan_reader.proofs.Taking.{opens-yes, opens_not, opens-none, opens-some, opens-zero}
use Rattle.plan_reader.proofs.opens_at.Goals as goal
use Rattle.plan_reader.proofs.opens_at.Goals.{then-peek-t, else-peek-t}

pub returns-then-peek-eq48 : goal.returns-then-peek-eq48
returns-then-peek-eq48 c = opens-zero _ _ _ (sym c.peek.ensures ∙ c.if-peek-eq48.true)

pub loop-t-preserved : goal.loop-t-preserved
loop-t-preserved c =
    elim c.if-peek-t.branch [
      | then-peek-t w ↦ rw (w.v-is, w.at-is) (opens-yes _ _ _ _ _ _ c.loop-t.invariant c.requires c.loop-t-test.true (sym c.peek-in-loop-t.ensures ∙ w.if-peek-t.true))
      | else-peek-t w ↦ rw (w.v-is, w.at-is) (opens_not _ _ _ _ _ _ c.loop-t.invariant c.requires c.loop-t-test.true (λ e. w.if-peek-t.false (c.peek-in-loop-t.ensures ∙ e)))
    ]

pub returns-then-v-eq0 : goal.returns-then-v-eq0
returns-then-v-eq0 c =
    opens-none _ _ _ _ _ _ c.loop-t.invariant c.requires (omega arith)
    (λ e. c.if-peek-eq48.false (c.peek.ensures ∙ e)) (omega (arith, c.if-v-eq0.true))

pub returns : goal.returns
returns c =
    opens-some _ _ _ _ _ _ c.loop-t.invariant c.requires (omega arith)
    (λ e. c.if-peek-eq48.false (c.peek.ensures ∙ e)) c.if-v-eq0.false
