-- `search_ahead::Look::brings_in` meets its contract. The loop's invariant: nothing gains that is before one of the codes below c.
-- Assumes nothing.
use native.Mathlib.Omega.{arith}
use Rattle.solver_rounds.proofs.Loops.{no-code, codes-less, before-one, too-heavy}
use Rattle.search_ahead.proofs.Telling.{told-yes, told-no, told_none, rests-start, rests-next, rests-end}
use Rattle.search_ahead.proofs.Ranges.{codes-part, other-figure}
use Rattle.search_ahead.proofs.Look.brings_in.Goals as goal
use Rattle.search_ahead.proofs.Look.brings_in.Goals.{then-entry_at-last+else-brings_before, else-entry_at-last}

pub returns-then-self-w : goal.returns-then-self-w
returns-then-self-w c = λ r o l. told_none (λ q lq k. too-heavy c.if-self-w.true k)

pub loop-c-init : goal.loop-c-init
loop-c-init c = rests-start (λ r q k. no-code k)

pub returns-then-brings_before : goal.returns-then-brings_before
returns-then-brings_before c =
    λ r o upto.
    told-yes (c.brings_before.ensures r o (omega (arith, c.loop-c-test.true, o.counted))) c.if-brings_before.true

pub loop-c-preserved : goal.loop-c-preserved
loop-c-preserved c =
    rests-next c.loop-c.invariant
    (λ r g.
    elim c.if-entry_at-last.branch [
      | then-entry_at-last+else-brings_before z ↦
          λ q lq k.
          told-no (z.brings_before.ensures r g.0 (omega (arith, c.loop-c-test.true, g.0.counted, g.1))) z.if-brings_before.false q lq
          (before-one c.loop-c.c k)
      | else-entry_at-last z ↦ λ q lq k. absurd (other-figure c.loop-c.c _ c.entry_at.ensures z.if-entry_at-last.false k)
    ])
    (λ r g q lq k. codes-part c.loop-c.c k)

pub returns : goal.returns
returns c = λ r o upto. rests-end c.loop-c.invariant (λ r g q lq k. codes-less c.loop-c-test.false k) r (o, upto)
