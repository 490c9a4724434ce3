-- `solver_rounds::round_by` meets its contract: a lower train has the weight, no stretch is due by it, or each has its turn.
-- The loop's invariant: the stretches of the codes below c have had theirs, and a stretch begins with c.
-- Assumes nothing.
use native.Mathlib.Omega.{arith}
use Rattle.game.proofs.Accepted.{facts}
use Rattle.solver_rounds.proofs.Rounds.{stretches-next, weight-rests}
use Rattle.solver_rounds.proofs.Rounds.{weight-not-due}
use Rattle.solver_rounds.proofs.round_by.Goals as goal

pub returns-then-n-eq0 : goal.returns-then-n-eq0
returns-then-n-eq0 c =
    λ r o runs.
    weight-rests o
    (λ q l k. omega (arith, c.if-n-eq0.true, k.ahead.makes, ((facts r o.compiled.accepted).weights c.args.t runs).0))

pub returns-then-n-next_due : goal.returns-then-n-next_due
returns-then-n-next_due c =
    λ r o runs.
    weight-rests o (weight-not-due o runs _ c.next_due.ensures.1 c.if-n-next_due.true c.if-n-eq0.false)

pub loop-c-preserved : goal.loop-c-preserved
loop-c-preserved c = (
  stretches-next c.loop-c.invariant.0 c.stretch_end-upto.ensures.1
      c.visit_stretch.auto.figures c.visit_stretch.auto.settings
      c.visit_stretch.auto.marks
      (λ r o runs first. c.visit_stretch.ensures r o runs first c.stretch_end-upto.ensures.2),
  c.stretch_end-upto.ensures.3,
)
