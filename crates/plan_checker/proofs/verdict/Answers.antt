-- `plan_checker::verdict` meets its contract, by the state and the test of a plan.
-- Assumes nothing.
use Rattle.plan_checker.specs.Answers.{checking}
use Rattle.plan_checker.proofs.Calling.{verdict-early, verdict-pass, verdict-fault}
use Rattle.plan_checker.proofs.verdict.Goals as goal

pub returns-then-test_holds : goal.returns-then-test_holds
returns-then-test_holds c =
    λ r k h w.
    verdict-pass r (checking k c.args.figures.now c.args.settings.now) c.args.state _ _ c.in-Begun.is _
    (c.test_holds.ensures r h w) c.if-test_holds.true

pub returns-in-Fresh : goal.returns-in-Fresh
returns-in-Fresh c =
    λ r k h w.
    verdict-early r (checking k c.args.figures.now c.args.settings.now) c.args.state c.in-Fresh.is

pub returns-else-test_holds : goal.returns-else-test_holds
returns-else-test_holds c =
    λ r k h w.
    verdict-fault r (checking k c.args.figures.now c.args.settings.now) c.args.state _ _ c.in-Begun.is _
    (c.test_holds.ensures r h w) c.if-test_holds.false
