-- `plan_checker::Checker::test` meets its contract: the case is refused, or the lines taken are tested.
-- Assumes nothing.
use mathlib.Core.Path.{refl}
use Rattle.std.proofs.lemmas.Result.{err_from_is_err_and}
use Rattle.game_case.proofs.Cases.{opened-table}
use Rattle.plan_checker.specs.Answers.{checking}
use Rattle.plan_checker.proofs.Calling.{test-refused, test-judged}
use Rattle.plan_checker.proofs.Checker.test.Goals as goal

pub returns-in_err-tested : goal.returns-in_err-tested
returns-in_err-tested c =
    let p = err_from_is_err_and c.from_residual.result c.from_residual.ensures.1 in
    rw (p.1, p.2)
    (test-refused c.args.r (checking c.args.self.now c.args.figures.now c.args.settings.now) _ c.in_err-tested.ensures _ refl)

pub returns : goal.returns
returns c =
    test-judged c.args.r (checking c.args.self.now c.args.figures.now c.args.settings.now) _ c.in_ok-tested.ensures refl _
    (c.verdict.ensures c.args.r c.args.self.now (opened-table c.in_ok-tested.ensures refl) c.case_ways-ways.ensures)
