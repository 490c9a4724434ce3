-- `plan_checker::Checker::take` meets its contract: the case is refused, or the line taken or refused.
-- Assumes nothing.
use mathlib.Core.Path.{refl}
use Rattle.std.proofs.lemmas.Result.{err_from_is_err_and}
use Rattle.plan.specs.Steps.{refuse}
use Rattle.plan_checker.specs.Answers.{checking}
use Rattle.plan_checker.proofs.Calling.{line_refused}
use Rattle.plan_checker.proofs.Fronts.{table-of, line-so}
use Rattle.plan_checker.proofs.Checker.take.Goals as goal

pub returns-in_err-case : goal.returns-in_err-case
returns-in_err-case c =
    let p = err_from_is_err_and c.from_residual.result c.from_residual.ensures.1 in
    let k = checking c.args.self.now c.args.figures.now c.args.settings.now in
    rw (p.1, p.2) (line_refused c.args.r k _ c.in_err-case.ensures c.args.text.now _ refl (refuse k _) refl)

pub take_line-requires : goal.take_line-requires
take_line-requires c = table-of c.in_ok-case.ensures refl

pub returns : goal.returns
returns c =
    line-so c.args.r (checking c.args.self.now c.args.figures.now c.args.settings.now) c.args.text.now c.in_ok-case.ensures refl _
    c.take_line.ensures
