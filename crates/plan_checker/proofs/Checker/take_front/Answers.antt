-- `plan_checker::Checker::take_front` meets its contract: the case is refused, or the lines in front are taken.
-- Assumes nothing.
use mathlib.Core.Path.{refl}
use Rattle.std.proofs.lemmas.Result.{err_from_is_err_and}
use Rattle.plan_checker.specs.Answers.{checking}
use Rattle.plan_checker.proofs.Fronts.{table-of, front-refused, front-taken}
use Rattle.plan_checker.proofs.Checker.take_front.Goals as goal

pub returns-in_err-table : goal.returns-in_err-table
returns-in_err-table c =
    let p = err_from_is_err_and c.from_residual.result c.from_residual.ensures.1 in
    rw (p.1, p.2)
    (front-refused c.args.r (checking c.args.self.now c.args.figures.now c.args.settings.now) c.args.text.now c.in_err-table.ensures _ refl)

pub take_lines-requires : goal.take_lines-requires
take_lines-requires c = table-of c.in_ok-table.ensures refl

pub returns : goal.returns
returns c =
    front-taken c.args.r (checking c.args.self.now c.args.figures.now c.args.settings.now) c.args.text.now c.in_ok-table.ensures _ refl
    c.take_lines.ensures
