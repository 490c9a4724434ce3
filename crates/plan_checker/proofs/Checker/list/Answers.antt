-- `plan_checker::Checker::list` meets its contract: before the first line, too low, and taken.
-- Assumes nothing.
use mathlib.Core.Path.{refl}
use Rattle.plan_checker.specs.Answers.{checking}
use Rattle.plan_checker.proofs.Steps.{placed-early, placed-low, placed-next}
use Rattle.plan_checker.proofs.Checker.list.Goals as goal

pub returns-then-code-from : goal.returns-then-code-from
returns-then-code-from c =
    placed-low (checking c.args.self.now c.args.figures.now c.args.settings.now) c.args.self.now.state _ c.args.code c.args.n c.args.v _ _
    c.in-Begun.is c.if-code-from.true refl

pub returns-in-Fresh : goal.returns-in-Fresh
returns-in-Fresh c =
    placed-early (checking c.args.self.now c.args.figures.now c.args.settings.now) c.args.self.now.state _ c.args.code c.args.n c.args.v
    c.in-Fresh.is refl

pub returns-else-code-from : goal.returns-else-code-from
returns-else-code-from c =
    placed-next (checking c.args.self.now c.args.figures.now c.args.settings.now) c.args.self.now.state _ c.args.code c.args.n c.args.v _ _
    c.in-Begun.is c.if-code-from.false _ _ c.put.ensures c.put-in-Begun.ensures refl
