-- `plan_checker::Checker::take_line` meets its contract: the line is read and entered.
-- Assumes nothing.
use mathlib.Core.Path.{refl, sym, ◌∙◌}
use Rattle.plan_checker.specs.Answers.{checking}
use Rattle.plan_checker.proofs.Fronts.{some-small, line-taken}
use Rattle.plan_checker.proofs.Checker.take_line.Goals as goal

pub enter-requires : goal.enter-requires
enter-requires c = some-small c.requires c.args.text.now _ (λ r h. sym c.in-Some.is ∙ c.read_line.ensures r h)

pub returns-in-Some : goal.returns-in-Some
returns-in-Some c =
    λ r h fine.
    line-taken r (checking c.args.self.now c.args.figures.now c.args.settings.now) c.args.text.now _ _ fine
    (sym c.in-Some.is ∙ c.read_line.ensures r h) c.enter.ensures

pub returns-in-None : goal.returns-in-None
returns-in-None c =
    λ r h fine.
    line-taken r (checking c.args.self.now c.args.figures.now c.args.settings.now) c.args.text.now _ _ fine
    (sym c.in-None.is ∙ c.read_line.ensures r h) refl
