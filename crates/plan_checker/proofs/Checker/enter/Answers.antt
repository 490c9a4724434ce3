-- `plan_checker::Checker::enter` meets its contract, by what was read.
-- Assumes nothing.
use Rattle.std.proofs.Common.{Some}
use mathlib.Core.Path.{ap}
use Rattle.plan_checker.specs.Answers.{checking}
use Rattle.plan_checker.proofs.Steps.{read-start, read-placed, small-code}
use Rattle.plan_checker.proofs.Checker.enter.Goals as goal

pub list-requires : goal.list-requires
list-requires c = small-code _ _ _ _ (ap Some c.in-Placed.is) c.requires

pub returns-in-Start : goal.returns-in-Start
returns-in-Start c =
    read-start (checking c.args.self.now c.args.figures.now c.args.settings.now) c.args.self.now.state _ _ _
    (ap Some c.in-Start.is) (c.begin.ensures c.args.figures.now c.args.settings.now)

pub returns-in-Placed : goal.returns-in-Placed
returns-in-Placed c =
    read-placed (checking c.args.self.now c.args.figures.now c.args.settings.now) c.args.self.now.state _ _ _ _ _
    (ap Some c.in-Placed.is) c.list.ensures
