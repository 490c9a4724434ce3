-- `plan_checker::Checker::begin` meets its contract, by the state.
-- Assumes nothing.
use mathlib.Core.Path.{refl}
use Rattle.plan_checker.specs.Answers.{checking}
use Rattle.plan_checker.proofs.Steps.{start_first, start-again}
use Rattle.plan_checker.proofs.Checker.begin.Goals as goal

pub returns-in-Fresh : goal.returns-in-Fresh
returns-in-Fresh c = λ figs sets. start_first (checking c.args.self.now figs sets) c.args.self.now.state _ c.args.n c.in-Fresh.is refl

pub returns-in-Begun : goal.returns-in-Begun
returns-in-Begun c = λ figs sets. start-again (checking c.args.self.now figs sets) c.args.self.now.state _ c.args.n _ _ c.in-Begun.is refl
