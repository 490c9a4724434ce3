-- `plan_checker::Checker::fresh` meets its contract: the tables are made fresh, and the checker has taken no line.
-- Assumes nothing.
use mathlib.Core.Path.{refl}
use Rattle.plan_checker.proofs.Checker.fresh.Goals as goal

pub returns : goal.returns
returns c = c.freshen.ensures _ refl
