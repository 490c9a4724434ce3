-- `solver_rounds::first_figure` meets its contract: home's code is that of home, which is not lost, and who has another code
-- is not home. Assumes nothing.
use Rattle.solver_rounds.proofs.Entries.{first_home, first-other}
use Rattle.solver_rounds.proofs.first_figure.Goals as goal

pub returns-then-p-home : goal.returns-then-p-home
returns-then-p-home c = λ r a e l. first_home r _ _ a e c.if-p-home.true

pub returns-else-p-home : goal.returns-else-p-home
returns-else-p-home c = λ r a e l. first-other r _ _ a e l c.if-p-home.false
