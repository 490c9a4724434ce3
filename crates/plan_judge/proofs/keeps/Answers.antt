-- `plan_judge::keeps` meets its contract: both of its halves.
-- Assumes nothing.
use Rattle.plan_judge.proofs.Testing.{none-keeps, some-keeps}
use Rattle.plan_judge.proofs.keeps.Goals as goal

pub returns-then-some_may : goal.returns-then-some_may
returns-then-some_may c =
    λ r p on w.
    some-keeps r c.args.figures.now p c.args.v c.args.n _ (c.some_may.ensures r p on) _ c.if-some_may.true
    (c.all_within.ensures r p on w)

pub returns-else-some_may : goal.returns-else-some_may
returns-else-some_may c =
    λ r p on w.
    none-keeps r c.args.figures.now p c.args.v c.args.n _ (c.some_may.ensures r p on) c.if-some_may.false
