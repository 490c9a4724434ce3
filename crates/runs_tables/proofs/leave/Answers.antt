-- `runs_tables::leave` meets its contract: a section at n is left by all its ways, another is passed by. Assumes nothing.
use Rattle.runs_tables.proofs.Steps.{section-left, section-passed}
use Rattle.runs_tables.proofs.leave.Goals as goal

pub returns-then-row-at : goal.returns-then-row-at
returns-then-row-at c = λ r x s h l k. section-left r c.args.heading x s c.args.ways.now h c.args.n l c.args.y _ _ _ c.requires.y_lt_most_sections c.if-row-at.true c.index_of-e.ensures c.enter.ensures k

pub returns-else-row-at : goal.returns-else-row-at
returns-else-row-at c = λ r x s h l k. section-passed r c.args.heading x s c.args.ways.now h c.args.n l c.args.y _ c.requires.y_lt_most_sections c.if-row-at.false k
