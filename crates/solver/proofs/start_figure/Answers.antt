-- `solver::start_figure` meets its contract: the entry at the start's code, read as a figure.
-- Assumes nothing.
use Rattle.solver.proofs.Answering.{start_none, start-some}
use Rattle.solver.proofs.start_figure.Goals as goal

pub returns-then-f : goal.returns-then-f
returns-then-f c = λ r h. start_none r c.args.figures.now _ _ (c.start_code.ensures r h) c.entry_at-f.ensures c.if-f.true

pub returns : goal.returns
returns c = λ r h. start-some r c.args.figures.now _ _ (c.start_code.ensures r h) c.entry_at-f.ensures c.if-f.false
