-- `search_ahead::Look::brings_put` meets its contract: the placement is no code, has a figure, finds nothing, or gains.
-- Assumes nothing.
use Rattle.search_ahead.proofs.Putting.{put-outside, put-figured, put-tells}
use Rattle.search_ahead.proofs.Look.brings_put.Goals as goal

pub returns-then-self-p : goal.returns-then-self-p
returns-then-self-p c =
    λ r o on lt there put.
    put-outside o c.args.self.now.n c.args.mover.code c.args.mover.train c.args.y c.args.p
    there put c.if-self-p.true

pub returns-then-entry_at : goal.returns-then-entry_at
returns-then-entry_at c =
    λ r o on lt there put.
    put-figured o c.args.self.now.n c.args.mover.code c.args.mover.train c.args.y c.args.p
    there put _ c.entry_at.ensures c.if-entry_at.true

pub returns : goal.returns
returns c =
    λ r o on lt there put.
    put-tells o c.args.self.now.n c.args.mover.code c.args.mover.train c.args.y c.args.p
    there put c.args.mover.placement _ on lt c.put_on-q.ensures c.find_in.result c.find_in.ensures
    _ c.entry_at.ensures c.if-entry_at.false _ c.is_some.ensures
