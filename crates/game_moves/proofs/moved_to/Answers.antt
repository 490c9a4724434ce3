-- `game_moves::moved_to` meets its contract, test by test.
-- Assumes nothing.
use Rattle.game_moves.proofs.Placing.{moved-past, moved-itself, moved_other}
use Rattle.game_moves.proofs.moved_to.Goals as goal

pub returns-then-k-u : goal.returns-then-k-u
returns-then-k-u c = moved-past c.args.q _ _ _ _ c.if-k-u.true

pub returns-then-u-t : goal.returns-then-u-t
returns-then-u-t c = moved-itself c.args.q _ _ _ _ c.if-k-u.false c.if-u-t.true

pub returns : goal.returns
returns c = moved_other c.args.q _ _ _ _ _ c.if-k-u.false c.if-u-t.false c.section_at.ensures
