-- `game_moves::is_other` meets its contract, test by test.
-- Assumes nothing.
use Rattle.game_moves.proofs.Placing.{not-other, other-is}
use Rattle.game_moves.proofs.is_other.Goals as goal

pub returns-then-u-t : goal.returns-then-u-t
returns-then-u-t c = not-other c.args.q _ _ _ c.if-u-t.true

pub returns : goal.returns
returns c = other-is c.args.q _ _ _ _ c.if-u-t.false c.section_at.ensures
