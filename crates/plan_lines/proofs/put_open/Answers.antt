-- `plan_lines::put_open` meets its contract: the digits of the open trains, or the zero.
-- Assumes nothing.
use Rattle.game_tables.specs.Entries.{opens_in}
use Rattle.plan_lines.proofs.Spelling.{open-some, open_none}
use Rattle.plan_lines.proofs.put_open.Goals as goal

pub returns-then-any_open : goal.returns-then-any_open
returns-then-any_open c = open-some (opens_in c.args.v) c.args.k _ c.any_open.ensures c.if-any_open.true c.put_trains.ensures

pub returns-else-any_open : goal.returns-else-any_open
returns-else-any_open c = open_none (opens_in c.args.v) c.args.k _ c.any_open.ensures c.if-any_open.false c.byte.ensures
