-- `text::append::byte` meets its contract: the store where there is room, else nothing.
-- Assumes nothing.
use Rattle.text.proofs.Appending.{append-room, append-full}
use Rattle.text.proofs.append.byte.Goals as goal

pub returns-then-at-out : goal.returns-then-at-out
returns-then-at-out c = append-room c.args.out.now c.args.at c.args.b c.if-at-out.true

pub returns : goal.returns
returns c = append-full c.args.out.now c.args.at c.args.b c.if-at-out.false
