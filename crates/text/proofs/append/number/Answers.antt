-- `text::append::number` meets its contract: one digit or two, or the digits, and the byte behind them.
-- Assumes nothing.
use Rattle.text.proofs.Appending.{append-then, number-one, number-two}
use Rattle.text.proofs.append.number.Goals as goal

pub returns-then-n-lt10 : goal.returns-then-n-lt10
returns-then-n-lt10 c = number-one c.args.n c.args.after c.if-n-lt10.true c.two.ensures

pub returns-then-n-lt100 : goal.returns-then-n-lt100
returns-then-n-lt100 c = number-two c.args.n c.args.after c.if-n-lt10.false c.if-n-lt100.true c.two-behind.ensures c.byte.ensures

pub returns : goal.returns
returns c = append-then c.digits-next.ensures c.byte-2.ensures
