-- `text::append::digits` meets its contract: the cases are those of the definition. Assumes nothing.
use Rattle.text.proofs.Appending.{digits-none, digits-one, digits_more}
use Rattle.text.proofs.append.+digits.Goals as goal

pub returns-then-left-eq0 : goal.returns-then-left-eq0
returns-then-left-eq0 t c = digits-none c.args.left c.args.n c.if-left-eq0.true

pub returns-then-n-lt10 : goal.returns-then-n-lt10
returns-then-n-lt10 t c = digits-one c.args.left c.args.n c.if-left-eq0.false c.if-n-lt10.true c.byte.ensures

pub returns : goal.returns
returns t c = digits_more c.args.left c.args.n c.if-left-eq0.false c.if-n-lt10.false c.digits-next.ensures c.byte-2.ensures
