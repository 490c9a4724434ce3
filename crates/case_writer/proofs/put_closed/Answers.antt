-- `case_writer::put_closed` meets its contract: the X line, or nothing.
-- Assumes nothing.
use Rattle.case_writer.proofs.Lines.{closed_none, closed-line}
use Rattle.case_writer.proofs.put_closed.Goals as goal

pub returns-then-shut : goal.returns-then-shut
returns-then-shut c = closed-line c.args.i c.args.shut c.if-shut.true c.two-a.ensures c.number.ensures

pub returns-else-shut : goal.returns-else-shut
returns-else-shut c = closed_none c.args.i c.args.shut c.if-shut.false
