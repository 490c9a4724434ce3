-- `case_writer::put_signal` meets its contract: the G line, or nothing.
-- Assumes nothing.
use Rattle.case_writer.proofs.Lines.{signal-none, signal-line}
use Rattle.case_writer.proofs.put_signal.Goals as goal

pub returns-then-stands : goal.returns-then-stands
returns-then-stands c =
    signal-line c.args.i c.args.stands _ c.end_at.ensures c.if-stands.true c.two-a.ensures
    c.put_end.ensures

pub returns-else-stands : goal.returns-else-stands
returns-else-stands c = signal-none c.args.i c.args.stands c.if-stands.false
