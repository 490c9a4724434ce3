-- `case_writer::put_header` meets its contract: the fields of the H line, one behind the other.
-- Assumes nothing.
use Rattle.case_writer.proofs.Lines.{header-line}
use Rattle.case_writer.proofs.put_header.Goals as goal

pub returns : goal.returns
returns c =
    header-line c.args.s c.args.p c.args.k c.two-a.ensures c.number-b.ensures c.number-c.ensures
    c.number.ensures
