-- `case_writer::put_point` meets its contract: the fields of the P line, one behind the other.
-- Assumes nothing.
use Rattle.case_writer.proofs.Lines.{point-line}
use Rattle.case_writer.proofs.put_point.Goals as goal

pub returns : goal.returns
returns c =
    point-line c.args.i c.args.legs _ c.side_byte.ensures c.two-a.ensures c.number-b.ensures
    c.two.ensures
