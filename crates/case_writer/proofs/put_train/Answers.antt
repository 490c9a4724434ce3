-- `case_writer::put_train` meets its contract: the fields of the T line, one behind the other.
-- Assumes nothing.
use Rattle.case_writer.proofs.Lines.{train-line}
use Rattle.case_writer.proofs.put_train.Goals as goal

pub returns : goal.returns
returns c =
    train-line c.args.i c.args.t _ c.side_byte.ensures c.two-a.ensures c.number-b.ensures
    c.two-c.ensures c.number-d.ensures c.put_to.ensures
