-- `case_writer::put_to` meets its contract: the destination, and the weight behind it or the end of the line.
-- Assumes nothing.
use Rattle.case_writer.proofs.Lines.{weight-omitted, weight-put}
use Rattle.case_writer.proofs.put_to.Goals as goal

pub returns-then-weight-eq1 : goal.returns-then-weight-eq1
returns-then-weight-eq1 c = weight-omitted c.args.to c.args.weight c.if-weight-eq1.true c.number.ensures

pub returns-else-weight-eq1 : goal.returns-else-weight-eq1
returns-else-weight-eq1 c = weight-put c.args.to c.args.weight c.if-weight-eq1.false c.number-a.ensures c.number-else-weight-eq1.ensures
