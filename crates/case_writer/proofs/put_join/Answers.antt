-- `case_writer::put_join` meets its contract: nothing where there is no join or the other end comes first, else the J line.
-- Assumes nothing.
use Rattle.case_writer.proofs.Lines.{join-none, join-earlier, join-line}
use Rattle.case_writer.proofs.put_join.Goals as goal

pub returns-in_default : goal.returns-in_default
returns-in_default c = join-none c.args.i c.args.j c.in_default.is

pub returns-then-i-index_of : goal.returns-then-i-index_of
returns-then-i-index_of c =
    join-line c.args.i c.args.j c.in-Some.f _ c.in-Some.is c.index_of.ensures _ c.end_at.ensures
    c.if-i-index_of.true c.two-a.ensures c.put_end-b.ensures c.put_end.ensures

pub returns-else-i-index_of : goal.returns-else-i-index_of
returns-else-i-index_of c = join-earlier c.args.i c.args.j c.in-Some.f _ c.in-Some.is c.index_of.ensures c.if-i-index_of.false
