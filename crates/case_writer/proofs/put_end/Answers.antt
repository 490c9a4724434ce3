-- `case_writer::put_end` meets its contract: a number and a letter, for a section's end and for a point's port.
-- Assumes nothing.
use Rattle.case_writer.proofs.Lines.{section-end, port-end}
use Rattle.case_writer.proofs.put_end.Goals as goal

pub returns-in-Section : goal.returns-in-Section
returns-in-Section c =
    section-end c.args.e _ c.args.after c.in-Section.n c.in-Section.s c.in-Section.is c.side_byte.ensures
    c.number-a.ensures c.byte.ensures

pub returns-in-Port : goal.returns-in-Port
returns-in-Port c =
    port-end c.args.e _ c.args.after c.in-Port.n c.in-Port.l c.in-Port.is c.leg_byte.ensures
    c.number-a-in-Port.ensures c.byte-in-Port.ensures
