-- `counts_io::refused_text` meets its contract: there is room for the line.
-- Assumes nothing.
use Rattle.counts_io.proofs.Shown.{refused-whole, refused-never}
use Rattle.counts_io.proofs.refused_text.Goals as goal

pub returns-in-Ok : goal.returns-in-Ok
returns-in-Ok c = refused-whole c.args.f c.refusal_line.ensures _ c.in-Ok.is

pub returns-in-Err : goal.returns-in-Err
returns-in-Err c = refused-never c.args.f c.refusal_line.ensures c.requires _ c.in-Err.is
