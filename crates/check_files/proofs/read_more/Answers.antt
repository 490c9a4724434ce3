-- `check_files::read_more` meets its contract: a piece behind the bytes that were there is lent, and they stay.
-- Assumes nothing.
use Rattle.check_files.proofs.Hearing.{more-read}
use Rattle.check_files.proofs.read_more.Goals as goal

pub returns : goal.returns
returns g c =
    more-read c.args.plan.now c.read_some.new.buf c.args.have c.piece_end-end.result _
    c.piece_end-end.ensures.0 c.piece_end-end.ensures.1 c.read_some.auto.buf c.read_some.ensures.0
