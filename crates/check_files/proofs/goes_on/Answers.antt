-- `check_files::goes_on` meets its contract.
-- Assumes nothing.
use Rattle.check_files.proofs.Hearing.{still-stops}
use Rattle.check_files.proofs.goes_on.Goals as goal

pub returns : goal.returns
returns c = still-stops c.args.stopped c.args.n c.if-stopped.false
