-- `check_files::listen` meets its contract: from tables made fresh.
-- Assumes nothing.
use Rattle.check_files.proofs.listen.Goals as goal

pub returns : goal.returns
returns g c = (c.hear.ensures.0, c.hear.ensures.1 _ _ _ c.requires.0 c.requires.1 c.fresh-made.ensures)
