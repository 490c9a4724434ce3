-- `text::append::two` meets its contract: one byte behind the other.
-- Assumes nothing.
use Rattle.text.proofs.Appending.{append-then}
use Rattle.text.proofs.append.two.Goals as goal

pub returns : goal.returns
returns c = append-then c.byte-next.ensures c.byte.ensures
