-- `counts_text::put_head` meets its contract: four words with their numbers.
-- Assumes nothing.
use Rattle.text.specs.Text.{bytes}
use Rattle.text.proofs.Appending.{append-then}
use Rattle.counts_text.proofs.put_head.Goals as goal

pub returns : goal.returns
unfolding bytes
returns c =
    append-then (append-then (append-then c.put_named-home.ensures c.put_named-none.ensures)
    c.put_named-largest.ensures) c.put_named.ensures
