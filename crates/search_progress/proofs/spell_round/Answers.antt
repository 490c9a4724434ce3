-- `search_progress::spell_round` meets its contract: the word, and three numbers.
-- Assumes nothing.
use Rattle.text.specs.Text.{bytes}
use Rattle.search_progress.proofs.Spelling.{line_made}
use Rattle.search_progress.proofs.spell_round.Goals as goal

pub returns : goal.returns
unfolding bytes
returns c =
    line_made c.args.round c.args.a c.bytes-number.ensures c.number-count.ensures c.number-largest.ensures
    c.number.ensures
