-- `search_progress::round_line` meets its contract: the line stands whole in a buffer of its own, and what is put from there is the line.
-- Assumes nothing.
use Rattle.text.proofs.Appending.{front_fits, front_cut}
use Rattle.answer_lines.proofs.Lines.{made-put}
use Rattle.search_progress.proofs.Spelling.{line-short}
use Rattle.search_progress.proofs.round_line.Goals as goal

pub slice_bounds-line-end : goal.slice_bounds-line-end
slice_bounds-line-end c = front_fits c.spell_round-n.ensures c.spell_round-n.auto.out

pub slice_bounds-put-end : goal.slice_bounds-put-end
slice_bounds-put-end c = front_cut c.spell_round-n.ensures c.spell_round-n.auto.out

pub returns : goal.returns
returns c = made-put c.spell_round-n.ensures (line-short c.args.round c.args.a) c.put.ensures
