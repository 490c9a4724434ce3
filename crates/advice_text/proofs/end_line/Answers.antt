-- `advice_text::end_line` meets its contract: the line stands whole in a buffer of its own, and what is put from there is the line. Assumes nothing.
use Rattle.text.proofs.Appending.{front_fits, front_cut}
use Rattle.answer_lines.proofs.Lines.{made-put}
use Rattle.advice_text.proofs.Lines.{end_short}
use Rattle.advice_text.proofs.end_line.Goals as goal

pub slice_bounds-line-end : goal.slice_bounds-line-end
slice_bounds-line-end c = front_fits c.spell_end-m.ensures c.spell_end-m.auto.out

pub slice_bounds-put-end : goal.slice_bounds-put-end
slice_bounds-put-end c = front_cut c.spell_end-m.ensures c.spell_end-m.auto.out

pub returns : goal.returns
returns c = made-put c.spell_end-m.ensures (end_short c.args.n c.args.s) c.put.ensures
