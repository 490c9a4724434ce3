-- `answer_lines::spell_refusal` meets its contract: the word, a tab, the number.
-- Assumes nothing.
use Rattle.text.specs.Text.{bytes}
use Rattle.answer_lines.proofs.Lines.{refusal-made}
use Rattle.answer_lines.proofs.spell_refusal.Goals as goal

pub returns : goal.returns
unfolding bytes
returns c = refusal-made c.args.f _ c.number.ensures c.bytes-behind.ensures c.number-2.ensures
