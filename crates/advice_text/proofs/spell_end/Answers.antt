-- `advice_text::spell_end` meets its contract: the number, the side, the line end. Assumes nothing.
use native.Mathlib.Omega.{arith}
use Rattle.advice_text.proofs.Lines.{end-made}
use Rattle.advice_text.proofs.spell_end.Goals as goal

pub returns : goal.returns
returns c = end-made c.args.n c.args.s _ _ (omega arith) c.side_byte.ensures c.number-behind.ensures c.byte.ensures
