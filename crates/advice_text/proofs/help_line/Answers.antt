-- `advice_text::help_line` meets its contract, answer by answer. Assumes nothing.
use Rattle.std.proofs.Common.{ap, Ok}
use Rattle.text.specs.Text.{line, bytes}
use Rattle.advice.specs.Advice.{NotNeeded, NoneHelps}
use Rattle.advice_text.proofs.Lines.{line-for}
use Rattle.advice_text.proofs.help_line.Goals as goal

pub returns-in-NotNeeded : goal.returns-in-NotNeeded
unfolding bytes line
returns-in-NotNeeded c = line-for _ NotNeeded _ _ _ (ap Ok c.in-NotNeeded.is) c.put.ensures

pub returns-in-Signal : goal.returns-in-Signal
returns-in-Signal c = line-for _ _ _ _ _ (ap Ok c.in-Signal.is) c.end_line.ensures

pub returns-in-NoneHelps : goal.returns-in-NoneHelps
unfolding bytes line
returns-in-NoneHelps c = line-for _ NoneHelps _ _ _ (ap Ok c.in-NoneHelps.is) c.put-in-NoneHelps.ensures
