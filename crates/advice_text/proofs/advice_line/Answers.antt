-- `advice_text::advice_line` meets its contract: the line for what is advised, or a refusal's. Assumes nothing.
use Rattle.advice_text.proofs.Lines.{line-for}
use Rattle.advice_text.proofs.advice_line.Goals as goal

pub returns-in-Ok : goal.returns-in-Ok
returns-in-Ok c = line-for _ _ _ _ _ c.in-Ok.is c.help_line.ensures

pub returns-in-Err : goal.returns-in-Err
returns-in-Err c = line-for _ _ _ _ _ c.in-Err.is c.refusal_line.ensures
