-- `advice_text::railway_advice` meets its contract: the tables are the call's own, and the line is the one for what is advised. Assumes nothing.
use Rattle.advice_text.proofs.Lines.{advised}
use Rattle.advice_text.proofs.railway_advice.Goals as goal

pub returns : goal.returns
returns c = advised _ _ _ _ _ _ _ c.advise-a.ensures c.advice_line.ensures
