-- `plan_text::plan_text` meets its contract: a buffer with room for every text has room for this one, and a shorter one is left to `own_text`.
-- Assumes nothing.
use Rattle.plan_text.proofs.Whole.{put_in_place}
use Rattle.plan_text.proofs.plan_text.Goals as goal

pub returns : goal.returns
returns c = λ s. put_in_place c.args.r c.args.figures.now c.args.settings.now s c.if-text-lt-TEXT.false (c.plan_lines-n.ensures s c.if-text-lt-TEXT.false)
