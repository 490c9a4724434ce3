-- `plan_text::own_text` meets its contract: the plan stands whole in the call's own buffer, which has room for every text.
-- Assumes nothing.
use mathlib.Core.Path.{refl}
use Rattle.answer_lines.proofs.Puts.{own_room}
use Rattle.plan_text.proofs.Whole.{put-own}
use Rattle.plan_text.proofs.own_text.Goals as goal

pub returns : goal.returns
returns c =
    λ s. put-own c.args.r c.args.figures.now c.args.settings.now s _ _ _ _ _ _ (own_room _ _ refl) c.plan_lines-n.auto.out
    (c.plan_lines-n.ensures s (own_room _ _ refl)) c.put_first.ensures
