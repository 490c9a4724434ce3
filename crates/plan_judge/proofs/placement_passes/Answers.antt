-- `plan_judge::placement_passes` meets its contract, by whether the placement is listed.
-- Assumes nothing.
use Rattle.plan_judge.proofs.Testing.{unlisted-passes, listed-decides}
use Rattle.plan_judge.proofs.placement_passes.Goals as goal

pub returns-then-n : goal.returns-then-n
returns-then-n c =
    λ r h w.
    unlisted-passes r c.args.figures.now c.args.settings.now c.args.p _ c.entry_at-n.ensures c.if-n.true

pub returns : goal.returns
returns c =
    λ r h w.
    listed-decides r c.args.figures.now c.args.settings.now c.args.p _ c.entry_at-n.ensures _
    c.if-n.false (c.listed_passes.ensures r h w)
