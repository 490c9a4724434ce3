-- `plan_judge::test_holds` meets its contract: the start is not listed, is listed with another figure, or all depends on the placements.
-- Assumes nothing.
use Rattle.plan_judge.proofs.Testing.{start-unlisted, start-other, start-same}
use Rattle.plan_judge.proofs.test_holds.Goals as goal

pub returns-then-n : goal.returns-then-n
returns-then-n c =
    λ r h w.
    start-unlisted r c.args.figures.now c.args.settings.now c.args.m _ _ (c.start_code.ensures r h)
    c.entry_at-n.ensures c.if-n.true

pub returns-then-n-m : goal.returns-then-n-m
returns-then-n-m c =
    λ r h w.
    start-same r c.args.figures.now c.args.settings.now c.args.m _ _ (c.start_code.ensures r h)
    c.entry_at-n.ensures c.if-n.false _ c.if-n-m.true (c.all_pass.ensures r h w)

pub returns-else-n-m : goal.returns-else-n-m
returns-else-n-m c =
    λ r h w.
    start-other r c.args.figures.now c.args.settings.now c.args.m _ _ (c.start_code.ensures r h)
    c.entry_at-n.ensures c.if-n.false c.if-n-m.false
