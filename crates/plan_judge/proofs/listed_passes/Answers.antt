-- `plan_judge::listed_passes` meets its contract: lost, open without a signal, home, and else by the setting.
-- Assumes nothing.
use Rattle.plan_judge.proofs.Testing.{lost-fails, unsignalled-fails, home-passes, kept-passes}
use Rattle.plan_judge.proofs.listed_passes.Goals as goal

pub returns-then-lost_in : goal.returns-then-lost_in
returns-then-lost_in c =
    λ r h ways.
    lost-fails r c.args.figures.now c.args.settings.now c.args.p c.args.n _
    (c.lost_in.ensures r _ (c.placement_of-q.ensures r h)) c.if-lost_in.true

pub returns-then-home_in : goal.returns-then-home_in
returns-then-home_in c =
    λ r h ways.
    let on = c.placement_of-q.ensures r h in
    home-passes r c.args.figures.now c.args.settings.now c.args.p c.args.n _ (c.lost_in.ensures r _ on)
    c.if-lost_in.false _ c.entry_at-v.ensures _ (c.opens_signalled.ensures r _ on) c.if-opens_signalled.true _
    (c.home_in.ensures r _ on) c.if-home_in.true

pub returns-else-home_in : goal.returns-else-home_in
returns-else-home_in c =
    λ r h ways.
    let on = c.placement_of-q.ensures r h in
    kept-passes r c.args.figures.now c.args.settings.now c.args.p c.args.n _ (c.lost_in.ensures r _ on)
    c.if-lost_in.false _ c.entry_at-v.ensures _ (c.opens_signalled.ensures r _ on) c.if-opens_signalled.true _
    (c.home_in.ensures r _ on) _ c.if-home_in.false (c.keeps.ensures r _ on ways)

pub returns-else-opens_signalled : goal.returns-else-opens_signalled
returns-else-opens_signalled c =
    λ r h ways.
    let on = c.placement_of-q.ensures r h in
    unsignalled-fails r c.args.figures.now c.args.settings.now c.args.p c.args.n _ (c.lost_in.ensures r _ on)
    c.if-lost_in.false _ c.entry_at-v.ensures _ (c.opens_signalled.ensures r _ on) c.if-opens_signalled.false
