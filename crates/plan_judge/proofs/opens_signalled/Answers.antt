-- `plan_judge::opens_signalled` meets its contract. The loop's invariant: every open train before t has its signal.
-- Assumes nothing.
use mathlib.Core.Path.{refl, sym, ◌∙◌}
use Rattle.laws.specs.Below.{all_below}
use Rattle.laws.proofs.Below.{all-next}
use Rattle.plan_judge.proofs.Testing.{within, but-one}
use Rattle.plan_judge.proofs.opens_signalled.Goals as goal

pub loop-t-init : goal.loop-t-init
unfolding all_below
loop-t-init c = λ r p on. refl

pub loop-t-preserved : goal.loop-t-preserved
loop-t-preserved c =
    λ r p on.
    let there = within (c.trains_in-t-end.ensures r on.compiled) _ c.loop-t-test.true in
    all-next _ _ (c.loop-t.invariant r p on) (sym (c.train_signalled.ensures r p on there) ∙ c.if-not-train_signalled.false)

pub returns-then-not-train_signalled : goal.returns-then-not-train_signalled
returns-then-not-train_signalled c =
    λ r p on.
    let e = c.trains_in-t-end.ensures r on.compiled in
    but-one e _ c.loop-t.t c.loop-t-test.true
    (sym (c.train_signalled.ensures r p on (within e _ c.loop-t-test.true)) ∙ c.if-not-train_signalled.true)
