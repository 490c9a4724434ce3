-- `plan_judge::some_may` meets its contract. The loop's invariant: no train before t may move.
-- Assumes nothing.
use mathlib.Core.Path.{refl, sym, ◌∙◌}
use Rattle.laws.specs.Below.{any_below}
use Rattle.laws.proofs.Below.{any_next}
use Rattle.plan_judge.proofs.Testing.{one-of}
use Rattle.plan_judge.proofs.some_may.Goals as goal

pub loop-t-init : goal.loop-t-init
unfolding any_below
loop-t-init c = λ r p on. refl

pub returns-then-may_in : goal.returns-then-may_in
returns-then-may_in c =
    λ r p on.
    one-of (c.trains_in-t-end.ensures r on.compiled) _ c.loop-t.t c.loop-t-test.true
    (sym (c.may_in.ensures r p on) ∙ c.if-may_in.true)

pub loop-t-preserved : goal.loop-t-preserved
loop-t-preserved c = λ r p on. any_next _ _ (c.loop-t.invariant r p on) (sym (c.may_in.ensures r p on) ∙ c.if-may_in.false)
