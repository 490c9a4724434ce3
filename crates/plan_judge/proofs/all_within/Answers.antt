-- `plan_judge::all_within` meets its contract. The loop's invariant: every train before t that may move comes to a figure smaller by its weight at least.
-- Assumes nothing.
use mathlib.Core.Path.{refl, sym, ◌∙◌}
use Rattle.laws.specs.Below.{all_below}
use Rattle.laws.proofs.Below.{all-next}
use Rattle.plan_judge.proofs.Testing.{but-one}
use Rattle.plan_judge.proofs.all_within.Goals as goal

pub loop-t-init : goal.loop-t-init
unfolding all_below
loop-t-init c = λ r p on w. refl

pub loop-t-preserved : goal.loop-t-preserved
loop-t-preserved c =
    λ r p on w.
    all-next _ _ (c.loop-t.invariant r p on w) (sym (c.goes_within.ensures r p on w) ∙ c.if-not-goes_within.false)

pub returns-then-not-goes_within : goal.returns-then-not-goes_within
returns-then-not-goes_within c =
    λ r p on w.
    but-one (c.trains_in-t-end.ensures r on.compiled) _ c.loop-t.t c.loop-t-test.true
    (sym (c.goes_within.ensures r p on w) ∙ c.if-not-goes_within.true)
