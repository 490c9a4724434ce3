-- `plan_judge::all_pass` meets its contract. The loop's invariant: every placement before p is as it must be.
-- Assumes nothing.
use mathlib.Core.Path.{refl, sym, ◌∙◌}
use Rattle.laws.specs.Below.{all_below}
use Rattle.laws.proofs.Below.{all-next}
use Rattle.plan_judge.proofs.Testing.{but-one}
use Rattle.plan_judge.proofs.all_pass.Goals as goal

pub loop-p-init : goal.loop-p-init
unfolding all_below
loop-p-init c = λ r h w. refl

pub loop-p-preserved : goal.loop-p-preserved
loop-p-preserved c =
    λ r h w.
    all-next _ _ (c.loop-p.invariant r h w) (sym (c.placement_passes.ensures r h w) ∙ c.if-not-placement_passes.false)

pub returns-then-not-placement_passes : goal.returns-then-not-placement_passes
returns-then-not-placement_passes c =
    λ r h w.
    but-one (c.placements-p-end.ensures r h) _ c.loop-p.p c.loop-p-test.true
    (sym (c.placement_passes.ensures r h w) ∙ c.if-not-placement_passes.true)
