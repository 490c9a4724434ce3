-- `solver_dues::shares_weight` meets its contract. The loop's invariant: no train before u has the weight.
-- Assumes nothing.
use mathlib.Core.Path.{refl, sym, ◌∙◌}
use borrow.Author.Tests.{eq-eqb, ne_eqb}
use Rattle.laws.specs.Below.{any_below}
use Rattle.laws.proofs.Below.{any_next, any-one}
use Rattle.solver_dues.specs.Dues.{same_weight}
use Rattle.solver_dues.proofs.shares_weight.Goals as goal

pub loop-u-init : goal.loop-u-init
unfolding any_below
loop-u-init c = λ r h. refl

pub returns-then-weight_in-w : goal.returns-then-weight_in-w
returns-then-weight_in-w c = λ r h. any-one (same_weight r _) _ _ c.loop-u-test.true (eq-eqb _ _ (sym (c.weight_in.ensures r h) ∙ c.if-weight_in-w.true ∙ c.weight_in-w.ensures r h))

pub loop-u-preserved : goal.loop-u-preserved
loop-u-preserved c = λ r h. any_next (same_weight r _) _ (c.loop-u.invariant r h) (ne_eqb _ _ (λ e. c.if-weight_in-w.false (c.weight_in.ensures r h ∙ e ∙ sym (c.weight_in-w.ensures r h))))
