-- `thin_call::lowest_bit` meets its contract. The loop's invariant: no train before t may move.
-- Assumes nothing.
use native.Mathlib.Omega.{arith}
use mathlib.Core.Path.{refl, sym, ◌∙◌}
use Rattle.laws.specs.Below.{any_below}
use Rattle.laws.proofs.Below.{any_next}
use Rattle.game.proofs.Accepted.{facts}
use Rattle.thin_call.proofs.Entries.{first_bit, no-bit}
use Rattle.thin_call.proofs.lowest_bit.Goals as goal

pub loop-t-init : goal.loop-t-init
unfolding any_below
loop-t-init c = λ r p on. refl

pub returns-then-may_in : goal.returns-then-may_in
returns-then-may_in c = (
  c.train_bit.ensures.0,
  λ r p on.
      first_bit _ (c.trains_in-t-end.ensures r on.compiled) (facts r on.compiled.accepted).few-trains
      c.loop-t.t (c.loop-t.invariant r p on) c.loop-t-test.true
      (sym (c.may_in.ensures r p on) ∙ c.if-may_in.true) _ c.train_bit.ensures.1,
)

pub loop-t-preserved : goal.loop-t-preserved
loop-t-preserved c = λ r p on. any_next _ _ (c.loop-t.invariant r p on) (sym (c.may_in.ensures r p on) ∙ c.if-may_in.false)

pub returns : goal.returns
returns c = (omega arith, λ r p on. no-bit _ (let e = c.trains_in-t-end.ensures r on.compiled in omega arith) (c.loop-t.invariant r p on))
