-- `thin_call::some_free` meets its contract. The loop's invariant: no train before t is free.
-- Assumes nothing.
use native.Mathlib.Omega.{arith}
use mathlib.Core.Path.{refl, sym, ◌∙◌}
use Rattle.laws.specs.Below.{any_below}
use Rattle.laws.proofs.Below.{any_next}
use Rattle.game_moves.proofs.Moving.{as-there}
use Rattle.thin_call.proofs.Entries.{within, one_free, none_free}
use Rattle.thin_call.proofs.some_free.Goals as goal

pub loop-t-init : goal.loop-t-init
unfolding any_below
loop-t-init c = λ r p on. refl

pub returns-then-free_in : goal.returns-then-free_in
returns-then-free_in c =
    λ r p on.
    let e = c.trains_in-t-end.ensures r on.compiled in
    one_free r p e c.loop-t.t c.loop-t-test.true (sym (as-there r p _ _ on _
    (within e c.loop-t.t c.loop-t-test.true) _ _ (c.free_in.ensures r p on)) ∙ c.if-free_in.true)

pub loop-t-preserved : goal.loop-t-preserved
loop-t-preserved c =
    λ r p on.
    let e = c.trains_in-t-end.ensures r on.compiled in
    any_next _ _ (c.loop-t.invariant r p on)
    (sym (as-there r p _ _ on _ (within e c.loop-t.t c.loop-t-test.true) _ _
    (c.free_in.ensures r p on)) ∙ c.if-free_in.false)

pub returns : goal.returns
returns c = λ r p on. none_free r p (let e = c.trains_in-t-end.ensures r on.compiled in omega arith) (c.loop-t.invariant r p on)
