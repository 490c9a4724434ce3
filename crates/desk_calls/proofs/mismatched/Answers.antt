-- `desk_calls::mismatched` meets its contract. The loop's invariant: every train before t heads the same way in both cases.
-- Assumes nothing.
use native.Mathlib.Omega.{arith}
use mathlib.Core.Path.{refl}
use Rattle.laws.specs.Below.{any_below}
use Rattle.laws.proofs.Below.{any_next}
use Rattle.desk.specs.Change.{heads_other}
use Rattle.desk_calls.proofs.Shapes.{heads-other, heads-same, other-sections, other-trains, other-headings, same_shape}
use Rattle.desk_calls.proofs.mismatched.Goals as goal

pub returns-then-sections_in : goal.returns-then-sections_in
returns-then-sections_in c = λ r s old new. other-sections r s _ _ (c.sections_in.ensures r old) (c.sections_in-2.ensures s new) c.if-sections_in.true

pub returns-then-k-trains_in : goal.returns-then-k-trains_in
returns-then-k-trains_in c = λ r s old new. other-trains r s _ _ (c.trains_in-k.ensures r old) (c.trains_in.ensures s new) c.if-k-trains_in.true

pub loop-t-init : goal.loop-t-init
unfolding any_below
loop-t-init c = λ r s old new. refl

pub returns-then-a-b : goal.returns-then-a-b
returns-then-a-b c =
    λ r s old new.
    other-headings r s _ _ (c.trains_in-k.ensures r old) (c.trains_in.ensures s new) c.loop-t.t c.loop-t-test.true
    (heads-other r s _ _ _ _ _ (c.heading_in.ensures r old) (c.heading_in-in-loop-t.ensures s new) c.side_index-a.ensures c.side_index-b.ensures c.if-a-b.true)

pub loop-t-preserved : goal.loop-t-preserved
loop-t-preserved c =
    λ r s old new.
    any_next (heads_other r s) _ (c.loop-t.invariant r s old new)
    (heads-same r s _ _ _ _ _ (c.heading_in.ensures r old) (c.heading_in-in-loop-t.ensures s new) c.side_index-a.ensures c.side_index-b.ensures c.if-a-b.false)

pub returns : goal.returns
returns c =
    λ r s old new.
    same_shape r s _ _ (c.trains_in-k.ensures r old) (c.trains_in.ensures s new) _ _ (c.sections_in.ensures r old) (c.sections_in-2.ensures s new) c.if-sections_in.false
    c.if-k-trains_in.false c.loop-t.t (omega arith) (omega arith) (c.loop-t.invariant r s old new)
