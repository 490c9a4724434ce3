-- `solver_rounds::visit_train` meets its contract. The loop's invariant: the placements with the train put back by the first j
-- ways have been visited. Where there is no way with number j, or j has come to the most ways, those are all.
-- Assumes nothing.
use native.Mathlib.Omega.{arith}
use Rattle.solver_rounds.proofs.Retracing.{way_next, way-put, way-last, all_ways, by-ways}
use Rattle.solver_rounds.proofs.Loops.{visited-to-next, visited-to-end}
use Rattle.solver_rounds.proofs.visit_train.Goals as goal

pub returns-then-y : goal.returns-then-y
returns-then-y c =
    let here = c.section_at-x.ensures in
    visited-to-end c.loop-j.invariant
    (λ r d g o u lu k.
    way-last g here c.end_behind-e.ensures _ _ c.way_to-y.ensures.way c.if-y.true (by-ways g here lu k))

pub loop-j-smaller : goal.loop-j-smaller
loop-j-smaller c = omega (arith, c.loop-j-test.true)

pub loop-j-preserved : goal.loop-j-preserved
loop-j-preserved c =
    let here = c.section_at-x.ensures in
    let rear = c.end_behind-e.ensures in
    visited-to-next c.loop-j.invariant
    c.visit_put.auto.figures c.visit_put.auto.settings c.visit_put.auto.marks
    (λ r d g o.
    let put = way-put g here rear _ _ c.way_to-y.ensures.way c.if-y.false c.code_put-p.ensures in
    c.visit_put.ensures r d o g.on g.train put.0 put.1)
    (λ r d g s o u lu k.
    let put = way-put g here rear _ _ c.way_to-y.ensures.way c.if-y.false c.code_put-p.ensures in
    way_next g here rear _ _ c.way_to-y.ensures.way k put.1)

pub returns : goal.returns
returns c =
    let here = c.section_at-x.ensures in
    visited-to-end c.loop-j.invariant (λ r d g o u lu k. all_ways c.loop-j-test.false (by-ways g here lu k))
