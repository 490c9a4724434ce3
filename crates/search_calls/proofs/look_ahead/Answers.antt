-- `search_calls::look_ahead` meets its contract. The loop's invariant: no round before d brings a figure, and the marks are right for d.
-- Assumes nothing.
use native.Mathlib.Omega.{arith}
use Rattle.search_calls.proofs.Looking.{looked-start, looked-next, looked-found, looked-over}
use Rattle.search_calls.proofs.look_ahead.Goals as goal

pub loop-d-init : goal.loop-d-init
loop-d-init c =
    looked-start c.args.table.now c.args.ways.now c.args.behind.now c.args.figures.now
    c.args.settings.now c.args.marks.now c.args.from

pub returns-then-brings : goal.returns-then-brings
returns-then-brings c =
    λ r n room.
    looked-found c.args.table.now c.args.ways.now c.args.behind.now c.args.figures.now
    c.args.settings.now c.args.marks.now c.args.from c.loop-d.figures c.loop-d.settings
    c.loop-d.marks c.loop-d.d c.loop-d.invariant _ c.brings.ensures
    (omega (arith, c.loop-d-test.true)) c.if-brings.true r n

pub loop-d-smaller : goal.loop-d-smaller
loop-d-smaller c = omega (arith, c.loop-d-test.true, c.round-d.ensures.0 (omega (arith, c.loop-d-test.true)))

pub loop-d-preserved : goal.loop-d-preserved
loop-d-preserved c =
    looked-next c.args.table.now c.args.ways.now c.args.behind.now c.args.figures.now
    c.args.settings.now c.args.marks.now c.args.from c.loop-d.figures c.loop-d.settings
    c.loop-d.marks c.loop-d.d c.loop-d.invariant _ c.brings.ensures
    (omega (arith, c.loop-d-test.true)) c.if-brings.false
    _ _ _ _ c.round-d.auto.figures c.round-d.auto.settings c.round-d.auto.marks
    (c.round-d.ensures.0 (omega (arith, c.loop-d-test.true))) c.round-d.ensures.1

pub returns : goal.returns
returns c =
    looked-over c.args.table.now c.args.ways.now c.args.behind.now c.args.figures.now
    c.args.settings.now c.args.marks.now c.args.from c.loop-d.figures c.loop-d.settings
    c.loop-d.marks c.loop-d.d c.loop-d.invariant (omega (arith, c.loop-d-test.false))
