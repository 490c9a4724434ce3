-- `search_ahead::came` meets its contract. The loop's invariant: no placement with a code below c has figure n.
-- Assumes nothing.
use native.Mathlib.Omega.{arith}
use Rattle.search_ahead.proofs.Finding.{none-smaller, none_seen, found-there, found_nowhere}
use Rattle.search_ahead.proofs.came.Goals as goal

pub loop-c-init : goal.loop-c-init
loop-c-init c = λ r d h k q l z. absurd (omega arith)

pub returns-then-stands_in : goal.returns-then-stands_in
returns-then-stands_in c =
    λ r d h small k.
    found-there c.args.figures.now c.args.n _ r (c.placements-m.ensures r h) small c.loop-c.c _ _ c.stands_in.ensures
    c.if-stands_in.true c.stretch_end-upto.ensures.1

pub loop-c-smaller-else-stands_in : goal.loop-c-smaller-else-stands_in
loop-c-smaller-else-stands_in c = omega (arith, c.loop-c-test.true, c.stretch_end-upto.ensures.0, c.stretch_end-upto.ensures.1)

pub loop-c-preserved-else-stands_in : goal.loop-c-preserved-else-stands_in
loop-c-preserved-else-stands_in c =
    none_seen c.args.table.now c.args.figures.now c.args.marks.now c.args.n c.loop-c.c _ c.loop-c.invariant _
    c.stands_in.ensures c.if-stands_in.false

pub loop-c-smaller : goal.loop-c-smaller
loop-c-smaller c = omega (arith, c.loop-c-test.true, c.stretch_end-upto.ensures.0, c.stretch_end-upto.ensures.1)

pub loop-c-preserved : goal.loop-c-preserved
loop-c-preserved c =
    none-smaller c.args.table.now c.args.figures.now c.args.marks.now c.args.n c.loop-c.c _ c.loop-c.invariant _
    c.most_at.ensures (omega (arith, c.if-n-most_at.false)) c.stretch_end-upto.ensures.2

pub returns : goal.returns
returns c =
    λ r d h small k.
    found_nowhere c.args.table.now c.args.figures.now c.args.marks.now c.args.n c.loop-c.c _ c.loop-c.invariant
    (omega (arith, c.loop-c-test.false)) r d h k (c.placements-m.ensures r h)
