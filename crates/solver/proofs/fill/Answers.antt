-- `solver::fill` meets its contract. The loop's invariant: round n is the next, and the tables are those of all rounds before it.
-- Assumes nothing.
use native.Mathlib.Omega.{arith}
use mathlib.Core.Path.{sym}
use Rattle.solver.proofs.Filling.{filling-start, filling-next, filling-over}
use Rattle.solver.proofs.fill.Goals as goal

pub overflow_mul-last : goal.overflow_mul-last
overflow_mul-last c = omega (arith, c.requires.m_le_most_codes)

pub loop-n-init : goal.loop-n-init
loop-n-init c =
    filling-start c.args.table.now c.args.ways.now c.args.behind.now c.args.m c.args.figures.now
    c.args.settings.now _ _ c.begin.ensures c.requires.m_in_bounds

pub slice_bounds-round-end : goal.slice_bounds-round-end
slice_bounds-round-end c = sym c.loop-n.invariant.long-marks

pub loop-n-smaller : goal.loop-n-smaller
loop-n-smaller c = omega (arith, c.loop-n-test.true, c.round-n.ensures.0 (omega (arith, c.loop-n-test.true, c.requires.m_le_most_codes)))

pub loop-n-preserved : goal.loop-n-preserved
loop-n-preserved c =
    filling-next c.args.table.now c.args.ways.now c.args.behind.now c.args.m c.args.figures.now
    c.args.settings.now _ _ c.begin.ensures c.requires.m_in_bounds c.loop-n.figures c.loop-n.settings
    c.loop-n.marks c.loop-n.n c.loop-n.invariant _ _ _ _
    (c.round-n.ensures.0 (omega (arith, c.loop-n-test.true, c.requires.m_le_most_codes)))
    (omega (arith, c.loop-n-test.true, c.requires.m_le_most_codes))
    (omega (arith, c.requires.m_in_bounds.0, c.begin.auto.figures, c.loop-n.invariant.long-figs))
    (omega (arith, c.requires.m_in_bounds.1, c.begin.auto.settings, c.loop-n.invariant.long-sets)) c.round-n.ensures.1
    c.round-n.auto.figures c.round-n.auto.settings c.round-n.auto.marks

pub returns : goal.returns
returns c =
    filling-over c.args.table.now c.args.ways.now c.args.behind.now c.args.m c.args.figures.now
    c.args.settings.now _ _ c.begin.ensures c.requires.m_in_bounds c.loop-n.figures c.loop-n.settings
    c.loop-n.marks c.loop-n.n c.loop-n.invariant c.loop-n-test.false
