-- `counts_call::tally` meets its contract: from entry to entry the counts are those of the entries before.
-- Assumes nothing.
use mathlib.Core.Path.{refl}
use native.Mathlib.Omega.{arith}
use Rattle.counts_call.proofs.Tallying.{class-there, tally-start, tally-most, tally-next, tally-all}
use Rattle.counts_call.proofs.tally.Goals as goal

pub loop-p-init : goal.loop-p-init
loop-p-init c = tally-start _ _ _ refl

pub offset_bounds-counts-c : goal.offset_bounds-counts-c
offset_bounds-counts-c c = omega (arith, class-there c.entry_at.result _ c.class_of-c.ensures)

pub bounds-counts-c : goal.bounds-counts-c
bounds-counts-c c = omega (arith, class-there c.entry_at.result _ c.class_of-c.ensures, c.loop-p.invariant.sized)

pub overflow_add-counts : goal.overflow_add-counts
overflow_add-counts c =
    omega (
      arith,
      tally-most c.loop-p.invariant _
          (class-there c.entry_at.result _ c.class_of-c.ensures),
      c.loop-p-test.true,
    )

pub bounds-counts-c-in-loop-p : goal.bounds-counts-c-in-loop-p
bounds-counts-c-in-loop-p c = omega (arith, class-there c.entry_at.result _ c.class_of-c.ensures, c.loop-p.invariant.sized)

pub loop-p-preserved : goal.loop-p-preserved
loop-p-preserved c =
    tally-next c.loop-p.invariant c.loop-p-test.true _ _ c.entry_at.ensures
    c.class_of-c.ensures

pub returns : goal.returns
returns c = tally-all c.loop-p.invariant c.loop-p-test.false
