-- `search_progress::so_far` meets its contract: from code to code what is told is that of the codes before.
-- Assumes nothing.
use native.Mathlib.Omega.{arith}
use Rattle.search_progress.proofs.Telling.{tells_none, tells-within, tells-next}
use Rattle.search_progress.proofs.so_far.Goals as goal

pub loop-p-init : goal.loop-p-init
loop-p-init c = tells_none _

pub with_entry-a-requires : goal.with_entry-a-requires
with_entry-a-requires c = omega (arith, tells-within c.loop-p.invariant)

pub loop-p-preserved : goal.loop-p-preserved
loop-p-preserved c = tells-next (c.with_entry-a.ensures _ _ c.entry_at.ensures c.loop-p.invariant)
