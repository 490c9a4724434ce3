-- `plan_emitter::emit_start` meets its contract: the line in a buffer of its own, and the copy.
-- Assumes nothing.
use mathlib.Core.Path.{refl}
use Rattle.plan.specs.declared.PlanPlace.TheVariants.{From}
use Rattle.text.proofs.Appending.{front_fits, front_cut}
use Rattle.plan_emitter.proofs.Copying.{own-written, start-short}
use Rattle.plan_emitter.proofs.emit_start.Goals as goal

pub slice_bounds-text-end : goal.slice_bounds-text-end
slice_bounds-text-end c = front_fits c.start_line-len.ensures c.start_line-len.auto.out

pub slice_bounds-put_line-end : goal.slice_bounds-put_line-end
slice_bounds-put_line-end c = front_cut c.start_line-len.ensures c.start_line-len.auto.out

pub returns : goal.returns
returns c =
    own-written refl c.start_line-len.ensures (From 0) c.args.out.now (start-short c.args.n)
    c.put_line.ensures
