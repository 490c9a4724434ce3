-- `thin_text::railway_text` meets its contract: tables made fresh, the lines in front taken, and the end.
-- Assumes nothing.
use Rattle.check_text.proofs.Pieces.{piece-within}
use Rattle.thin_text.proofs.Lean.{plan-put, to_the_end}
use Rattle.thin_text.proofs.railway_text.Goals as goal

pub slice_bounds-end_text-count : goal.slice_bounds-end_text-count
slice_bounds-end_text-count c = piece-within _ _ _ _ _ _ c.go_on-gone.ensures

pub slice_bounds-end_text-start : goal.slice_bounds-end_text-start
slice_bounds-end_text-start c = piece-within _ _ _ _ _ _ c.go_on-gone.ensures

pub returns : goal.returns
returns c = plan-put c.args.r c.args.plan.now _ _ _ _ _ _ c.fresh.ensures _ _ _ c.go_on-gone.ensures (to_the_end c.args.plan.now _) c.end_text.ensures
