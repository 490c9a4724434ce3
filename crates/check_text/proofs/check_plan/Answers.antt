-- `check_text::check_plan` meets its contract: a text that comes in one piece is decided as every text is.
-- Assumes nothing.
use mathlib.Core.Path.{refl}
use Rattle.check_text.proofs.Pieces.{piece-within, one_piece}
use Rattle.check_text.proofs.check_plan.Goals as goal

pub slice_bounds-finish-count : goal.slice_bounds-finish-count
slice_bounds-finish-count c = piece-within _ _ _ _ _ _ c.go_on-gone.ensures

pub slice_bounds-finish-start : goal.slice_bounds-finish-start
slice_bounds-finish-start c = piece-within _ _ _ _ _ _ c.go_on-gone.ensures

pub returns : goal.returns
returns c =
    one_piece c.args.r _ _ _ _ refl refl c.fresh.ensures c.args.plan.now _ _ _ c.go_on-gone.ensures _
    c.finish.ensures
