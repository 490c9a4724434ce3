-- `check_files::hear` meets its contract. The loop's invariant: the calls for the bytes that have come stand where they should (`Listening`).
-- Assumes nothing.
use mathlib.Core.Path.{refl, ◌∙◌}
use Rattle.check_files.proofs.Hearing.{listening-start, listening-next, listening-less, listening-end}
use Rattle.check_files.proofs.hear.Goals as goal

pub loop-going-init : goal.loop-going-init
loop-going-init g c = (refl, refl, listening-start _ _ _)

pub turn-stand-requires : goal.turn-stand-requires
turn-stand-requires g c = let l = c.loop-going.invariant.2 in (l.behind, l.within)

pub loop-going-smaller : goal.loop-going-smaller
loop-going-smaller g c = listening-less _ _ _ _ _ _ _ c.loop-going.invariant.2 _ _ _ _ _ c.turn-stand.ensures _ c.loop-going-test.true

pub loop-going-preserved : goal.loop-going-preserved
loop-going-preserved g c = (
  c.turn-stand.auto.figures ∙ c.loop-going.invariant.0,
  c.turn-stand.auto.settings ∙ c.loop-going.invariant.1,
  listening-next _ _ _ _ _ _ _ c.loop-going.invariant.2 _ _ _ _ _ c.turn-stand.ensures,
)

pub slice_bounds-finish-count : goal.slice_bounds-finish-count
slice_bounds-finish-count g c = c.loop-going.invariant.2.behind

pub slice_bounds-finish-start : goal.slice_bounds-finish-start
slice_bounds-finish-start g c = c.loop-going.invariant.2.behind

pub slice_bounds-finish-end : goal.slice_bounds-finish-end
slice_bounds-finish-end g c = c.loop-going.invariant.2.within

pub returns : goal.returns
returns g c = listening-end _ _ _ _ _ _ _ c.loop-going.invariant.2 _ c.finish-answer.ensures
