-- `plan_checker::freshen` meets its contract: the case is refused and nothing is written, or both tables are filled up to the last code.
-- Assumes nothing.
use mathlib.Core.Path.{refl}
use Rattle.plan_checker.proofs.Freshening.{enough, front_long, front-filled, fresh-filled}
use Rattle.plan_checker.proofs.freshen.Goals as goal

pub slice_bounds-fill-end : goal.slice_bounds-fill-end
slice_bounds-fill-end c =
    (enough c.args.r c.args.figures.now c.args.settings.now c.in_ok-table.ensures refl _ c.placements-n.ensures).0

pub slice_bounds-fill-end-2 : goal.slice_bounds-fill-end-2
slice_bounds-fill-end-2 c =
    front_long _ _ (enough c.args.r c.args.figures.now c.args.settings.now c.in_ok-table.ensures refl _ c.placements-n.ensures).0

pub slice_bounds-fill-end-3 : goal.slice_bounds-fill-end-3
slice_bounds-fill-end-3 c =
    (enough c.args.r c.args.figures.now c.args.settings.now c.in_ok-table.ensures refl _ c.placements-n.ensures).1

pub slice_bounds-fill-end-4 : goal.slice_bounds-fill-end-4
slice_bounds-fill-end-4 c =
    front_long _ _ (enough c.args.r c.args.figures.now c.args.settings.now c.in_ok-table.ensures refl _ c.placements-n.ensures).1

pub returns : goal.returns
returns c =
    λ k s.
    let few = enough c.args.r c.args.figures.now c.args.settings.now c.in_ok-table.ensures refl _ c.placements-n.ensures in
    fresh-filled c.args.r c.args.figures.now c.args.settings.now c.in_ok-table.ensures refl _ c.placements-n.ensures _ _ refl s
    (front-filled _ _ _ few.0 (c.fill.ensures.after (λ y e. e))) (front-filled _ _ _ few.1 (c.fill-2.ensures.after (λ y e. e)))
