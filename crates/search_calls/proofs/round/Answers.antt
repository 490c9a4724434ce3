-- `search_calls::round` meets its contract: the case is refused, or the search stays as it is, is counted on, or has one round more on the entries of the placements.
-- Assumes nothing.
use mathlib.Core.Path.{refl, sym}
use mathlib.Core.Logic.{inl, inr}
use Prim.Native.Nat.{◌≤◌}
use lib.ListN.{length}
use native.Mathlib.Omega.{arith}
use lib.Seq.{length-take-le}
use Rattle.std.proofs.lemmas.Result.{err_from_is_err_and}
use Rattle.search_calls.proofs.Standings.{room, round-refused, round-rests, round-counted, round-finished}
use Rattle.search_calls.proofs.round.Goals as goal
use Rattle.search_calls.proofs.round.Goals.{then-search-via-then-search, then-search-via-else-search+then-search-gt-LAST_ROUND, After-placements-m}

pub returns-in_err-table : goal.returns-in_err-table
returns-in_err-table c =
    let p = err_from_is_err_and c.from_residual.result c.from_residual.ensures.1 in
    rw (p.1, p.2)
    (round-refused c.args.r c.args.figures.now c.args.settings.now c.args.marks.now _ c.in_err-table.ensures _ refl
    c.args.search.now)

pub returns-then-search : goal.returns-then-search
returns-then-search c =
    round-rests c.args.r c.args.figures.now c.args.settings.now c.args.marks.now _ c.in_ok-table.ensures refl
    c.args.search.now _ c.stage.ensures
    (elim c.then-search.branch [
      | then-search-via-then-search w ↦ inl w.if-search.true
      | then-search-via-else-search+then-search-gt-LAST_ROUND w ↦ inr (omega (arith, w.if-search-gt-LAST_ROUND.true))
    ])

pub returns-then-n-coming : goal.returns-then-n-coming
returns-then-n-coming c =
    round-counted c.args.r c.args.figures.now c.args.settings.now c.args.marks.now _ c.in_ok-table.ensures refl
    c.args.search.now _ _ (omega (arith, c.if-search-gt-LAST_ROUND.false))
    (omega (arith, c.coming_before_last-coming.type_inv)) c.coming_before_last-coming.ensures c.if-search.false
    c.if-n-coming.true c.stage-then-n-coming.ensures

-- an entry of both tables for each placement
enough : (c : After-placements-m) → (c.placements-m.result ≤ length c.args.figures.now) × (c.placements-m.result ≤ length c.args.settings.now)
enough c =
    room c.args.r c.args.figures.now c.args.settings.now c.args.marks.now _ c.in_ok-table.ensures refl _
    c.placements-m.ensures

pub slice_bounds-finish-end : goal.slice_bounds-finish-end
slice_bounds-finish-end c = (enough (goal.at.slice_bounds-finish-end c).After-placements-m).0

pub slice_bounds-finish-end-2 : goal.slice_bounds-finish-end-2
slice_bounds-finish-end-2 c = sym (length-take-le _ _ (enough (goal.at.slice_bounds-finish-end-2 c).After-placements-m).0)

pub slice_bounds-finish-end-3 : goal.slice_bounds-finish-end-3
slice_bounds-finish-end-3 c = (enough (goal.at.slice_bounds-finish-end-3 c).After-placements-m).1

pub slice_bounds-finish-end-4 : goal.slice_bounds-finish-end-4
slice_bounds-finish-end-4 c = sym (length-take-le _ _ (enough (goal.at.slice_bounds-finish-end-4 c).After-placements-m).1)

pub returns : goal.returns
returns c =
    round-finished c.args.r c.args.figures.now c.args.settings.now c.args.marks.now _ c.in_ok-table.ensures refl
    c.args.search.now _ _ _ _ c.finish.ensures.counted _ _ _ c.placements-m.ensures
    c.if-search.false (omega (arith, c.if-search-gt-LAST_ROUND.false))
    (omega (arith, c.coming_before_last-coming.type_inv)) c.coming_before_last-coming.ensures (omega (arith, c.if-n-coming.false))
    c.finish.auto.figures c.finish.auto.settings
    (λ n h lf ls few e tables marked. c.finish.ensures.finished c.args.r n h c.case_ways-ways.ensures
    c.ways_behind-behind.ensures lf ls few e tables marked) c.stage-2.ensures
