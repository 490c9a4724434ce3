-- `railway_routes::put_past`, `put_over` and `put_laid` meet their contracts. They call each other with the points allowed falling: past a link, over a point with one
-- fewer allowed, with the point laid, and past the next link. Each return is one law of `Putting`. The ways of the minus leg are written first, and those of
-- the plus leg behind them, where there is room for as many again. Assumes nothing.
use Prim.Native.Nat.{◌*◌, ◌+◌}
use Rattle.railway_routes.proofs.+put_laid_put_over_put_past.Given as goal

-- THE MEASURES: what a call may assume at one, and what it has to show of those that it calls
abbrev pub decreases-put_laid : goal.decreases-put_laid
decreases-put_laid l = 3 * l.walk.left + 1

abbrev pub decreases-put_over : goal.decreases-put_over
decreases-put_over l = 3 * l.walk.left + 2

abbrev pub decreases-put_past : goal.decreases-put_past
decreases-put_past l = 3 * l.walk.left
