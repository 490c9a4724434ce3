-- `railway_passing::past_join` and `past_point` meet their contracts. They call each other with the points allowed falling:
-- past a join, over a point with one fewer allowed, and past the next join. Each return is one law of `Answers`.
-- Assumes nothing.
use Prim.Native.Nat.{◌*◌, ◌+◌}
use Rattle.railway_passing.proofs.+past_join_past_point.Given as goal

abbrev pub decreases-past_join : goal.decreases-past_join
decreases-past_join l = 2 * l.left

abbrev pub decreases-past_point : goal.decreases-past_point
decreases-past_point l = 2 * l.left + 1
