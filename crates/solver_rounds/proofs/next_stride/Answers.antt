-- `solver_rounds::next_stride` meets its contract: one factor more, which fits, up to the most trains. Assumes nothing.
use native.Mathlib.Omega.{arith}
use Rattle.solver_rounds.proofs.Retracing.{stride-next}
use Rattle.solver_rounds.proofs.next_stride.Goals as goal

pub returns-then-t-lt-TRAINS : goal.returns-then-t-lt-TRAINS
returns-then-t-lt-TRAINS c = λ e. stride-next c.args.s c.args.t c.args.stride e (omega (arith, c.ranges.s)) c.if-t-lt-TRAINS.true
