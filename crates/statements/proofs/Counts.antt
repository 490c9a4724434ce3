-- Q-8 of the call that runs: its contract computes to its promise, and asks nothing; so does that of the solver, and what counts/Counts says of both promises is said of the calls.
-- Assumes nothing.
use mathlib.Core.Path.{refl}
use Rattle.counts.specs.Counts.{reply_of, CountPost}
use Rattle.counts.proofs.Counts.{counts-hold}
use Rattle.counts_call.proofs.count_figures.Met as counting
use Rattle.statements.specs.Counts.{CallSolved, CountsRun}
use Rattle.statements.proofs.Running.{end-to-end-runs}

call-solved : CallSolved
call-solved κs a said left learnt accepted lf ls κs' b answer left' counted same-record same-table =
    counts-hold.solved a.0 said a.1.0.now a.1.1.0.now left.1.0.now left.1.1.0.now accepted lf ls learnt (reply_of answer)
    (let post : CountPost b.0 b.1.0.now (reply_of answer) = counted in rw (same-record, same-table) at post)

pub counts-run : CountsRun
counts-run =
    record {
      whole = counts-hold;
      solver = end-to-end-runs.solver;
      counts = record { asks = λ κs a. tt; tells = λ κs a answer left. refl; meets = counting.met };
      claims = λ κs a answer left learnt. counts-hold.claims a.0 a.1.0.now (reply_of answer) learnt;
      solved = call-solved;
    }
