-- Q-3 of the calls that run: the contract of the call for a table computes to its promise, and asks nothing; so the statement, which is of promises, is of calls. Assumes nothing.
use mathlib.Core.Path.{◌≡◌, refl}
use mathlib.Core.Option.{none}
use Rattle.railway.specs.declared.Side.{Side}
use Rattle.railway.specs.declared.Side.TheVariants.{Up, Down}
use Rattle.railway.specs.declared.Railway.{Railway}
use Rattle.railway.specs.Rows.{record_refusal}
use Rattle.game_tables.specs.SolverAnswer.{SolverAnswer}
use Rattle.game_tables.specs.Solver.{SolverPost}
use Rattle.runs.specs.Runs.{RunReply, table_in, RunPost, RunsSay}
use Rattle.runs.proofs.Runs.{runs-hold}
use Rattle.runs_tables.proofs.run_table.Met as table
use Rattle.statements.specs.Runs.{TableCall, SolveCall, RunsRun}
use Rattle.statements.proofs.Running.{end-to-end-runs}

-- what a call was told, of the record and heading that it was for
told : {r : Railway} {heading : Side} {answer : RunReply} → (c : TableCall r heading answer) → RunPost r heading c.args.1.1.0 answer
told c = rw (c.of-record, c.of-heading, c.replies) at c.learnt

solved : {r : Railway} {answer : SolverAnswer} → (c : SolveCall r answer) → SolverPost r answer c.args.1.0.now c.args.1.1.0.now c.left.1.0.now c.left.1.1.0.now
solved c = rw c.of-record at c.learnt

said : (r : Railway) → record_refusal r ≡ none → (up down : RunReply) → TableCall r Up up → TableCall r Down down → RunsSay r (table_in up) (table_in down)
said r accepted up down u d = runs-hold r accepted _ _ up down (told u) (told d)

pub runs-run : RunsRun
runs-run =
    record {
      whole = runs-hold;
      solver = end-to-end-runs.solver;
      table = record { asks = λ κs a. tt; tells = λ κs a answer left. refl; meets = table.met };
      says = said;
      bounded = λ r accepted up down u d answer c. (said r accepted up down u d).solver answer _ _ _ _ c.enough-figures c.enough-settings (solved c);
    }
