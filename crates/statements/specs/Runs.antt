-- Shortest runs (document 02, Q-3), of the calls that run: what runs/Runs says of the tables of both headings, and of figures beside them, is said of the contract of `run_table`, which asks nothing
-- and is met, and of that of `solve`. Arguments are written as in Running. Assumes nothing.
use Rattle.std.specs.Prelude.{◌≡◌, ◌≤◌, length}
use Rattle.std.proofs.Math.Option.{none}
use denote.Triple.Clauses.{AtExit}
use contract.Lifetimes.{Lfts}
use borrow.Fn.Kinds.{Dens, res_t, ended_of}
use Rattle.railway.specs.declared.Side.{Side}
use Rattle.railway.specs.declared.Side.TheVariants.{Up, Down}
use Rattle.railway.specs.declared.Railway.{Railway}
use Rattle.railway.specs.Rows.{record_refusal}
use Rattle.game.specs.Placement.{placements}
use Rattle.game_tables.specs.SolverAnswer.{SolverAnswer}
use Rattle.runs.specs.Runs.{RunReply, replied, table_in, RunPost, Bounded, RunsSay, RunsHold}
use Rattle.statements.specs.Running.{SolverRuns}
use Rattle.solver.proofs.solve.Kinds as solve
use Rattle.solver.proofs.solve.Reads.{Learnt as SolveLearnt}
use Rattle.runs_tables.proofs.run_table.Kinds as table
use Rattle.runs_tables.proofs.run_table.Reads.{Asked as TableAsked, Learnt as TableLearnt}
use Rattle.runs_tables.proofs.run_table.Statement.{statement as TableMeets}

-- `runs_tables::run_table`: the record, the heading, the table that is handed in; its answer has the table that is handed back. Nothing is lent.
pub record TableRuns : Type 2 where
  pub asks : (κs : Lfts 0) (a : Dens κs table.ps) → TableAsked κs a
  pub tells : (κs : Lfts 0) (a : Dens κs table.ps) (answer : (res_t table.r κs).Denot) (left : AtExit (ended_of 0 table.ps table.r) κs)
      → TableLearnt κs a answer left ≡ RunPost a.0 a.1.0 a.1.1.0 (replied a.1.1.0 answer)
  pub meets : {M : Type 1} → TableMeets M

-- A call of `run_table` for this record and heading, whatever table it was handed, and what it answered.
pub record TableCall (r : Railway) (heading : Side) (answer : RunReply) : Type 2 where
  pub κs : Lfts 0
  pub args : Dens κs table.ps
  pub left : AtExit (ended_of 0 table.ps table.r) κs
  pub of-record : args.0 ≡ r
  pub of-heading : args.1.0 ≡ heading
  pub said : (res_t table.r κs).Denot
  pub learnt : TableLearnt κs args said left
  pub replies : replied args.1.1.0 said ≡ answer

-- A call of `solve` for this record, lent tables that are long enough, and what it answered.
pub record SolveCall (r : Railway) (answer : SolverAnswer) : Type 2 where
  pub κs : Lfts 2
  pub args : Dens κs solve.ps
  pub left : AtExit (ended_of 2 solve.ps solve.r) κs
  pub of-record : args.0 ≡ r
  pub enough-figures : placements r ≤ length args.1.0.now
  pub enough-settings : placements r ≤ length args.1.1.0.now
  pub learnt : SolveLearnt κs args answer left

-- Q-3, of the calls that run: the statement; the two contracts; and so, of any calls for both headings of an accepted
-- record, what their tables say, and of any call of the solver for it, that no figure which it answers is below the
-- sum of the runs, and that where some train has no run it answers none.
pub record RunsRun : Type 2 where
  pub whole : RunsHold
  pub solver : SolverRuns
  pub table : TableRuns
  pub says : (r : Railway) → record_refusal r ≡ none → (up down : RunReply) → TableCall r Up up → TableCall r Down down → RunsSay r (table_in up) (table_in down)
  pub bounded : (r : Railway) → record_refusal r ≡ none → (up down : RunReply) → TableCall r Up up → TableCall r Down down
      → (answer : SolverAnswer) → SolveCall r answer → Bounded r (table_in up) (table_in down) answer
