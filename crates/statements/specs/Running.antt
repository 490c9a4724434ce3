-- Demand 3 of the solver, the emitter and the checker as they run (document 01, "Agreement"). Of a call the prover makes three propositions from its
-- contract and its code: `Asked`, what it asks of its caller; `Learnt`, what it tells the caller of the arguments, the answer, and what was lent, as the call
-- leaves it; and `Statement`, that the routine that runs meets the contract. Here every call asks nothing, tells the promise of which plan/EndToEnd speaks
-- and nothing else (the same proposition), and meets its contract. Arguments stand in the order of the signature, one within the other: `a.0` is the first,
-- `a.1.0` the second. Assumes nothing.
use Rattle.std.specs.Prelude.{◌≡◌, ◌≤◌, length}
use Rattle.std.proofs.Math.Option.{none}
use denote.Triple.Clauses.{AtExit}
use contract.Lifetimes.{Lfts}
use borrow.Fn.Kinds.{Dens, res_t, ended_of}
use Rattle.railway.specs.Rows.{record_refusal}
use Rattle.game.specs.Placement.{placements}
use Rattle.game_tables.specs.Solver.{SolverPost}
use Rattle.plan.specs.EndToEnd.{EndToEnd}
use Rattle.plan.specs.Promises.{EmitterPost, LinePost, TestPost, FreshPost}
use Rattle.plan.specs.Several.{EmitLinesPost, FrontPost}
use Rattle.plan_checker.specs.Answers.{checking}
use Rattle.solver.proofs.solve.Kinds as solve
use Rattle.solver.proofs.solve.Reads.{Asked as SolveAsked, Learnt as SolveLearnt}
use Rattle.solver.proofs.solve.Statement.{statement as SolveMeets}
use Rattle.plan_emitter.proofs.emit_line.Kinds as emit
use Rattle.plan_emitter.proofs.emit_line.Reads.{Asked as EmitAsked, Learnt as EmitLearnt}
use Rattle.plan_emitter.proofs.emit_line.Statement.{statement as EmitMeets}
use Rattle.plan_emitter.proofs.emit_lines.Kinds as lines
use Rattle.plan_emitter.proofs.emit_lines.Reads.{Asked as LinesAsked, Learnt as LinesLearnt}
use Rattle.plan_emitter.proofs.emit_lines.Statement.{statement as LinesMeets}
use Rattle.plan_checker.proofs.Checker.fresh.Kinds as fresh
use Rattle.plan_checker.proofs.Checker.fresh.Reads.{Asked as FreshAsked, Learnt as FreshLearnt}
use Rattle.plan_checker.proofs.Checker.fresh.Statement.{statement as FreshMeets}
use Rattle.plan_checker.proofs.Checker.take.Kinds as take
use Rattle.plan_checker.proofs.Checker.take.Reads.{Asked as TakeAsked, Learnt as TakeLearnt}
use Rattle.plan_checker.proofs.Checker.take.Statement.{statement as TakeMeets}
use Rattle.plan_checker.proofs.Checker.take_front.Kinds as front
use Rattle.plan_checker.proofs.Checker.take_front.Reads.{Asked as FrontAsked, Learnt as FrontLearnt}
use Rattle.plan_checker.proofs.Checker.take_front.Statement.{statement as FrontMeets}
use Rattle.plan_checker.proofs.Checker.test.Kinds as test
use Rattle.plan_checker.proofs.Checker.test.Reads.{Asked as TestAsked, Learnt as TestLearnt}
use Rattle.plan_checker.proofs.Checker.test.Statement.{statement as TestMeets}

-- `solver::solve`: the record, the figures, the settings; its answer; the two tables as it leaves them.
pub record SolverRuns : Type 2 where
  pub asks : (κs : Lfts 2) (a : Dens κs solve.ps) → SolveAsked κs a
  pub tells : (κs : Lfts 2) (a : Dens κs solve.ps) (answer : (res_t solve.r κs).Denot) (left : AtExit (ended_of 2 solve.ps solve.r) κs)
      → SolveLearnt κs a answer left ≡ SolverPost a.0 answer a.1.0.now a.1.1.0.now left.1.0.now left.1.1.0.now
  pub meets : {M : Type 1} → SolveMeets M

-- `plan_emitter::emit_line`: the record, the figures, the settings, the place, the buffer.
pub record EmitterRuns : Type 2 where
  pub asks : (κs : Lfts 3) (a : Dens κs emit.ps) → EmitAsked κs a
  pub tells : (κs : Lfts 3) (a : Dens κs emit.ps) (answer : (res_t emit.r κs).Denot) (left : AtExit (ended_of 3 emit.ps emit.r) κs)
      → EmitLearnt κs a answer left ≡ EmitterPost a.0 a.1.0.now a.1.1.0.now a.1.1.1.0 a.1.1.1.1.0.now answer left.1.1.1.1.0.now
  pub meets : {M : Type 1} → EmitMeets M

-- `plan_emitter::emit_lines`: the same arguments, for as many lines as have room.
pub record LinesRuns : Type 2 where
  pub asks : (κs : Lfts 3) (a : Dens κs lines.ps) → LinesAsked κs a
  pub tells : (κs : Lfts 3) (a : Dens κs lines.ps) (answer : (res_t lines.r κs).Denot) (left : AtExit (ended_of 3 lines.ps lines.r) κs)
      → LinesLearnt κs a answer left ≡ EmitLinesPost a.0 a.1.0.now a.1.1.0.now a.1.1.1.0 a.1.1.1.1.0.now answer left.1.1.1.1.0.now
  pub meets : {M : Type 1} → LinesMeets M

-- `Checker::fresh`: the record, the figures, the settings.
pub record FreshRuns : Type 2 where
  pub asks : (κs : Lfts 2) (a : Dens κs fresh.ps) → FreshAsked κs a
  pub tells : (κs : Lfts 2) (a : Dens κs fresh.ps) (answer : (res_t fresh.r κs).Denot) (left : AtExit (ended_of 2 fresh.ps fresh.r) κs)
      → FreshLearnt κs a answer left ≡ FreshPost a.0 a.1.0.now a.1.1.0.now answer.1 (checking answer.0 left.1.0.now left.1.1.0.now)
  pub meets : {M : Type 1} → FreshMeets M

-- `Checker::take`: the checker, the record, the line, the figures, the settings.
pub record TakeRuns : Type 2 where
  pub asks : (κs : Lfts 4) (a : Dens κs take.ps) → TakeAsked κs a
  pub tells : (κs : Lfts 4) (a : Dens κs take.ps) (answer : (res_t take.r κs).Denot) (left : AtExit (ended_of 4 take.ps take.r) κs)
      → TakeLearnt κs a answer left
      ≡ LinePost a.1.0 (checking a.0.now a.1.1.1.0.now a.1.1.1.1.0.now) a.1.1.0.now answer
      (checking left.0.now left.1.1.1.0.now left.1.1.1.1.0.now)
  pub meets : {M : Type 1} → TakeMeets M

-- `Checker::take_front`: the same, for the lines in front of a text.
pub record FrontRuns : Type 2 where
  pub asks : (κs : Lfts 4) (a : Dens κs front.ps) → FrontAsked κs a
  pub tells : (κs : Lfts 4) (a : Dens κs front.ps) (answer : (res_t front.r κs).Denot) (left : AtExit (ended_of 4 front.ps front.r) κs)
      → FrontLearnt κs a answer left
      ≡ FrontPost a.1.0 (checking a.0.now a.1.1.1.0.now a.1.1.1.1.0.now) a.1.1.0.now answer
      (checking left.0.now left.1.1.1.0.now left.1.1.1.1.0.now)
  pub meets : {M : Type 1} → FrontMeets M

-- `Checker::test`: the checker, the record, the figures, the settings, which it only reads.
pub record TestRuns : Type 2 where
  pub asks : (κs : Lfts 3) (a : Dens κs test.ps) → TestAsked κs a
  pub tells : (κs : Lfts 3) (a : Dens κs test.ps) (answer : (res_t test.r κs).Denot) (left : AtExit (ended_of 3 test.ps test.r) κs)
      → TestLearnt κs a answer left
      ≡ TestPost a.1.0 (checking a.0.now a.1.1.0.now a.1.1.1.0.now) answer (checking a.0.now a.1.1.0.now a.1.1.1.0.now)
  pub meets : {M : Type 1} → TestMeets M

-- The whole holds of every call of the solver, in an accepted case with tables long enough.
abbrev pub SolvedHolds : Type 0
SolvedHolds =
    (κs : Lfts 2) (a : Dens κs solve.ps) (answer : (res_t solve.r κs).Denot) (left : AtExit (ended_of 2 solve.ps solve.r) κs)
    → record_refusal a.0 ≡ none → placements a.0 ≤ length a.1.0.now → placements a.0 ≤ length a.1.1.0.now
    → SolveLearnt κs a answer left → EndToEnd a.0 answer left.1.0.now left.1.1.0.now

-- DEMAND 3, of the calls that run: the whole holds of what the solver answers and leaves, and where it speaks of the emitter's calls and the checker's, one
-- after the other, it speaks of the contracts of `emit_line` and `emit_lines`, `fresh`, `take`, `take_front` and `test`, which ask nothing and are met.
pub record EndToEndRuns : Type 2 where
  pub whole : SolvedHolds
  pub solver : SolverRuns
  pub emitter : EmitterRuns
  pub fresh : FreshRuns
  pub take : TakeRuns
  pub test : TestRuns
  pub lines : LinesRuns
  pub front : FrontRuns
