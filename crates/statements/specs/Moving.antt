-- Moves under whole settings, of the calls that run (document 01, "A turn"): a railway is compiled and its ways are laid, and a move asked of both with the
-- entry of a setting; the answer is what the move ends in under that setting, whatever else the setting says. `Asked`, `Learnt` and `Statement` are as in Running. Assumes nothing.
use Rattle.std.specs.Prelude.{◌≡◌, false, cond}
use Rattle.std.proofs.Math.Option.{none, some}
use denote.Triple.Clauses.{AtExit}
use contract.Lifetimes.{Lfts}
use borrow.Fn.Kinds.{Dens, res_t, ended_of}
use Rattle.railway.specs.declared.Railway.{Railway}
use Rattle.railway.specs.Record.{is_closed}
use Rattle.railway.specs.Rows.{record_refusal}
use Rattle.railway_routes.specs.Routes.{Laid}
use Rattle.game.specs.Game.{may}
use Rattle.game.specs.Placement.{shared}
use Rattle.game.specs.Setting.{Setting}
use Rattle.game.specs.Moves.{move_of, game_of}
use Rattle.game_tables.specs.Entries.{entry_of}
use Rattle.railway_compiled.specs.Table.{Compiled, compilation, CompilePost}
use Rattle.railway_compiled.proofs.compile.Kinds as compile
use Rattle.railway_compiled.proofs.compile.Reads.{Asked as CompileAsked, Learnt as CompileLearnt}
use Rattle.railway_compiled.proofs.compile.Statement.{statement as CompileMeets}
use Rattle.game_case.proofs.case_ways.Kinds as ways
use Rattle.game_case.proofs.case_ways.Reads.{Asked as WaysAsked, Learnt as WaysLearnt}
use Rattle.game_case.proofs.case_ways.Statement.{statement as WaysMeet}
use Rattle.game_moves.specs.Answers.{ended, move_under}
use Rattle.game_moves.proofs.move_of.Kinds as move
use Rattle.game_moves.proofs.move_of.Reads.{Asked as MoveAsked, Learnt as MoveLearnt}
use Rattle.game_moves.proofs.move_of.Statement.{statement as MoveMeets}

-- `railway_compiled::compile`: the record; the answer has the table.
pub record CompileRuns : Type 2 where
  pub asks : (κs : Lfts 0) (a : Dens κs compile.ps) → CompileAsked κs a
  pub tells : (κs : Lfts 0) (a : Dens κs compile.ps) (answer : (res_t compile.r κs).Denot) (left : AtExit (ended_of 0 compile.ps compile.r) κs)
      → CompileLearnt κs a answer left ≡ CompilePost a.0 (compilation answer)
  pub meets : {M : Type 1} → CompileMeets M

-- `game_case::case_ways`: the record; the answer is the table of its ways.
pub record WaysRun : Type 2 where
  pub asks : (κs : Lfts 0) (a : Dens κs ways.ps) → WaysAsked κs a
  pub tells : (κs : Lfts 0) (a : Dens κs ways.ps) (answer : (res_t ways.r κs).Denot) (left : AtExit (ended_of 0 ways.ps ways.r) κs)
      → WaysLearnt κs a answer left ≡ Laid a.0 (is_closed a.0) answer
  pub meets : {M : Type 1} → WaysMeet M

-- `game_moves::move_of`: the table, the ways, the code of a placement, an entry, the train.
pub record MoveRuns : Type 2 where
  pub asks : (κs : Lfts 2) (a : Dens κs move.ps) → MoveAsked κs a
  pub tells : (κs : Lfts 2) (a : Dens κs move.ps) (answer : (res_t move.r κs).Denot) (left : AtExit (ended_of 2 move.ps move.r) κs)
      → MoveLearnt κs a answer left
      ≡ ((r : Railway) → Compiled r a.0.now → Laid r (is_closed r) a.1.0.now → ended answer ≡ move_under r a.1.1.0 a.1.1.1.0 a.1.1.1.1.0)
  pub meets : {M : Type 1} → MoveMeets M

-- Of the table that `compile` gave for an accepted railway, and the ways that `case_ways` gave for it, `move_of` answers what moving the train ends in under any
-- whole setting whose entry it is handed; none where the train is not there or may not move. Trains that share a section have lost already.
abbrev pub MovesHold : Type 0
MovesHold =
    (κs : Lfts 0) (a : Dens κs compile.ps) (c : (res_t compile.r κs).Denot) (left : AtExit (ended_of 0 compile.ps compile.r) κs)
    → record_refusal a.0 ≡ none → CompileLearnt κs a c left
    → (κsʷ : Lfts 0) (d : Dens κsʷ ways.ps) (w : (res_t ways.r κsʷ).Denot) (leftʷ : AtExit (ended_of 0 ways.ps ways.r) κsʷ)
    → d.0 ≡ a.0 → WaysLearnt κsʷ d w leftʷ
    → (κs' : Lfts 2) (b : Dens κs' move.ps) (m : (res_t move.r κs').Denot) (left' : AtExit (ended_of 2 move.ps move.r) κs')
    → b.0.now ≡ (compilation c).table → b.1.0.now ≡ w → MoveLearnt κs' b m left' → shared a.0 b.1.1.0 ≡ false
    → (s : Setting) → b.1.1.1.0 ≡ entry_of a.0 b.1.1.0 s
    → ended m ≡ cond (may (game_of a.0) b.1.1.0 s b.1.1.1.1.0) (some (move_of a.0 b.1.1.0 s b.1.1.1.1.0)) none

-- MOVES, of the calls that run.
pub record MovesRun : Type 2 where
  pub whole : MovesHold
  pub compile : CompileRuns
  pub ways : WaysRun
  pub move : MoveRuns
