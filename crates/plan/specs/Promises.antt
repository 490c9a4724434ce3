-- What each call of emitter and checker promises: the answer and what is left, as Emitter and Checker define them, and its number, that of the
-- first row that applies, by the table of numbers (document 01). The contracts of the calls cite these records, and EndToEnd speaks of any calls of
-- which they hold: part of what is to be believed. Assumes nothing.
use Rattle.std.specs.Prelude.{◌≡◌, List, ℕ}
use Rattle.railway.specs.declared.Railway.{Railway}
use Rattle.railway.specs.CaseAnswer.{CaseAnswer}
use Rattle.railway.specs.Refusals.{first, number_of, number_given as caseNumber}
use Rattle.game_tables.specs.Tables.{case_refusal}
use Rattle.plan.specs.declared.PlanPlace.{PlanPlace}
use Rattle.plan.specs.Emitted.{Emitted}
use Rattle.plan.specs.LineAnswer.{LineAnswer}
use Rattle.plan.specs.TestAnswer.{TestAnswer}
use Rattle.plan.specs.Emitter.{number_given, emitter_rows, emit_line}
use Rattle.plan.specs.Checker.{line_number, test_number, Checking, freshened, line_rows, take_line, test_rows, test_plan}

-- The emitter, handed a buffer that comes back as `new`.
pub record EmitterPost (r : Railway) (figs sets : List ℕ) (place : PlanPlace) (old : List ℕ) (a : Emitted) (new : List ℕ) : Type 0 where
  pub answer : a ≡ (emit_line r figs sets place old).answer
  pub numbered : number_given a ≡ number_of (first (emitter_rows r figs sets place old))
  pub buffer : new ≡ (emit_line r figs sets place old).buffer

-- The checker, handed a line, with state and tables that come back as `new`.
pub record LinePost (r : Railway) (old : Checking) (text : List ℕ) (a : LineAnswer) (new : Checking) : Type 0 where
  pub answer : a ≡ (take_line r old text).answer
  pub numbered : line_number a ≡ number_of (first (line_rows r old text))
  pub checking : new ≡ (take_line r old text).checking

-- The checker, asked for the test.
pub record TestPost (r : Railway) (old : Checking) (a : TestAnswer) (new : Checking) : Type 0 where
  pub answer : a ≡ (test_plan r old).answer
  pub numbered : test_number a ≡ number_of (first (test_rows r old))
  pub checking : new ≡ (test_plan r old).checking

-- The call that makes two lent tables fresh, whatever stands in them, and hands out the state that has taken no line: it refuses by the rows of the case,
-- and else writes none in the one table and zero in the other at every code.
pub record FreshPost (r : Railway) (figs sets : List ℕ) (a : CaseAnswer) (new : Checking) : Type 0 where
  pub numbered : caseNumber a ≡ number_of (case_refusal r figs sets)
  pub checking : new ≡ freshened r figs sets (case_refusal r figs sets)
