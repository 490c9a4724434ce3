-- The rule on refusals (document 01, under the table of numbers), for every call of the emitter and of the checker for a line, and for the test,
-- whatever it is handed: the rows of the case come before all else, and what is refused leaves state, tables and buffer as they were. Of fresh tables Promises says
-- it by an equation (`FreshPost`), and the calls for several lines are so many of these (Several). Assumes nothing.
use Rattle.std.specs.Prelude.{◌≡◌, ◌⊎◌, ◌↔◌, true, false, List, ℕ, ◌≤◌, ◌<◌, length, get_or, drop}
use Rattle.std.proofs.Math.Option.{none, some}
use Rattle.railway.specs.declared.Railway.{Railway}
use Rattle.railway.specs.declared.Refusal.{Refusal}
use Rattle.railway.specs.declared.Refusal.TheVariants.{Space, PlanForm, PlanFault}
use Rattle.game.specs.Placement.{start_code}
use Rattle.game_tables.specs.Tables.{case_refusal}
use Rattle.game_tables.specs.Solver.{Kept}
use Rattle.plan.specs.declared.PlanPlace.{PlanPlace}
use Rattle.plan.specs.Emitted.{Line, Refused as EmitRefused}
use Rattle.plan.specs.declared.CheckerState.TheVariants.{Fresh}
use Rattle.plan.specs.LineAnswer.{LineAnswer, Taken, Refused as LineRefused}
use Rattle.plan.specs.TestAnswer.{Refused as TestRefused}
use Rattle.plan.specs.Lines.{PlacementLine, start_line, placement_line, Spells, line_code}
use Rattle.plan.specs.Text.{has_figure}
use Rattle.plan.specs.Emitter.{is_line, Wrote, Due, due, emit_line}
use Rattle.plan.specs.Checker.{Checking, Left, line_entry, take_line, test_plan}

-- THE EMITTER. A line is due, and the buffer is shorter than it.
pub record TooShort (r : Railway) (figs sets : List ℕ) (place : PlanPlace) (buffer : List ℕ) : Type 0 where
  pub planned : has_figure figs (start_code r) ≡ true
  pub line : Due
  pub is-due : due r figs sets place ≡ some line
  pub shorter : length buffer < length line.text

-- A call that left w: a refusal by the record or the tables comes first; the only other one is space, exactly if the line is longer than the
-- buffer. Every answer but a line leaves the buffer, and a line reaches no byte behind itself.
pub record EmitRule (r : Railway) (figs sets : List ℕ) (place : PlanPlace) (buffer : List ℕ) (w : Wrote) : Type 0 where
  pub first : (f : Refusal) → case_refusal r figs sets ≡ some f → w.answer ≡ EmitRefused f
  pub others : (f : Refusal) → case_refusal r figs sets ≡ none → w.answer ≡ EmitRefused f → f ≡ Space
  pub space : case_refusal r figs sets ≡ none → (w.answer ≡ EmitRefused Space) ↔ TooShort r figs sets place buffer
  pub leaves : is_line w.answer ≡ false → w.buffer ≡ buffer
  pub fits : (n : ℕ) (next : PlanPlace) → w.answer ≡ Line n next → n ≤ length buffer
  pub past : (n : ℕ) (next : PlanPlace) → w.answer ≡ Line n next → drop n w.buffer ≡ drop n buffer
  pub as_long : length w.buffer ≡ length buffer

-- THE CHECKER. What a call for a line that left x may change, taken or refused: no table's length and nothing past the last code; nothing in the
-- tables for a first line; for a placement's line its own code alone, where its figure and setting stand if it was taken.
pub record LineChanges (r : Railway) (c : Checking) (text : List ℕ) (x : Left LineAnswer) : Type 0 where
  pub kept-figs : Kept r c.figs x.checking.figs
  pub kept_sets : Kept r c.sets x.checking.sets
  pub first-line : (n : ℕ) → Spells r text (start_line n) → (x.checking.figs ≡ c.figs) × (x.checking.sets ≡ c.sets)
  pub other-codes : (d : PlacementLine) → Spells r text (placement_line d) → (p : ℕ) → ¬ (p ≡ line_code r d)
      → (get_or x.checking.figs p 0 ≡ get_or c.figs p 0) × (get_or x.checking.sets p 0 ≡ get_or c.sets p 0)
  pub own_code : (d : PlacementLine) → Spells r text (placement_line d) → x.answer ≡ Taken
      → (get_or x.checking.figs (line_code r d) 0 ≡ d.figure) × (get_or x.checking.sets (line_code r d) 0 ≡ line_entry r d)

-- Behind the rows of the case a line is refused as plan form only, and the test as plan form exactly before the first line, else as plan fault only; the
-- test leaves all as it was, whatever it answers.
pub record CheckRule (r : Railway) (c : Checking) : Type 0 where
  pub line_first : (text : List ℕ) (f : Refusal) → case_refusal r c.figs c.sets ≡ some f → (take_line r c text).answer ≡ LineRefused f
  pub line-others : (text : List ℕ) (f : Refusal) → case_refusal r c.figs c.sets ≡ none → (take_line r c text).answer ≡ LineRefused f → f ≡ PlanForm
  pub line-leaves : (text : List ℕ) (f : Refusal) → (take_line r c text).answer ≡ LineRefused f → (take_line r c text).checking ≡ c
  pub line-changes : (text : List ℕ) → LineChanges r c text (take_line r c text)
  pub test-first : (f : Refusal) → case_refusal r c.figs c.sets ≡ some f → (test_plan r c).answer ≡ TestRefused f
  pub test-early : case_refusal r c.figs c.sets ≡ none → ((test_plan r c).answer ≡ TestRefused PlanForm) ↔ (c.state ≡ Fresh)
  pub test-others : (f : Refusal) → case_refusal r c.figs c.sets ≡ none → (test_plan r c).answer ≡ TestRefused f → (f ≡ PlanForm) ⊎ (f ≡ PlanFault)
  pub test-leaves : (test_plan r c).checking ≡ c

-- The rule holds of every call of the emitter.
abbrev pub EmitRuleHolds : Type 0
EmitRuleHolds = (r : Railway) (figs sets : List ℕ) (place : PlanPlace) (buffer : List ℕ) → EmitRule r figs sets place buffer (emit_line r figs sets place buffer)

-- It holds of every call of the checker.
abbrev pub CheckRuleHolds : Type 0
CheckRuleHolds = (r : Railway) (c : Checking) → CheckRule r c
