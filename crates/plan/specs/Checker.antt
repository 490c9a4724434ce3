-- The checker: a call for each line, into two lent tables, and a call for the test (document 01, "The two tables and the plan": the checker).
-- Each call is total: any record, state, tables and text. `read_line` gives the line that a text spells, and `test_holds` whether what the tables
-- list passes the test of a plan; both are said in Checked, and that the tables list what the lines taken do. Assumes nothing.
use Rattle.std.specs.Prelude.{Bool, true, false, not, List, [], ◌∷◌, ◌++◌, ℕ, suc, get_or, set, replicate, drop, ltb}
use Rattle.std.proofs.Math.Option.{Option, none, some}
use Rattle.railway.specs.declared.Railway.{Railway}
use Rattle.railway.specs.declared.Refusal.{Refusal}
use Rattle.railway.specs.declared.Refusal.TheVariants.{PlanForm, PlanFault}
use Rattle.railway.specs.Refusals.{number, Row, row, first}
use Rattle.game.specs.Placement.{placements}
use Rattle.game_tables.specs.Entries.{entry_from}
use Rattle.game_tables.specs.Tables.{no_figure, case_rows}
use Rattle.plan.specs.declared.CheckerState.{CheckerState}
use Rattle.plan.specs.declared.CheckerState.TheVariants.{Fresh, Begun}
use Rattle.plan.specs.LineAnswer.{LineAnswer, Taken, Refused as LineRefused}
use Rattle.plan.specs.TestAnswer.{TestAnswer, Pass, Refused as TestRefused}
use Rattle.plan.specs.Lines.{PlacementLine, PlanLine, start_line, placement_line, line_code}
use Rattle.plan.specs.Test.{by_tables}
use Rattle.plan.specs.Reading.{read_line}
use Rattle.plan.specs.Computed.{test_holds}

-- THE ANSWERS. The number that a line's answer gives, if the line was refused.
abbrev pub line_number : LineAnswer → Option ℕ
line_number Taken = none
line_number (LineRefused f) = some (number f)

-- The number that the test's answer gives, if it is no pass.
abbrev pub test_number : TestAnswer → Option ℕ
test_number Pass = none
test_number (TestRefused f) = some (number f)

-- THE STATE with the two lent tables.
pub record Checking : Type 0 where
  pub state : CheckerState
  pub figs : List ℕ
  pub sets : List ℕ

-- What a call leaves: its answer, and state and tables.
pub record Left (Answer : Type 0) : Type 0 where
  pub answer : Answer
  pub checking : Checking

-- An answer with state and tables.
abbrev pub left : {A : Type 0} → A → Checking → Left A
left a c = record { answer = a; checking = c }

-- The state before the first line, with fresh tables of so many entries, which list nothing: none in every entry, and zero.
abbrev pub fresh_checking : ℕ → ℕ → Checking
fresh_checking n m = record { state = Fresh; figs = replicate n no_figure; sets = replicate m 0 }

-- MADE FRESH. A table with this number at every code; past the last code all is as it was.
abbrev pub fresh_table : Railway → ℕ → List ℕ → List ℕ
fresh_table r v table = replicate (placements r) v ++ drop (placements r) table

-- What the call that makes two lent tables fresh leaves, by the refusal of the case: refused, both as they were. No line is taken in either case.
abbrev pub freshened : Railway → List ℕ → List ℕ → Option Refusal → Checking
freshened r figs sets (some f) = record { state = Fresh; figs = figs; sets = sets }
freshened r figs sets none = record { state = Fresh; figs = fresh_table r no_figure figs; sets = fresh_table r 0 sets }

-- A LINE. The entry of the setting table for its open trains and points.
abbrev pub line_entry : Railway → PlacementLine → ℕ
line_entry r d = entry_from r (λ n. get_or d.plus n false) (λ t. get_or d.opens t false)

-- The first line taken: no code is too low for what follows.
abbrev pub begin : Checking → ℕ → Checking
begin c m = record { state = Begun m 0; figs = c.figs; sets = c.sets }

-- A line for a placement taken: it is entered at its code, and only higher codes may follow.
abbrev pub enter : Railway → Checking → ℕ → PlacementLine → Checking
enter r c m d =
    record {
      state = Begun m (suc (line_code r d));
      figs = set c.figs (line_code r d) d.figure;
      sets = set c.sets (line_code r d) (line_entry r d);
    }

-- 10, plan form, for a line: the text spells none, a first line that is not the first, another one that is, or a code that does not rise.
abbrev pub out_of_form : Railway → CheckerState → Option PlanLine → Bool
out_of_form r state none = true
out_of_form r Fresh (some (start_line n)) = false
out_of_form r Fresh (some (placement_line d)) = true
out_of_form r (Begun m from) (some (start_line n)) = true
out_of_form r (Begun m from) (some (placement_line d)) = ltb (line_code r d) from

-- The rows of a call for a line: those of the case, then 10 for the line.
abbrev pub line_rows : Railway → Checking → List ℕ → List Row
line_rows r c text = case_rows r c.figs c.sets ++ (row PlanForm (out_of_form r c.state (read_line r text)) ∷ [])

-- State and tables after a line that is taken. (Without a line, and for a placement before the first one, row 10 applies and nothing is taken.)
abbrev pub line_entered : Railway → Checking → CheckerState → Option PlanLine → Checking
line_entered r c state none = c
line_entered r c state (some (start_line n)) = begin c n
line_entered r c Fresh (some (placement_line d)) = c
line_entered r c (Begun m from) (some (placement_line d)) = enter r c m d

-- By the refusal: a refused line leaves all as it was.
abbrev pub line_leaves : Checking → Checking → Option Refusal → Left LineAnswer
line_leaves c after (some f) = left (LineRefused f) c
line_leaves c after none = left Taken after

-- A CALL for a line: it is refused by the first row that applies, else taken.
unfoldable pub take_line : Railway → Checking → List ℕ → Left LineAnswer
take_line r c text = line_leaves c (line_entered r c c.state (read_line r text)) (first (line_rows r c text))

-- THE TEST. 10, plan form, for the test: no line was taken.
abbrev pub nothing_taken : CheckerState → Bool
nothing_taken Fresh = true
nothing_taken (Begun m from) = false

-- 11, plan fault: lines were taken, and the plan in them fails.
abbrev pub plan_fails : Railway → Checking → CheckerState → Bool
plan_fails r c Fresh = false
plan_fails r c (Begun m from) = not (test_holds r m (by_tables c.figs c.sets))

-- The rows of the test: those of the case, then 10 and 11 for the plan.
abbrev pub test_rows : Railway → Checking → List Row
test_rows r c = case_rows r c.figs c.sets ++ (row PlanForm (nothing_taken c.state) ∷ row PlanFault (plan_fails r c c.state) ∷ [])

-- The answer, by the refusal.
abbrev pub test_answer : Option Refusal → TestAnswer
test_answer (some f) = TestRefused f
test_answer none = Pass

-- A CALL for the test: it is refused by the first row that applies, else passed. State and tables are left as they were in any case.
unfoldable pub test_plan : Railway → Checking → Left TestAnswer
test_plan r c = left (test_answer (first (test_rows r c))) c

-- CALLS FOR LINES, one after the other, each with what the last one left: the answers, and what is left in the end.
pub record LineCalls : Type 0 where
  pub answers : List LineAnswer
  pub end : Checking

-- A call's answer, before those of the calls that follow it.
abbrev pub onward : LineAnswer → LineCalls → LineCalls
onward a u = record { answers = a ∷ u.answers; end = u.end }

-- The calls for these texts, from what the checker is handed first.
unfoldable pub call_lines : Railway → List (List ℕ) → Checking → LineCalls
call_lines r [] c = record { answers = []; end = c }
call_lines r (l ∷ ls) c = onward (take_line r c l).answer (call_lines r ls (take_line r c l).checking)

-- The line was taken.
abbrev pub is_taken : LineAnswer → Bool
is_taken Taken = true
is_taken (LineRefused f) = false

-- The texts that were taken, by the answers that they got.
unfoldable pub taken_texts : List LineAnswer → List (List ℕ) → List (List ℕ)
taken_texts [] ls = []
taken_texts (a ∷ answers) [] = []
taken_texts (Taken ∷ answers) (l ∷ ls) = l ∷ taken_texts answers ls
taken_texts (LineRefused f ∷ answers) (l ∷ ls) = taken_texts answers ls
