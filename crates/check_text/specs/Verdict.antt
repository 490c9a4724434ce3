-- A plan's text checked whole (document 01, end of "The two tables and the plan": what `plancheck` makes of a case and a plan).
-- Assumes nothing.
use Rattle.std.specs.Prelude.{◌≡◌, Bool, not, ◌||◌, List, [], ◌∷◌, ◌++◌, ℕ}
use Rattle.std.proofs.Math.Option.{Option}
use Rattle.laws.specs.Lists.{all}
use Rattle.railway.specs.declared.Railway.{Railway}
use Rattle.railway.specs.declared.Refusal.{Refusal}
use Rattle.railway.specs.declared.Refusal.TheVariants.{PlanForm, PlanFault}
use Rattle.railway.specs.Refusals.{Row, row, first, number_of}
use Rattle.case_reader.specs.Answers.{ByCase}
use Rattle.answer_lines.specs.Lines.{test_line}
use Rattle.game_tables.specs.Lengths.{entries}
use Rattle.game_tables.specs.Tables.{case_rows, case_refusal}
use Rattle.plan.specs.LineAnswer.{LineAnswer, Taken, Refused as LineRefused}
use Rattle.plan.specs.TestAnswer.{TestAnswer, Refused as TestRefused}
use Rattle.plan.specs.Several.{lines_of}
use Rattle.plan.specs.Checker.{test_number, Checking, fresh_checking, take_line, nothing_taken, plan_fails, test_plan, LineCalls, call_lines, is_taken}

-- THE CALLS. After a line that was taken the calls go on; a refused one ends them, and its refusal is the answer.
abbrev pub after_line : LineAnswer → Checking → (Checking → TestAnswer) → TestAnswer
after_line Taken c rest = rest c
after_line (LineRefused f) c rest = TestRefused f

-- A call for each line, the first handed c and every next one what the last one left, and then the call for the test.
unfoldable pub check_lines : Railway → List (List ℕ) → Checking → TestAnswer
check_lines r [] c = (test_plan r c).answer
check_lines r (l ∷ ls) c = after_line (take_line r c l).answer (take_line r c l).checking (check_lines r ls)

-- 10, plan form: a line is refused, or none is there.
abbrev pub plan_out_of_form : LineCalls → Bool
plan_out_of_form u = not (all is_taken u.answers) || nothing_taken u.end.state

-- The rows of a check, handed c, by what the calls for all lines answer and leave: those of the case, then 10 and 11 for the plan.
abbrev pub rows_by : Railway → Checking → LineCalls → List Row
rows_by r c u = case_rows r c.figs c.sets ++ (row PlanForm (plan_out_of_form u) ∷ row PlanFault (plan_fails r u.end u.end.state) ∷ [])

-- Where a check begins: no line yet, and both tables fresh, of as many entries as the programs' have.
abbrev pub fresh : Checking
fresh = fresh_checking entries entries

-- The first row of a case that applies to a railway with these tables.
abbrev pub check_refusal : Railway → Option Refusal
check_refusal r = case_refusal r fresh.figs fresh.sets

-- The plan in a text, checked from there.
abbrev pub check_text : Railway → List ℕ → TestAnswer
check_text r plan = check_lines r (lines_of plan) fresh

-- The rows for the plan in a text.
abbrev pub plan_rows : Railway → List ℕ → List Row
plan_rows r plan = rows_by r fresh (call_lines r (lines_of plan) fresh)

-- WHAT THE CHECK OF A PLAN PROMISES, handed a railway and a text: the answer, and its number, that of the first row that applies.
pub record PlanPost (r : Railway) (plan : List ℕ) (a : TestAnswer) : Type 0 where
  pub answer : a ≡ check_text r plan
  pub numbered : test_number a ≡ number_of (first (plan_rows r plan))

-- A CASE TEXT AND A PLAN'S: the reader's refusal, or what the plan is answered for the railway of the case.
abbrev pub CasePlanPost : List ℕ → List ℕ → TestAnswer → Type 0
CasePlanPost case plan a = ByCase case (λ f. a ≡ TestRefused f) (λ r. PlanPost r plan a)

-- What program `plancheck` writes for them: the line of what they are answered.
pub record CheckOutput (case plan text : List ℕ) : Type 0 where
  pub answer : TestAnswer
  pub checked : CasePlanPost case plan answer
  pub written : text ≡ test_line answer
