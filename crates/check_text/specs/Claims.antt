-- What a text checked whole is answered: pass, plan form (10) or plan fault (11) in an accepted case with room for its placements, and else the
-- number of the case (document 01, "The two tables and the plan": the form of a plan, its test; the table of numbers); and how much of a text
-- decides that. Assumes nothing.
use Rattle.std.specs.Prelude.{◌≡◌, List, ◌↔◌, ℕ, suc, ◌+◌, ◌*◌, ◌≤◌, take}
use Rattle.std.proofs.Math.Option.{none, some}
use Rattle.railway.specs.declared.Railway.{Railway}
use Rattle.railway.specs.declared.Refusal.{Refusal}
use Rattle.railway.specs.declared.Refusal.TheVariants.{PlanForm, PlanFault}
use Rattle.railway.specs.Rows.{record_refusal}
use Rattle.game.specs.Placement.{placements}
use Rattle.game_tables.specs.Lengths.{entries}
use Rattle.plan.specs.TestAnswer.{TestAnswer, Pass, Refused}
use Rattle.plan.specs.Lines.{most_line_bytes}
use Rattle.plan.specs.Checked.{InForm, Passing, Failing}
use Rattle.plan.specs.Several.{lines_of}
use Rattle.check_text.specs.Verdict.{check_refusal, check_text, PlanPost}

-- The answer to lines by their form and the test of the plan in them.
pub record ByPlan (r : Railway) (ls : List (List ℕ)) (a : TestAnswer) : Type 0 where
  pub passes : (a ≡ Pass) ↔ Passing r ls
  pub unformed : (a ≡ Refused PlanForm) ↔ ¬ (InForm r ls)
  pub faulty : (a ≡ Refused PlanFault) ↔ Failing r ls

-- In an accepted case, with tables long enough, the plan decides.
abbrev pub VerdictHolds : Type 0
VerdictHolds =
    (r : Railway) → record_refusal r ≡ none → placements r ≤ entries → (plan : List ℕ) (a : TestAnswer) → PlanPost r plan a → ByPlan r (lines_of plan) a

-- Any other refusal is given exactly if it is the first of the case's rows that applies to the railway, whatever the text.
abbrev pub CaseHolds : Type 0
CaseHolds =
    (r : Railway) (plan : List ℕ) (a : TestAnswer) → PlanPost r plan a
    → (f : Refusal) → ¬ (f ≡ PlanForm) → ¬ (f ≡ PlanFault) → (a ≡ Refused f) ↔ (check_refusal r ≡ some f)

-- One byte more than a plan can have: a first line, and one for each entry of a table.
abbrev pub read_bytes : ℕ
read_bytes = suc ((entries + 1) * most_line_bytes)

-- So many bytes of a text decide its check, whatever the railway and whatever follows them.
abbrev pub CutDecides : Type 0
CutDecides = (r : Railway) (plan : List ℕ) (n : ℕ) → read_bytes ≤ n → check_text r (take n plan) ≡ check_text r plan
