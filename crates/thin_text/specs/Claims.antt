-- What `thinplan` writes, held against what `plancheck` says (document 02, Q-14): it refuses what `plancheck` refuses,
-- with the same line, and what it writes for a plan that passes, passes; and how much of a case text and of a plan decides what it
-- writes. All of this is a statement. Assumes nothing.
use Rattle.std.specs.Prelude.{◌≡◌, List, ℕ, ◌≤◌, ◌<◌, take}
use Rattle.railway.specs.declared.Railway.{Railway}
use Rattle.railway.specs.declared.Refusal.{Refusal}
use Rattle.case_file.specs.Rows.{most_bytes}
use Rattle.plan.specs.TestAnswer.{TestAnswer, Pass, Refused}
use Rattle.answer_lines.specs.Lines.{refusal_line}
use Rattle.check_text.specs.Claims.{read_bytes}
use Rattle.check_text.specs.Verdict.{PlanPost}
use Rattle.thin_text.specs.Lean.{PlanOutput, LeanOutput}

-- The text that is written for a plan, by the plan's verdict.
pub record LeanSays (r : Railway) (text : List ℕ) (verdict : TestAnswer) : Type 0 where
  pub refused : (f : Refusal) → verdict ≡ Refused f → text ≡ refusal_line f
  pub passes : verdict ≡ Pass → (again : TestAnswer) → PlanPost r text again → again ≡ Pass

-- So with every railway, plan and text.
abbrev pub LeanPasses : Type 0
LeanPasses = (r : Railway) (plan text : List ℕ) → PlanOutput r plan text → (verdict : TestAnswer) → PlanPost r plan verdict → LeanSays r text verdict

-- One byte more than a case text may have, and one more than a plan can have: what is written for so many bytes of a case and of a plan is written for both, whatever follows them.
abbrev pub CutThins : Type 0
CutThins = (case plan text : List ℕ) (n m : ℕ) → most_bytes < n → read_bytes ≤ m → LeanOutput (take n case) (take m plan) text → LeanOutput case plan text
