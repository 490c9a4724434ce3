-- The line of what a case text and a plan's are answered is put into a buffer. Assumes nothing.
use mathlib.Core.Path.{refl}
use mathlib.Core.List.{List}
use Prim.Native.Nat.{ℕ}
use Rattle.case_file.specs.Written.{Written}
use Rattle.plan.specs.TestAnswer.{TestAnswer}
use Rattle.answer_lines.specs.Lines.{test_line, most_answer_bytes, PutPost, Puts}
use Rattle.answer_lines.proofs.Puts.{test_short}
use Rattle.check_text.specs.Verdict.{CasePlanPost, CheckOutput}

pub answer-put : (case plan : List ℕ) (a : TestAnswer) (old new : List ℕ) (w : Written) → CasePlanPost case plan a → PutPost (test_line a) old w new
    → Puts (CheckOutput case plan) most_answer_bytes old w new
answer-put case plan a old new w h p =
    record { text = test_line a; output = record { answer = a; checked = h; written = refl }; short = test_short a; put = p }
