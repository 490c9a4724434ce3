-- The lines that are written for an answer, from the bytes put one behind the other. Assumes nothing.
use mathlib.Core.Path.{◌≡◌}
use mathlib.Core.List.{List, [], ◌∷◌, ◌++◌}
use Prim.Native.Nat.{ℕ, ◌≤◌}
use native.Mathlib.Omega.{arith}
use lib.ListN.{length, take}
use Rattle.text.specs.Text.{digits, decimal, tab, line_end, line, bytes}
use Rattle.text.specs.Appending.{Appended}
use Rattle.text.proofs.Appending.{line-more, line-last, front-text}
use Rattle.railway.specs.declared.Refusal.{Refusal}
use Rattle.railway.specs.declared.Refusal.TheVariants.{Length, Form, Count, Weight, Unknown, Join, Loose, Chain, Double, Place, Mismatch, Space, PlanForm, PlanFault, Report, Stranded, Log}
use Rattle.railway.specs.Refusals.{number}
use Rattle.case_file.specs.Written.{Written}
use Rattle.plan.specs.TestAnswer.{TestAnswer, Pass, Refused}
use Rattle.answer_lines.specs.Lines.{refused_word, refusal_line, pass_line, test_line, PutPost}

pub refusal-made : {o o₁ o₂ : List ℕ} {a a₁ a₂ : ℕ} (f : Refusal) (n : ℕ) → n ≡ number f
    → Appended o a (refused_word ++ (tab ∷ [])) o₁ a₁ → Appended o₁ a₁ (decimal n ++ (line_end ∷ [])) o₂ a₂
    → Appended o a (refusal_line f) o₂ a₂
refusal-made f n is p d = rw (← is) (line-more refused_word (decimal n) [] p (line-last (decimal n) d))

-- IN A BUFFER OF ITS OWN, with room: what stands there is the line, so what is put from there is the line
pub refusal-short : (f : Refusal) → length (refusal_line f) ≤ 16
unfolding bytes line digits
refusal-short Length = omega arith
refusal-short Form = omega arith
refusal-short Count = omega arith
refusal-short Weight = omega arith
refusal-short Unknown = omega arith
refusal-short Join = omega arith
refusal-short Loose = omega arith
refusal-short Chain = omega arith
refusal-short Double = omega arith
refusal-short Place = omega arith
refusal-short Space = omega arith
refusal-short PlanForm = omega arith
refusal-short PlanFault = omega arith
refusal-short Report = omega arith
refusal-short Mismatch = omega arith
refusal-short Stranded = omega arith
refusal-short Log = omega arith

pub made-put : {blank text buffer old new : List ℕ} {n : ℕ} {w : Written} → Appended blank 0 text buffer n → length text ≤ length blank → PutPost (take n buffer) old w new → PutPost text old w new
made-put p room s = rw (front-text p room) at s

-- the test's answer is one of the two
module _ (old new : List ℕ) (w : Written) (t : TestAnswer) where
  pub passed-line : t ≡ Pass → PutPost pass_line old w new → PutPost (test_line t) old w new
  passed-line e h = rw e h

  pub refused-line : (f : Refusal) → t ≡ Refused f → PutPost (refusal_line f) old w new → PutPost (test_line t) old w new
  refused-line f e h = rw e h
