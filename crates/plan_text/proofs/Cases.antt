-- What is put for a case text: the line of the reader's refusal, or what is put for the railway that was read. Assumes nothing.
use mathlib.Core.Path.{◌≡◌, refl}
use mathlib.Core.List.{List}
use Prim.Native.Nat.{ℕ}
use native.Mathlib.Omega.{arith}
use Rattle.railway.specs.declared.Refusal.{Refusal}
use Rattle.case_file.specs.CaseRead.{CaseRead}
use Rattle.railway.specs.CaseAnswer.{Accepted, Refused}
use Rattle.case_file.specs.Written.{Written}
use Rattle.case_file.specs.Given.{ReaderPost}
use Rattle.case_reader.proofs.Answers.{by-refused, by-accepted}
use Rattle.answer_lines.specs.Lines.{refusal_line, PutPost, Puts}
use Rattle.answer_lines.proofs.Puts.{puts-map, puts-refusal}
use Rattle.plan_text.specs.Written.{RailwayOutput, CaseOutput, text_bytes}

module _ (case : List ℕ) (a : CaseRead) (post : ReaderPost case a) (old new : List ℕ) (w : Written) where
  pub case-refused : (f : Refusal) → a.answer ≡ Refused f → PutPost (refusal_line f) old w new → Puts (CaseOutput case) text_bytes old w new
  case-refused f e p =
      puts-refusal f (omega arith) (by-refused (λ g. refusal_line f ≡ refusal_line g) (λ r. RailwayOutput r (refusal_line f)) case a post f e refl) p

  pub case-accepted : a.answer ≡ Accepted → Puts (RailwayOutput a.railway) text_bytes old w new → Puts (CaseOutput case) text_bytes old w new
  case-accepted e p = puts-map (λ t o. by-accepted (λ g. t ≡ refusal_line g) (λ r. RailwayOutput r t) case a post e o) p
