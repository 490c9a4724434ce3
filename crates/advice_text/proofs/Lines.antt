-- The line for an answer is short; so one is put, whatever is advised, and for a case text the line of the reader's refusal or that of the railway that was read. Assumes nothing.
use mathlib.Core.Path.{◌≡◌, refl, ◌∙◌}
use mathlib.Core.List.{List, [], ◌∷◌, ◌++◌}
use Prim.Native.Nat.{ℕ, suc, ◌+◌, ◌≤◌}
use native.Mathlib.Omega.{arith}
use lib.ListN.{length, length-append, take}
use Rattle.text.specs.Text.{decimal, line_end, line, bytes}
use Rattle.text.specs.Appending.{Appended}
use Rattle.text.proofs.Appending.{append-then, line-last}
use Rattle.text.proofs.Decimal.{digits-length}
use Rattle.railway.specs.declared.Side.{Side}
use Rattle.railway.specs.declared.SectionNo.{SectionNo}
use Rattle.railway.specs.declared.Railway.{Railway}
use Rattle.railway.specs.declared.Refusal.{Refusal}
use Rattle.railway.specs.CaseAnswer.{Accepted, Refused as Refuses}
use Rattle.case_file.specs.CaseRead.{CaseRead}
use Rattle.case_file.specs.Written.{Written}
use Rattle.case_file.specs.Form.{side_byte, section_field}
use Rattle.case_file.specs.Given.{ReaderPost}
use Rattle.case_reader.proofs.Answers.{by-refused, by-accepted}
use Rattle.answer_lines.specs.Lines.{refusal_line, PutPost, Puts}
use Rattle.answer_lines.proofs.Lines.{refusal-short}
use Rattle.answer_lines.proofs.Puts.{puts-map, puts-refusal}
use Rattle.advice.specs.Advice.{Advice, NotNeeded, Signal, NoneHelps, Refused}
use Rattle.advice.specs.Advising.{AdvicePost}
use Rattle.advice_text.specs.Lines.{end_line, advice_line, blank, RailwayAdvice, CaseAdvice, advice_bytes, CutWrites}
use Rattle.case_file.proofs.Cut.{cut-decides}
use Rattle.case_file.proofs.Given.{refused-exactly, accepted-exactly}

-- A SECTION END, from the bytes put one behind the other
pub end-made : {o o₁ o₂ : List ℕ} {a a₁ a₂ : ℕ} (n : SectionNo) (s : Side) (m b : ℕ) → m ≡ suc n.0 → b ≡ side_byte s → Appended o a (decimal m ++ (b ∷ [])) o₁ a₁
    → Appended o₁ a₁ (line_end ∷ []) o₂ a₂
    → Appended o a (end_line n s) o₂ a₂
end-made n s m b em eb p q =
    let p' : Appended _ _ (section_field (suc n.0) s) _ _ = rw (em, eb) at p in
    line-last (section_field (suc n.0) s) (append-then p' q)

-- SHORT
pub end_short : (n : SectionNo) (s : Side) → length (end_line n s) ≤ advice_bytes
unfolding line
end_short n s =
    let a : length (end_line n s) ≡ length (section_field (suc n.0) s) + 1 = length-append (section_field (suc n.0) s) (line_end ∷ []) in
    let b : length (section_field (suc n.0) s) ≡ length (decimal (suc n.0)) + 1 = length-append (decimal (suc n.0)) (side_byte s ∷ []) in
    omega (arith, digits-length 10 (suc n.0))

advice-short : (a : Advice) → length (advice_line a) ≤ advice_bytes
unfolding line bytes
advice-short NotNeeded = omega arith
advice-short (Signal n s) = end_short n s
advice-short NoneHelps = omega arith
advice-short (Refused f) = omega (arith, refusal-short f)

-- A RAILWAY
pub advised : (r : Railway) (a : Advice) (figs sets old new : List ℕ) (w : Written) → AdvicePost r a blank blank figs sets → PutPost (advice_line a) old w new
    → Puts (RailwayAdvice r) advice_bytes old w new
advised r a figs sets old new w post p = record { text = advice_line a; output = record { answer = a; figs = figs; sets = sets; advised = post; written = refl }; short = advice-short a; put = p }

-- AN ANSWER that is known
pub line-for : (a x : Advice) (old new : List ℕ) (w : Written) → a ≡ x → PutPost (advice_line x) old w new → PutPost (advice_line a) old w new
line-for a x old new w e p = rw e p

-- A CASE TEXT
module _ (case : List ℕ) (a : CaseRead) (post : ReaderPost case a) (old new : List ℕ) (w : Written) where
  pub case-refused : (f : Refusal) → a.answer ≡ Refuses f → PutPost (refusal_line f) old w new → Puts (CaseAdvice case) advice_bytes old w new
  case-refused f e p =
      puts-refusal f (omega arith) (by-refused (λ g. refusal_line f ≡ refusal_line g) (λ r. RailwayAdvice r (refusal_line f)) case a post f e refl) p

  pub case-accepted : a.answer ≡ Accepted → Puts (RailwayAdvice a.railway) advice_bytes old w new → Puts (CaseAdvice case) advice_bytes old w new
  case-accepted e p = puts-map (λ t o. by-accepted (λ g. t ≡ refusal_line g) (λ r. RailwayAdvice r t) case a post e o) p

-- What a program writes that reads no more than one byte over the most that a case text may have: a text is refused or accepted as its first bytes are.
pub cut-writes : CutWrites
cut-writes case text n enough o =
    let same = cut-decides case n enough in
    record {
      refused = λ f w. o.refused f ((refused-exactly (take n case) f).0 (same ∙ (refused-exactly case f).1 w));
      accepted = λ r w. o.accepted r ((accepted-exactly (take n case) r).0 (same ∙ (accepted-exactly case r).1 w));
    }
