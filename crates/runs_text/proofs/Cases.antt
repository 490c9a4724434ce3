-- What is put for a case text: the line of the reader's refusal, or what is put for the railway that was read, which is accepted; and that so many bytes of a text decide it. Assumes nothing.
use mathlib.Core.Path.{◌≡◌, refl, ◌∙◌}
use mathlib.Core.List.{List}
use mathlib.Core.Option.{none}
use Prim.Native.Nat.{ℕ}
use native.Mathlib.Omega.{arith}
use lib.ListN.{take}
use Rattle.railway.specs.declared.Refusal.{Refusal}
use Rattle.railway.specs.Rows.{record_refusal}
use Rattle.case_file.specs.CaseRead.{CaseRead}
use Rattle.railway.specs.CaseAnswer.{Accepted, Refused}
use Rattle.case_file.specs.Written.{Written}
use Rattle.case_file.specs.Given.{accepted, ReaderPost}
use Rattle.case_file.proofs.Cut.{cut-decides}
use Rattle.case_file.proofs.Given.{refused-exactly, accepted-exactly}
use Rattle.case_reader.proofs.Answers.{by-refused, by-accepted}
use Rattle.case_reader.proofs.Claims.{reader-gives}
use Rattle.answer_lines.specs.Lines.{refusal_line, PutPost, Puts}
use Rattle.answer_lines.proofs.Puts.{puts-map, puts-refusal}
use Rattle.runs_text.specs.Written.{RailwayRuns, CaseRuns, text_bytes, CutShows}

module _ (case : List ℕ) (a : CaseRead) (post : ReaderPost case a) where
  pub read-accepted : a.answer ≡ Accepted → record_refusal a.railway ≡ none
  read-accepted e = reader-gives case a post a.railway (given a e)
    where
      given : (a : CaseRead) → a.answer ≡ Accepted → a ≡ accepted a.railway
      given a e = λ i. record { answer = e i; railway = a.railway }

  module _ (old new : List ℕ) (w : Written) where
    pub case-refused : (f : Refusal) → a.answer ≡ Refused f → PutPost (refusal_line f) old w new → Puts (CaseRuns case) text_bytes old w new
    case-refused f e p =
        puts-refusal f (omega arith) (by-refused (λ g. refusal_line f ≡ refusal_line g) (λ r. RailwayRuns r (refusal_line f)) case a post f e refl) p

    pub case-accepted : a.answer ≡ Accepted → Puts (RailwayRuns a.railway) text_bytes old w new → Puts (CaseRuns case) text_bytes old w new
    case-accepted e p = puts-map (λ t o. by-accepted (λ g. t ≡ refusal_line g) (λ r. RailwayRuns r t) case a post e o) p

-- what is read of a text decides what is written for it
pub cut-shows : CutShows
cut-shows case text n enough o =
    let same = cut-decides case n enough in
    record {
      refused = λ f w. o.refused f ((refused-exactly (take n case) f).0 (same ∙ (refused-exactly case f).1 w));
      accepted = λ r w. o.accepted r ((accepted-exactly (take n case) r).0 (same ∙ (accepted-exactly case r).1 w));
    }
