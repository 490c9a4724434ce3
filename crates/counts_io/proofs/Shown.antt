-- What stands in the buffer is one of the texts that the program may write: by the reply to the call for the counts, by what the reader answered, and as it was read from standard input.
-- Assumes nothing.
use mathlib.Core.Path.{◌≡◌, refl, sym, ◌∙◌, subst}
use mathlib.Core.List.{List}
use mathlib.Core.Option.{none}
use Prim.Native.Nat.{ℕ, ◌≤◌}
use native.Mathlib.Omega.{arith}
use lib.ListN.{length, take}
use Rattle.text.specs.Appending.{Appended}
use Rattle.text.proofs.Appending.{front_fits, front-text}
use Rattle.railway.specs.declared.Railway.{Railway}
use Rattle.railway.specs.declared.Refusal.{Refusal}
use Rattle.railway.specs.CaseAnswer as case
use Rattle.railway.specs.Rows.{record_refusal}
use Rattle.case_file.specs.CaseRead.{CaseRead}
use Rattle.case_file.specs.Written.{Written}
use Rattle.case_file.specs.Written as written
use Rattle.case_file.specs.Given.{ReaderPost}
use Rattle.case_file.proofs.Cut.{cut-decides}
use Rattle.case_file.proofs.Given.{refused-exactly, accepted-exactly}
use Rattle.case_reader.proofs.Answers.{by-refused, by-accepted}
use Rattle.game_tables.specs.SolverAnswer.{SolverAnswer}
use Rattle.game_tables.specs.Solver.{SolverPost}
use Rattle.game_moves.specs.Steps.{stride_of}
use Rattle.answer_lines.specs.Lines.{refusal_line, most_answer_bytes, PutPost, Puts, FrontIs}
use Rattle.answer_lines.proofs.Lines.{refusal-short}
use Rattle.answer_lines.proofs.Puts.{puts_whole, puts-never}
use Rattle.search_progress.specs.declared.Progress.{Progress}
use Rattle.search_progress.specs.Telling.{Tells}
use Rattle.counts.specs.CountAnswer.{CountAnswer, Counted, Refused}
use Rattle.counts.specs.Counts.{CountReply, CountPost}
use Rattle.counts.proofs.Counts.{claims}
use Rattle.game_moves.proofs.Coding.{stride-is}
use Rattle.game.specs.Placement.{placements}
use Rattle.game.proofs.Accepted.{facts}
use Rattle.counts_text.specs.Chart.{counts_text, chart_bytes}
use Rattle.counts_text.proofs.Chart.{counts-short}
use Rattle.counts_io.specs.Shown.{ToldCounts, Told, blank, RailwayShown, CaseShown, CutShows}

-- the same text, for something else
front-map : {P Q : List ℕ → Type 0} {n : ℕ} {buffer : List ℕ} → ((text : List ℕ) → P text → Q text) → FrontIs P n buffer → FrontIs Q n buffer
front-map {P} {Q} {n} {buffer} f h = record { within = h.within; output = f (take n buffer) h.output }

-- an accepted record has so many placements
stride-placements : (r : Railway) → record_refusal r ≡ none → (n : ℕ) → n ≡ stride_of r.sections r.trains → n ≡ placements r
stride-placements r acc n e = e ∙ stride-is r.sections r.trains (facts r acc).few-trains

-- A REFUSAL'S LINE has room
module _ (f : Refusal) {old new : List ℕ} {w : Written} (p : PutPost (refusal_line f) old w new) where
  line-put : Puts (λ text. text ≡ refusal_line f) most_answer_bytes old w new
  line-put = record { text = refusal_line f; output = refl; short = refusal-short f; put = p }

  pub refused-whole : (n : ℕ) → w ≡ written.Bytes n → FrontIs (λ text. text ≡ refusal_line f) n new
  refused-whole n e = puts_whole line-put n e

  pub refused-never : chart_bytes ≤ length old → (g : Refusal) → w ≡ written.Refused g → {A : Type 0} → A
  refused-never room g e = puts-never line-put (omega arith) g e

-- THE COUNTS have room
pub told-counts : (figs counts : List ℕ) (m : ℕ) (a : Progress) {old new : List ℕ} {n : ℕ} → Tells figs m a → chart_bytes ≤ length old → length new ≡ length old
    → Appended old 0 (counts_text m a counts) new n → FrontIs (ToldCounts figs m counts) n new
told-counts figs counts m a t room kept p =
    record { within = front_fits p kept; output = record { progress = a; tells = t; written = front-text p (omega (arith, counts-short m a counts, room)) } }

-- A RAILWAY, by the reply
module _ (r : Railway) (a : SolverAnswer) (figs sets : List ℕ) (solved : SolverPost r a blank blank figs sets) (reply : CountReply)
    (counted : CountPost r figs reply) {buffer : List ℕ} {n : ℕ} where
  shows : (answer : CountAnswer) → reply.answer ≡ answer → FrontIs (λ text. Told r figs reply.counts text answer) n buffer → FrontIs (RailwayShown r) n buffer
  shows answer e =
      front-map (λ text t.
      record {
        answer = a;
        figs = figs;
        sets = sets;
        solved = solved;
        reply = reply;
        counted = counted;
        told = subst (Told r figs reply.counts text) (sym e) t;
      })

  pub railway-refused : (f : Refusal) → reply.answer ≡ Refused f → FrontIs (λ text. text ≡ refusal_line f) n buffer → FrontIs (RailwayShown r) n buffer
  railway-refused f e h = shows (Refused f) e h

  pub railway-counted : (m : ℕ) → reply.answer ≡ Counted → m ≡ stride_of r.sections r.trains → FrontIs (ToldCounts figs m reply.counts) n buffer
      → FrontIs (RailwayShown r) n buffer
  railway-counted m e is h =
      let accepted : record_refusal r ≡ none = ((claims r figs reply counted).counted.0 e).0 in
      shows Counted e (subst (λ (k : ℕ). FrontIs (ToldCounts figs k reply.counts) n buffer) (stride-placements r accepted m is) h)

-- A CASE TEXT, by what was read
module _ (text : List ℕ) (a : CaseRead) (post : ReaderPost text a) {buffer : List ℕ} {n : ℕ} where
  pub case-refused : (f : Refusal) → a.answer ≡ case.Refused f → FrontIs (λ t. t ≡ refusal_line f) n buffer → FrontIs (CaseShown text) n buffer
  case-refused f e = front-map (λ t is. by-refused (λ g. t ≡ refusal_line g) (λ r. RailwayShown r t) text a post f e is)

  pub case-accepted : a.answer ≡ case.Accepted → FrontIs (RailwayShown a.railway) n buffer → FrontIs (CaseShown text) n buffer
  case-accepted e = front-map (λ t o. by-accepted (λ g. t ≡ refusal_line g) (λ r. RailwayShown r t) text a post e o)

-- what is read decides
pub cut-shows : CutShows
cut-shows text out n enough o =
    let same = cut-decides text n enough in
    record {
      refused = λ f w. o.refused f ((refused-exactly (take n text) f).0 (same ∙ (refused-exactly text f).1 w));
      accepted = λ r w. o.accepted r ((accepted-exactly (take n text) r).0 (same ∙ (accepted-exactly text r).1 w));
    }
