-- The answer to a text by the draft that is made of it: too long; no draft, since the text is not in form; or the draft's answer. What is read line
-- by line into a draft is the draft of what the whole text says.
-- Assumes nothing.
use Prim.Native.Nat.{ℕ, ◌<◌, ◌≤◌}
use mathlib.Core.Path.{◌≡◌, refl, sym, ◌∙◌, ap}
use mathlib.Core.List.{List}
use mathlib.Core.Option.{none, some}
use lib.ListN.{length}
use borrow.Author.Tests.{lt-ltb, le-ltb}
use Rattle.text.specs.Reading.{Got, bad, got, then, value}
use Rattle.text.proofs.Reading.{bad-got}
use Rattle.railway.specs.declared.Refusal.TheVariants.{Length, Form}
use Rattle.railway.specs.Refusals.{first}
use Rattle.case_file.specs.Form.{Description}
use Rattle.case_file.specs.Rows.{most_bytes, description_rows}
use Rattle.case_file.specs.Given.{refused}
use Rattle.case_file.specs.Reading.{walk, read, judged, case_answer}
use Rattle.case_file.proofs.Reading.{read-sound}
use Rattle.case_draft.specs.declared.Draft.{Draft}
use Rattle.case_draft.specs.Drafting.{draft_of, draft_answer}
use Rattle.case_draft.proofs.Folding.{drafted, draft-walked}
use Rattle.case_draft.proofs.Answering.{draft-answered}

module _ (s : List ℕ) where
  pub too_long : most_bytes < length s → refused Length ≡ case_answer s
  unfolding case_answer first
  too_long h = rw (lt-ltb most_bytes (length s) h)

  read_of : (g : Got Description) → walk s ≡ g → read s ≡ value g
  unfolding read
  read_of g e = rw e

  module _ (short : length s ≤ most_bytes) where
    nothing_read : read s ≡ none → refused Form ≡ case_answer s
    unfolding case_answer first
    nothing_read e = rw (e, le-ltb most_bytes (length s) short)

    something-read : (d : Description) → read s ≡ some d → judged (some d) (first (description_rows d)) ≡ case_answer s
    unfolding case_answer first
    something-read d e = rw (e, le-ltb most_bytes (length s) short)

    pub not-in-form : draft_of s ≡ bad → refused Form ≡ case_answer s
    not-in-form e = cases (walk s) refl (sym (draft-walked s) ∙ e)
      where
        cases : (g : Got Description) → walk s ≡ g → then g (λ d c. got (drafted d) c) ≡ bad → refused Form ≡ case_answer s
        cases bad w h = nothing_read (read_of bad w)
        cases (got d c) w h = bad-got h refl

    pub answered : (w : Draft) (c : ℕ) → draft_of s ≡ got w c → draft_answer w ≡ case_answer s
    answered w c e = cases (walk s) refl (sym (draft-walked s) ∙ e)
      where
        cases : (g : Got Description) → walk s ≡ g → then g (λ d c. got (drafted d) c) ≡ got w c → draft_answer w ≡ case_answer s
        cases bad v h = bad-got refl h
        cases (got d b) v h =
            let z : drafted d ≡ w = cc in
            let e = read_of (got d b) v in
            ap draft_answer (sym z) ∙ draft-answered d (read-sound s d e).well-formed ∙ something-read d e
