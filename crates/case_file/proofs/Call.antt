-- The writer's call, by what it finds. Its rows are those of the record and then row 9, so the first that applies is the record's, or else space
-- where the text is longer than the buffer. A refusal leaves the buffer; where none applies the text stands in front and what stood behind it stays.
-- Assumes nothing.
use Prim.Native.Nat.{ℕ, ◌<◌, ◌≤◌}
use mathlib.Core.Path.{◌≡◌, refl, ◌∙◌, ap}
use mathlib.Core.Logic.{inl, inr}
use mathlib.Core.Bool.{true, false}
use mathlib.Core.List.{List, [], ◌∷◌, ◌++◌}
use mathlib.Core.Option.{Option, none, some}
use lib.ListN.{length, drop}
use borrow.Author.Tests.{lt-ltb, le-ltb}
use Rattle.laws.specs.Below.{or_else}
use Rattle.laws.proofs.Bools.{option?, lt?}
use Rattle.railway.specs.declared.Railway.{Railway}
use Rattle.railway.specs.declared.Refusal.{Refusal}
use Rattle.railway.specs.declared.Refusal.TheVariants.{Space}
use Rattle.railway.specs.Refusals.{row, first, number_of}
use Rattle.railway.specs.Rows.{record_rows, record_refusal}
use Rattle.railway.proofs.Refusals.{first-append}
use Rattle.case_file.specs.Written.{Written, Bytes, Refused}
use Rattle.case_file.specs.Writing.{space_row, written_text, writer_rows, writer_refusal, writer_answer, written, buffer_after, written_number, WriterPost}

-- the number of an answer is that of the refusal which it gives
answer-number : (text : List ℕ) (o : Option Refusal) → written_number (writer_answer text o) ≡ number_of o
answer-number text none = refl
answer-number text (some f) = refl

module _ (r : Railway) (buffer : List ℕ) where
  -- WHICH ROW
  rows_then : writer_refusal r buffer ≡ or_else (record_refusal r) (first (row Space (space_row r buffer) ∷ []))
  unfolding writer_refusal record_refusal
  rows_then = first-append (record_rows r) (row Space (space_row r buffer) ∷ [])

  pub by-record : (f : Refusal) → record_refusal r ≡ some f → writer_refusal r buffer ≡ some f
  by-record f h = rows_then ∙ rw h

  pub by-space : record_refusal r ≡ none → length buffer < length (written_text r) → writer_refusal r buffer ≡ some Space
  unfolding first
  by-space h l =
      let b : space_row r buffer ≡ true = lt-ltb (length buffer) (length (written_text r)) l in
      rows_then ∙ rw (h, b)

  pub by-none : record_refusal r ≡ none → length (written_text r) ≤ length buffer → writer_refusal r buffer ≡ none
  unfolding first
  by-none h l =
      let b : space_row r buffer ≡ false = le-ltb (length buffer) (length (written_text r)) l in
      rows_then ∙ rw (h, b)

  -- THE PROMISE is kept by the answer and the bytes: the number comes with the answer
  pub promised : {w : Written} {after : List ℕ} → w ≡ written r buffer → after ≡ buffer_after r buffer → WriterPost r buffer w after
  unfolding written writer_refusal
  promised e b = record { answer = e; numbered = ap written_number e ∙ answer-number (written_text r) (first (writer_rows r buffer)); buffer = b }

  -- THE TWO CASES: what is answered, and what is left
  pub data Call : Written → List ℕ → Type 0 where
    refused : (f : Refusal) → Call (Refused f) buffer
    done : record_refusal r ≡ none → length (written_text r) ≤ length buffer
        → Call (Bytes (length (written_text r))) (written_text r ++ drop (length (written_text r)) buffer)

  pub call : Call (written r buffer) (buffer_after r buffer)
  unfolding written buffer_after
  call = elim (option? (record_refusal r)) [
    | inr s ↦ rw (by-record s.0 s.1) (refused s.0)
    | inl h ↦ elim (lt? (length buffer) (length (written_text r))) [
      | inl l ↦ rw (by-space h l) (refused Space)
      | inr l ↦ rw (by-none h l) (done h l)
    ]
  ]
