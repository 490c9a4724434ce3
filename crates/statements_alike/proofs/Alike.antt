-- Records of one railway are alike: rows, text and game agree, and what is promised of the one is promised of the other.
-- Assumes nothing.
use Prim.Native.Nat.{ℕ}
use mathlib.Core.Path.{◌≡◌, ◌∙◌, ap}
use mathlib.Core.List.{List}
use Rattle.railway.specs.declared.Railway.{Railway}
use Rattle.railway.specs.Refusals.{number_of}
use Rattle.railway.specs.Same.{SameRailway}
use Rattle.railway.proofs.Same.{refusal-same}
use Rattle.railway.proofs.Claims.{none_alike}
use Rattle.case_file.specs.Written.{Written}
use Rattle.case_file.specs.Writing.{written_text, writer_refusal, writer_answer, writer_buffer, written, buffer_after, WriterPost}
use Rattle.case_file.proofs.Claims.{same-text}
use Rattle.statements_alike.specs.Alike.{SameAlike, BytesAlike}
use Rattle.statements_alike.proofs.Playing.{game-same}
use Rattle.statements_alike.proofs.Solving.{rows_same, solved-same}

module _ (r q : Railway) (h : SameRailway r q) (buffer : List ℕ) where
  text-is : written_text r ≡ written_text q
  text-is = same-text r q h

  writer-same : writer_refusal r buffer ≡ writer_refusal q buffer
  unfolding writer_refusal
  writer-same = rows_same r q h _ _ (rw text-is)

  written_same : (a : Written) (after : List ℕ) → WriterPost r buffer a after → WriterPost q buffer a after
  unfolding writer_refusal written buffer_after
  written_same a after x =
      record {
        answer = x.answer ∙ ap (λ (t : List ℕ). writer_answer t (writer_refusal r buffer)) text-is ∙ ap (writer_answer (written_text q)) writer-same;
        numbered = x.numbered ∙ ap number_of writer-same;
        buffer = x.buffer ∙ ap (λ (t : List ℕ). writer_buffer t buffer (writer_refusal r buffer)) text-is ∙ ap (writer_buffer (written_text q) buffer) writer-same;
      }

pub same_alike : SameAlike
same_alike r q h =
    record { judged = refusal-same r q h; text = same-text r q h; written = written_same r q h; played = game-same r q h; solved = solved-same r q h }

pub bytes-alike : BytesAlike
bytes-alike r q s = same_alike r q (none_alike r q s)
