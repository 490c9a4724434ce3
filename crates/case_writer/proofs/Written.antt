-- What the writer answers and leaves, by what it has found: a refused record or a short buffer changes nothing; else the text, which an accepted
-- record's own buffer always holds, is copied to the front of the lent one.
-- Assumes nothing.
use Prim.Native.Nat.{ℕ, ◌<◌, ◌≤◌}
use mathlib.Core.Path.{◌≡◌, ◌∙◌, ap}
use mathlib.Core.List.{List}
use mathlib.Core.Option.{none, some}
use native.Mathlib.Omega.{arith}
use lib.ListN.{length, take, replicate, length-replicate}
use Rattle.text.specs.Appending.{Appended}
use Rattle.text.proofs.Appending.{front-bytes, front-cursor, front-text}
use Rattle.railway.specs.declared.Refusal.{Refusal}
use Rattle.railway.specs.declared.Refusal.TheVariants.{Space}
use Rattle.railway.specs.declared.Railway.{Railway}
use Rattle.railway.specs.Rows.{record_refusal}
use Rattle.railway.specs.CaseAnswer.{CaseAnswer}
use Rattle.railway.specs.CaseAnswer as tested
use Rattle.railway_acceptance.specs.Answers.{Judged}
use Rattle.railway_acceptance.proofs.Answers.{judged-refused, judged-accepted}
use Rattle.case_file.specs.Written.{Bytes, Refused}
use Rattle.case_file.specs.Rows.{most_bytes}
use Rattle.case_file.specs.Writing.{written_text, writer_refusal, written, buffer_after, WriterPost}
use Rattle.case_file.proofs.Call.{by-record, by-space, by-none, promised}
use Rattle.case_file.proofs.Lengths.{written-fits}

-- REFUSED
module _ (r : Railway) (buffer : List ℕ) where
  refused-so : (f : Refusal) → writer_refusal r buffer ≡ some f → WriterPost r buffer (Refused f) buffer
  unfolding written buffer_after
  refused-so f h = promised r buffer (rw h) (rw h)

  pub record-refused : {t : CaseAnswer} (f : Refusal) → Judged r t → t ≡ tested.Refused f → WriterPost r buffer (Refused f) buffer
  record-refused f j e = refused-so f (by-record r buffer f (judged-refused r j e))

-- THE TEXT, in a buffer of its own
module _ (r : Railway) {t : CaseAnswer} (judged : Judged r t) (passed : t ≡ tested.Accepted) where
  accepted-record : record_refusal r ≡ none
  accepted-record = judged-accepted r judged passed

  module _ {own text : List ℕ} {n : ℕ} (blank : own ≡ replicate most_bytes 0) (made : Appended own 0 (written_text r) text n) where
    own-long : length own ≡ most_bytes
    own-long = ap length blank ∙ length-replicate {A = ℕ} most_bytes 0

    fits-own : length (written_text r) ≤ length own
    fits-own = let h = written-fits r accepted-record in omega (arith, own-long)

    own-length : n ≡ length (written_text r)
    own-length = front-cursor made fits-own

    pub space-refused : (buffer : List ℕ) → length buffer < n → WriterPost r buffer (Refused Space) buffer
    space-refused buffer h = refused-so r buffer Space (by-space r buffer accepted-record (rw (← own-length) h))

    pub case-written : (buffer buffer' : List ℕ) (m : ℕ) → n ≤ length buffer → Appended buffer 0 (take n text) buffer' m
        → WriterPost r buffer (Bytes n) buffer'
    unfolding written buffer_after
    case-written buffer buffer' m h p =
        let l : length (written_text r) ≤ length buffer = rw own-length at h in
        let q : Appended buffer 0 (written_text r) buffer' m = rw (front-text made fits-own) at p in
        let z = by-none r buffer accepted-record l in
        promised r buffer (rw (z, own-length)) (rw z (front-bytes q l))
