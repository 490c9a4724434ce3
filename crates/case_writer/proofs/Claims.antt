-- What follows from the writer's promise: a refusal leaves the buffer; else the text of an accepted record stands in front, which has no more bytes
-- than a case text may have and is read back as the same railway.
-- Assumes nothing.
use Prim.Native.Nat.{ℕ}
use mathlib.Core.Path.{◌≡◌, refl, sym, ◌∙◌, ap}
use mathlib.Core.List.{List}
use mathlib.Core.Option.{some}
use native.Mathlib.Omega.{arith}
use lib.ListN.{length, take, drop}
use lib.Seq.{take-append_seam, drop-append_seam}
use Rattle.laws.proofs.Bools.{some-none, some_one}
use Rattle.railway.specs.declared.Railway.{Railway}
use Rattle.case_file.specs.Written.{Written}
use Rattle.case_file.specs.Writing.{written_text, written, written_number, written_count}
use Rattle.case_file.proofs.Given.{accepted-exactly, reader-answers}
use Rattle.case_file.proofs.Lengths.{written-fits}
use Rattle.case_file.proofs.Claims.{round_trip, same-text}
use Rattle.case_file.proofs.Call.{by-none, Call, refused, done, call}
use Rattle.case_writer.specs.Claims.{RoomEnough, ReadBack, BytesReadBack, RefusedKeeps, WrittenIsRead}

pub room-enough : RoomEnough
unfolding written
room-enough r buffer w after p h l =
    let k = written-fits r h in
    ap written_count p.answer ∙ rw (by-none r buffer h (omega arith))

-- by the two cases of a call
module _ (r : Railway) (buffer : List ℕ) where
  read_back : (v : Written) (left : List ℕ) → Call r buffer v left → (n : ℕ) → written_count v ≡ some n → ReadBack r buffer left n
  read_back v left (refused f) n e = some-none e refl
  read_back v left (done h l) n e =
      let t = written_text r in
      let q = round_trip r h in
      let z : length t ≡ n = some_one e in
      let front : take n left ≡ t = rw (← z) (take-append_seam t (drop (length t) buffer)) in
      record {
        railway = q.0;
        reads = rw front ((accepted-exactly t q.0).0 q.1);
        same = q.2;
        again = sym (same-text r q.0 q.2) ∙ sym front;
        short = rw (← z) (written-fits r h);
        within = rw (← z) l;
        behind = rw (← z) (drop-append_seam t (drop (length t) buffer));
      }

  keeps : (v : Written) (left : List ℕ) → Call r buffer v left → (n : ℕ) → written_number v ≡ some n → left ≡ buffer
  keeps v left (refused f) n e = refl
  keeps v left (done h l) n e = some-none e refl

pub bytes-read-back : BytesReadBack
bytes-read-back r buffer w after p n e = rw p.buffer (read_back r buffer _ _ (call r buffer) n (sym (ap written_count p.answer) ∙ e))

pub refused-keeps : RefusedKeeps
refused-keeps r buffer w after p n e = p.buffer ∙ keeps r buffer _ _ (call r buffer) n (sym (ap written_number p.answer) ∙ e)

pub written-is-read : WrittenIsRead
written-is-read r buffer w after p n e a h =
    let b = bytes-read-back r buffer w after p n e in
    (b.railway, (reader-answers (take n after) a).1 h ∙ (accepted-exactly (take n after) b.railway).1 b.reads, b.same)
