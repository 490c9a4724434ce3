-- What follows from the writer's promise, a sentence to each, of every call: `w` is what `write_case` answers, `after` the buffer that it leaves.
-- proofs/Claims has the proofs.
-- Assumes nothing.
use Rattle.std.specs.Prelude.{◌≡◌, List, ℕ, ◌≤◌, length, take, drop}
use Rattle.std.proofs.Math.Option.{none, some}
use Rattle.railway.specs.declared.Railway.{Railway}
use Rattle.railway.specs.Rows.{record_refusal}
use Rattle.railway.specs.Same.{SameRailway}
use Rattle.case_file.specs.Written.{Written}
use Rattle.case_file.specs.Rows.{most_bytes}
use Rattle.case_file.specs.CaseRead.{CaseRead}
use Rattle.case_file.specs.Given.{accepted, AcceptedWith, ReaderPost}
use Rattle.case_file.specs.Writing.{written_text, written_number, written_count, WriterPost}

-- ROOM ENOUGH. An accepted record is written whole into any buffer that is as long as a case text may be.
abbrev pub RoomEnough : Type 0
RoomEnough =
    (r : Railway) (buffer : List ℕ) (w : Written) (after : List ℕ) → WriterPost r buffer w after
    → record_refusal r ≡ none → most_bytes ≤ length buffer → written_count w ≡ some (length (written_text r))

-- READ BACK. The bytes that were answered for are a case text of the same railway, and what is written of that one is the same again; they are no
-- more than a case text may have, and the bytes behind them are as they were.
pub record ReadBack (r : Railway) (buffer after : List ℕ) (n : ℕ) : Type 0 where
  pub railway : Railway
  pub reads : AcceptedWith (take n after) railway
  pub same : SameRailway r railway
  pub again : written_text railway ≡ take n after
  pub short : n ≤ most_bytes
  pub within : n ≤ length buffer
  pub behind : drop n after ≡ drop n buffer

-- Whenever a count of bytes is answered, these bytes are read back.
abbrev pub BytesReadBack : Type 0
BytesReadBack =
    (r : Railway) (buffer : List ℕ) (w : Written) (after : List ℕ) → WriterPost r buffer w after → (n : ℕ) → written_count w ≡ some n → ReadBack r buffer after n

-- REFUSED, the buffer is as it was.
abbrev pub RefusedKeeps : Type 0
RefusedKeeps = (r : Railway) (buffer : List ℕ) (w : Written) (after : List ℕ) → WriterPost r buffer w after → (n : ℕ) → written_number w ≡ some n → after ≡ buffer

-- Written and read: a reader that is handed the bytes that were answered for gives the same railway.
abbrev pub WrittenIsRead : Type 0
WrittenIsRead =
    (r : Railway) (buffer : List ℕ) (w : Written) (after : List ℕ) → WriterPost r buffer w after → (n : ℕ) → written_count w ≡ some n
    → (a : CaseRead) → ReaderPost (take n after) a → (q : Railway) × (a ≡ accepted q) × SameRailway r q
