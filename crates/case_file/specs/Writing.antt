-- The writer (document 01, "The case file", last paragraph; document 02, Q-6 and Q-12; row 9 of the table of numbers): the text that it makes of a railway, and what it
-- answers and leaves when it is handed a record and a lent buffer. Assumes nothing.
use Rattle.std.specs.Prelude.{◌≡◌, Bool, cond, List, [], ◌∷◌, ◌++◌, ℕ, suc, ltb, eqb, length, drop}
use Rattle.std.proofs.Math.Option.{Option, none, some}
use Rattle.laws.specs.Below.{list_below, gather_below}
use Rattle.railway.specs.Joined.{Joined, Nothing, With}
use Rattle.railway.specs.declared.Train.{Train}
use Rattle.railway.specs.declared.Railway.{Railway}
use Rattle.railway.specs.declared.Refusal.{Refusal}
use Rattle.railway.specs.declared.Refusal.TheVariants.{Space}
use Rattle.railway.specs.Bounds.{most_sections, section_ends, all_ends}
use Rattle.railway.specs.Ends.{end_index, end_at}
use Rattle.railway.specs.Refusals.{number, number_of, Row, row, first}
use Rattle.railway.specs.Record.{link_at, flag_at, closed_at, legs_of, train_of}
use Rattle.railway.specs.Rows.{record_rows}
use Rattle.case_file.specs.Written.{Written, Bytes, Refused}
use Rattle.case_file.specs.Form.{JoinLine, SignalLine, TrainLine, Description, unsaid_weight, spell}
use Rattle.case_file.specs.Recording.{field_of, signal_of}

-- THE TEXT. A walk over all ends by index makes the J lines: section by section, the down end before the up end, and then point by point, the stem before the
-- plus port and that before the minus port. A walk over the section ends makes the G lines; one over the sections makes the X lines.
-- The J line that begins with the end of index i, by what that end is joined to: there is one if the other end has a later index. So a section end
-- stands before a port, and of two points the lower one comes first.
abbrev pub join_from : ℕ → Joined → List JoinLine
join_from i Nothing = []
join_from i (With f) = cond (ltb i (end_index f)) (record { one = field_of (end_at i); other = field_of f } ∷ []) []

-- The J line that begins with the end of index i in a record, if there is one.
abbrev pub join_at : Railway → ℕ → List JoinLine
join_at r i = join_from i (link_at r i)

-- The G line of a section end, if a signal stands there.
abbrev pub signal_at : Railway → ℕ → List SignalLine
signal_at r i = cond (flag_at r i) (signal_of i ∷ []) []

-- The X line of a section, if it is closed.
abbrev pub closed_line_of : Railway → ℕ → List ℕ
closed_line_of r x = cond (closed_at r x) (suc x ∷ []) []

-- A weight as the writer puts it: 1 is omitted.
abbrev pub written_weight : ℕ → Option ℕ
written_weight w = cond (eqb w unsaid_weight) none (some w)

-- The T line of a train.
abbrev pub line_of_train : Train → TrainLine
line_of_train t = record { heading = t.heading; start = suc t.start.0; destination = suc t.destination.0; weight = written_weight t.weight }

-- What the writer's text says: all that the record has, by rising point, end, section and train.
unfoldable pub description_of : Railway → Description
description_of r =
    record {
      sections = r.sections;
      points = r.points;
      trains = r.trains;
      legs = list_below (legs_of r) r.points;
      joins = gather_below (join_at r) all_ends;
      signals = gather_below (signal_at r) section_ends;
      closed = gather_below (closed_line_of r) most_sections;
      roster = list_below (λ t. line_of_train (train_of r t)) r.trains;
    }

-- The writer's text.
unfoldable pub written_text : Railway → List ℕ
written_text r = spell (description_of r)

-- THE WRITER. 9, space: the text is longer than the buffer.
abbrev pub space_row : Railway → List ℕ → Bool
space_row r buffer = ltb (length buffer) (length (written_text r))

-- The rows that it looks at: those of the record, then 9.
abbrev pub writer_rows : Railway → List ℕ → List Row
writer_rows r buffer = record_rows r ++ (row Space (space_row r buffer) ∷ [])

-- The first of them that applies, if one does.
unfoldable pub writer_refusal : Railway → List ℕ → Option Refusal
writer_refusal r buffer = first (writer_rows r buffer)

-- What is answered: how many bytes were written, or the refusal.
abbrev pub writer_answer : List ℕ → Option Refusal → Written
writer_answer text none = Bytes (length text)
writer_answer text (some f) = Refused f

-- The buffer's bytes afterwards: the text in front, the rest as it was; all as it was where the writer refuses.
abbrev pub writer_buffer : List ℕ → List ℕ → Option Refusal → List ℕ
writer_buffer text buffer none = text ++ drop (length text) buffer
writer_buffer text buffer (some f) = buffer

-- The writer's answer to any record and buffer.
unfoldable pub written : Railway → List ℕ → Written
written r buffer = writer_answer (written_text r) (writer_refusal r buffer)

-- The bytes that it leaves there.
unfoldable pub buffer_after : Railway → List ℕ → List ℕ
buffer_after r buffer = writer_buffer (written_text r) buffer (writer_refusal r buffer)

-- The number that an answer gives, if it refuses.
abbrev pub written_number : Written → Option ℕ
written_number (Bytes n) = none
written_number (Refused f) = some (number f)

-- The count of bytes written, if the answer has one.
abbrev pub written_count : Written → Option ℕ
written_count (Bytes n) = some n
written_count (Refused f) = none

-- WHAT A WRITER PROMISES, handed a buffer that comes back as `new`: the answer and the bytes, and the answer's number, that of the first row that
-- applies.
pub record WriterPost (r : Railway) (old : List ℕ) (w : Written) (new : List ℕ) : Type 0 where
  pub answer : w ≡ written r old
  pub numbered : written_number w ≡ number_of (first (writer_rows r old))
  pub buffer : new ≡ buffer_after r old
