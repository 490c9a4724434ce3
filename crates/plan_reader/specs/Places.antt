-- What is read at a place of a text: the line that begins there. Contracts cite this file; what is promised of the checker does not speak of places.
-- Assumes nothing.
use Rattle.std.specs.Prelude.{◌≡◌, List, ℕ, ◌+◌, drop, None, Some}
use Rattle.railway.specs.declared.Railway.{Railway}
use Rattle.plan.specs.Reading.{read_line}
use Rattle.plan.specs.FirstLine.{line_bytes, first_of}
use Rattle.plan_reader.specs.LineRead.{LineAt, line_of}
use Rattle.plan_reader.specs.Answers.{answer_for}

-- The place behind a line that was read is this one.
abbrev pub EndsAt : ℕ → LineAt → Type 0
EndsAt n None = Unit {0}
EndsAt n (Some (l, end)) = end ≡ n

-- The answer for the first line of the text from the place on; and, where it spells a line of the plan, the place behind it.
pub record ReadAt (r : Railway) (text : List ℕ) (at : ℕ) (x : LineAt) : Type 0 where
  pub line : line_of x ≡ answer_for r (read_line r (first_of (drop at text)))
  pub end : EndsAt (at + line_bytes (drop at text)) x
