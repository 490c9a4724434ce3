-- The lines that programs write for an answer (document 01, end of "The two tables and the plan": what the two programs write), and what is left of a
-- lent buffer that a text is put into (row 9 of the table of numbers). Assumes nothing.
use Rattle.std.specs.Prelude.{◌≡◌, List, [], ◌∷◌, ℕ, ◌≤◌, ltb, length, take}
use Rattle.std.proofs.Math.Option.{Option}
use Rattle.text.specs.Text.{decimal, line, bytes}
use Rattle.railway.specs.declared.Refusal.{Refusal}
use Rattle.railway.specs.declared.Refusal.TheVariants.{Space}
use Rattle.railway.specs.Refusals.{number, number_of, row, first}
use Rattle.case_file.specs.Written.{Written}
use Rattle.case_file.specs.Writing.{writer_answer, writer_buffer, written_number}
use Rattle.plan.specs.TestAnswer.{TestAnswer, Pass, Refused}

-- The word of a refusal.
abbrev pub refused_word : List ℕ
refused_word = bytes "refused"

-- A refusal: its word, and its number in the table.
abbrev pub refusal_line : Refusal → List ℕ
refusal_line f = line (refused_word ∷ decimal (number f) ∷ [])

-- The plan has passed its test.
abbrev pub pass_line : List ℕ
pass_line = line (bytes "pass" ∷ [])

-- There is no plan.
abbrev pub none_line : List ℕ
none_line = line (bytes "none" ∷ [])

-- The answer to the call for the test of a plan.
abbrev pub test_line : TestAnswer → List ℕ
test_line Pass = pass_line
test_line (Refused f) = refusal_line f

-- A TEXT INTO A LENT BUFFER. 9, space, is given if the text is longer than the buffer.
abbrev pub put_refusal : List ℕ → List ℕ → Option Refusal
put_refusal text buffer = first (row Space (ltb (length buffer) (length text)) ∷ [])

-- The buffer's bytes afterwards: the text in front, the rest as it was; all as it was where it is refused.
abbrev pub put_into : List ℕ → List ℕ → List ℕ
put_into text buffer = writer_buffer text buffer (put_refusal text buffer)

-- WHAT THE CALLS PROMISE that put a text into a buffer, which comes back as `new`: how many bytes the text has, or the refusal; the answer's number; and
-- the bytes.
pub record PutPost (text old : List ℕ) (w : Written) (new : List ℕ) : Type 0 where
  pub answer : w ≡ writer_answer text (put_refusal text old)
  pub numbered : written_number w ≡ number_of (put_refusal text old)
  pub buffer : new ≡ put_into text old

-- So many bytes has the longest of these lines at most.
abbrev pub most_answer_bytes : ℕ
most_answer_bytes = 16

-- WHAT THE CALLS PROMISE that put all that a program writes into a buffer: one of the texts that it may write, none of which is longer than so many
-- bytes, is put there.
pub record Puts (Output : List ℕ → Type 0) (most : ℕ) (old : List ℕ) (w : Written) (new : List ℕ) : Type 0 where
  pub text : List ℕ
  pub output : Output text
  pub short : length text ≤ most
  pub put : PutPost text old w new

-- All that a program writes stands whole in a buffer: its first n bytes are one of the texts that it may write.
pub record FrontIs (Output : List ℕ → Type 0) (n : ℕ) (buffer : List ℕ) : Type 0 where
  pub within : n ≤ length buffer
  pub output : Output (take n buffer)
