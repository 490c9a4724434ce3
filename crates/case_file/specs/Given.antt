-- What a case text is answered with (document 01, "Numbers that a desk can get": its third column, and the sentence on which number is given).
-- The number is that of the earliest row that applies; a text to which none does is accepted. Stated over texts and what they say, not through
-- any reading. Assumes nothing.
use Rattle.std.specs.Prelude.{◌≡◌, Bool, true, List, ◌∷◌, ◌↔◌, ℕ, ◌≤◌, length, Result, Ok, Err}
use Rattle.std.proofs.Math.Option.{Option, none, some}
use Rattle.laws.specs.Lists.{Every}
use Rattle.railway.specs.declared.Railway.{Railway}
use Rattle.railway.specs.declared.Refusal.{Refusal}
use Rattle.railway.specs.declared.Refusal.TheVariants.{Length, Form, Count, Weight, Unknown, Join, Loose, Chain, Double, Place, Mismatch, Space, PlanForm, PlanFault, Report, Stranded, Log}
use Rattle.railway.specs.CaseAnswer.{CaseAnswer, Accepted, Refused}
use Rattle.railway.specs.Refusals.{number, number_given, NotApplying, FirstOf}
use Rattle.railway.specs.Record.{empty_railway}
use Rattle.case_file.specs.CaseRead.{CaseRead}
use Rattle.case_file.specs.Form.{Description, Describes}
use Rattle.case_file.specs.Rows.{most_bytes, LengthRow, FormRow, count_row, weight_row, unknown_row, join_row, loose_row, chain_row, double_row, place_row, description_rows, description_table}
use Rattle.case_file.specs.Recording.{railway_of}

-- The answer that accepts a text, with its railway.
abbrev pub accepted : Railway → CaseRead
accepted r = record { answer = Accepted; railway = r }

-- The answer that refuses it, with the empty record, so that nothing else is answered.
abbrev pub refused : Refusal → CaseRead
refused f = record { answer = Refused f; railway = empty_railway }

-- What the reader's result says: a railway that is accepted, or a refusal and no railway.
abbrev pub case_read : Result Railway Refusal → CaseRead
case_read (Ok r) = accepted r
case_read (Err f) = refused f

-- The railway that is answered, if one is: a record beside a refusal is none.
abbrev pub railway_given : CaseAnswer → Railway → Option Railway
railway_given Accepted r = some r
railway_given (Refused f) r = none

-- What the text says passes a test.
pub record Says (text : List ℕ) (test : Description → Bool) : Type 0 where
  pub description : Description
  pub described : Describes text description
  pub passes : test description ≡ true

-- A row applies to a text. Rows 9 to 12, 14, 15 and 17 judge no case text.
abbrev pub Applies : List ℕ → Refusal → Type 0
Applies text Length = LengthRow text
Applies text Form = FormRow text
Applies text Count = Says text count_row
Applies text Weight = Says text weight_row
Applies text Unknown = Says text unknown_row
Applies text Join = Says text join_row
Applies text Loose = Says text loose_row
Applies text Chain = Says text chain_row
Applies text Double = Says text double_row
Applies text Place = Says text place_row
Applies text Space = ⊥
Applies text PlanForm = ⊥
Applies text PlanFault = ⊥
Applies text Report = ⊥
Applies text Mismatch = ⊥
Applies text Stranded = ⊥
Applies text Log = ⊥

-- The rows that judge a case text, in the order in which they are given: these two, then those that judge what it says.
abbrev pub case_table : List Refusal
case_table = Length ∷ Form ∷ description_table

-- A refusal is given: its row applies and none that stands before it.
abbrev pub RefusedWith : List ℕ → Refusal → Type 0
RefusedWith text f = FirstOf (Applies text) case_table f

-- The text is not too long, says something to which none of rows 3 to 8, 13 and 16 applies, and the railway is that of what it says.
pub record AcceptedWith (text : List ℕ) (r : Railway) : Type 0 where
  pub short : length text ≤ most_bytes
  pub description : Description
  pub described : Describes text description
  pub no_row : Every NotApplying (description_rows description)
  pub railway : r ≡ railway_of description

-- WHAT A READER PROMISES of its answer: number and railway exactly as above, and the empty record beside a refusal.
pub record ReaderPost (text : List ℕ) (a : CaseRead) : Type 0 where
  pub numbered : (f : Refusal) → (number_given a.answer ≡ some (number f)) ↔ RefusedWith text f
  pub railway : (r : Railway) → (railway_given a.answer a.railway ≡ some r) ↔ AcceptedWith text r
  pub nothing-beside : (f : Refusal) → RefusedWith text f → a.railway ≡ empty_railway
