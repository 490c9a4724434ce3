-- A railway compiled into bytes, for loops that ask the same things of it many times. Nothing of document 01 rests on this file but
-- for `CompilePost`, what compiling a record promises: contracts cite it, and the laws in proofs/Table say that the bytes give what the record gives.
-- Assumes nothing.
use Rattle.std.specs.Prelude.{◌≡◌, Bool, true, false, cond, not, ◌&&◌, List, ℕ, ◌+◌, ◌-◌, ◌*◌, ◌/◌, ◌%◌, ◌<◌, ltb, eqb, length, get_or, replicate, Result, Ok, Err}
use Rattle.std.proofs.Math.Option.{none, some}
use Rattle.railway.specs.declared.End.{End}
use Rattle.railway.specs.declared.End.TheVariants.{Section}
use Rattle.railway.specs.declared.Train.{Train}
use Rattle.railway.specs.declared.Railway.{Railway}
use Rattle.railway.specs.declared.Refusal.{Refusal}
use Rattle.railway.specs.CaseAnswer.{Accepted, Refused}
use Rattle.railway.specs.Bounds.{most_sections, most_trains}
use Rattle.railway.specs.Ends.{side_index}
use Rattle.railway.specs.Record.{has_signal, train_of, weight_of}
use Rattle.railway.specs.Rows.{record_refusal}
use Rattle.railway_acceptance.specs.Answers.{Judged}
use Rattle.railway_compiled.specs.Compilation.{Compilation}

-- Where the counts begin: behind a byte for each train and section.
abbrev pub stand_bytes : ℕ
stand_bytes = most_trains * most_sections

-- Where the trains' own bytes begin: behind three counts.
abbrev pub count_bytes : ℕ
count_bytes = stand_bytes + 3

-- How long the table is: four bytes more for each train.
abbrev pub table_bytes : ℕ
table_bytes = count_bytes + 4 * most_trains

-- How a train stands: parked, held by a signal, or free.
abbrev pub stand_byte : Bool → Bool → ℕ
stand_byte true signal = 2
stand_byte false true = 1
stand_byte false false = 0

-- The end that train t heads for on section x.
abbrev pub end_on : Railway → ℕ → ℕ → End
end_on r t x = Section (record { 0 = x }) (train_of r t).heading

-- Section x is the destination of train t: there it is parked.
abbrev pub parked_on : Railway → ℕ → ℕ → Bool
parked_on r t x = eqb x (train_of r t).destination.0

-- The table has bytes on train t and section x: some railway can have both.
abbrev pub within : ℕ → ℕ → Bool
within t x = ltb t most_trains && ltb x most_sections

-- How train t stands on section x; as if parked, where the table has no byte on it.
abbrev pub stand_on : Railway → ℕ → ℕ → ℕ
stand_on r t x = cond (within t x) (stand_byte (parked_on r t x) (has_signal r (end_on r t x))) (stand_byte true false)

-- It is held there: not parked, and a signal stands at the end that it heads for.
abbrev pub held_on : Railway → ℕ → ℕ → Bool
held_on r t x = within t x && (not (parked_on r t x) && has_signal r (end_on r t x))

-- It is free there: not parked, and none does.
abbrev pub free_on : Railway → ℕ → ℕ → Bool
free_on r t x = within t x && (not (parked_on r t x) && not (has_signal r (end_on r t x)))

-- The numbers of sections, points and trains.
unfoldable pub count_byte : Railway → ℕ → ℕ
count_byte r i = cond (eqb i 0) r.sections (cond (eqb i 1) r.points r.trains)

-- The heading, start, destination and weight of train t.
unfoldable pub roster_byte : Railway → ℕ → ℕ → ℕ
roster_byte r i t =
    cond (eqb i 0) (side_index (train_of r t).heading)
    (cond (eqb i 1) (train_of r t).start.0 (cond (eqb i 2) (train_of r t).destination.0 (weight_of r t)))

-- The byte at index i: how a train stands on a section, train by train; then the counts, and the trains' own.
unfoldable pub compiled_byte : Railway → ℕ → ℕ
compiled_byte r i =
    cond (ltb i stand_bytes) (stand_on r (i / most_sections) (i % most_sections))
    (cond (ltb i count_bytes) (count_byte r (i - stand_bytes)) (roster_byte r ((i - count_bytes) / most_trains) ((i - count_bytes) % most_trains)))

-- The table of an accepted railway.
pub record Compiled (r : Railway) (table : List ℕ) : Type 0 where
  pub accepted : record_refusal r ≡ none
  pub bytes : (i : ℕ) → i < table_bytes → get_or table i 0 ≡ compiled_byte r i

-- What the result of a call says: the table of a record that is accepted, or a refusal and a table that is all zero.
abbrev pub compilation : Result (List ℕ) Refusal → Compilation
compilation (Ok table) = record { tested = Accepted; table = table }
compilation (Err f) = record { tested = Refused f; table = replicate table_bytes 0 }

-- What compiling a record gives: it is judged by rows 3 to 8, 13 and 16; accepted, the table is the railway's; refused, it is all zero.
pub record CompilePost (r : Railway) (c : Compilation) : Type 0 where
  pub judged : Judged r c.tested
  pub accepted : record_refusal r ≡ none → Compiled r c.table
  pub refused : (f : Refusal) → record_refusal r ≡ some f → c.table ≡ replicate table_bytes 0

-- WHILE A TABLE IS MADE. The record has so many sections, points and trains.
pub record Counted (r : Railway) (s p k : ℕ) : Type 0 where
  pub sections : r.sections ≡ s
  pub points : r.points ≡ p
  pub trains : r.trains ≡ k

-- These are its trains, and behind them what stands for none.
pub record Rostered (r : Railway) (trains : List Train) : Type 0 where
  pub each : (t : ℕ) (d : Train) → t < most_trains → get_or trains t d ≡ train_of r t

-- The bytes of all trains before t stand in the table.
pub record FilledBefore (r : Railway) (t : ℕ) (table : List ℕ) : Type 0 where
  pub sized : length table ≡ table_bytes
  pub below : (j : ℕ) → j < most_sections * t → get_or table j 0 ≡ compiled_byte r j
