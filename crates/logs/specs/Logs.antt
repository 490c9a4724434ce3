-- Panel log and axle log (document 02, Q-13): when two logs agree, what comparing them promises, and what is claimed of every answer that keeps the promise. Trains and sections
-- count from 0, the document's numbers less one. Assumes nothing.
use Rattle.std.specs.Prelude.{◌≡◌, ◌⊎◌, ◌↔◌, Bool, cond, ◌||◌, ℕ, ◌≤◌, ◌<◌, length, ltb, leb, eqb}
use mathlib.Core.List.{List, [], ◌∷◌, ◌++◌, Memᴰ}
use Rattle.std.proofs.Math.Option.{Option, none, some}
use Rattle.laws.specs.Lists.{any}
use Rattle.railway.specs.declared.Railway.{Railway}
use Rattle.railway.specs.declared.Refusal.{Refusal}
use Rattle.railway.specs.declared.Refusal.TheVariants.{Log}
use Rattle.railway.specs.Refusals.{number, number_of, Row, row, first}
use Rattle.railway.specs.Rows.{record_rows, record_refusal}
use Rattle.logs.specs.declared.Entry.{Entry}
use Rattle.logs.specs.LogAnswer.{LogAnswer, Agree, Differ, Refused}

-- A LOG is a list of entries; so many at most.
abbrev pub most_entries : ℕ
most_entries = 256

-- The sections that a log gives for train t, in order.
unfoldable pub sections_for : ℕ → List Entry → List ℕ
sections_for t [] = []
sections_for t (e ∷ es) = cond (eqb e.train t) (e.section ∷ sections_for t es) (sections_for t es)

-- Of train t two logs tell the same: the sections that it entered, one after the other.
abbrev pub SameFor : List Entry → List Entry → ℕ → Type 0
SameFor a b t = sections_for t a ≡ sections_for t b

-- They AGREE: they do so for every train.
abbrev pub Agreeing : List Entry → List Entry → Type 0
Agreeing a b = (t : ℕ) → SameFor a b t

-- Train t is the LOWEST THAT DIFFERS.
pub record LowestDiffering (a b : List Entry) (t : ℕ) : Type 0 where
  pub differs : SameFor a b t → ⊥
  pub below : (u : ℕ) → u < t → SameFor a b u

-- SWAPS turn the one log into the other: two entries side by side, of different trains, change places, one pair after the other.
pub data Swaps : List Entry → List Entry → Type 0 where
  done : {a : List Entry} → Swaps a a
  swap : {b : List Entry} (before : List Entry) (x y : Entry) (after : List Entry) → (x.train ≡ y.train → ⊥) → Swaps (before ++ (y ∷ x ∷ after)) b → Swaps (before ++ (x ∷ y ∷ after)) b

-- 17, LOG. An entry names a train or a section that the case lacks.
abbrev pub lacking : Railway → Entry → Bool
lacking r e = leb r.trains e.train || leb r.sections e.section

-- A log has too many entries, or such a one.
unfoldable pub faulty : Railway → List Entry → Bool
faulty r es = ltb most_entries (length es) || any (lacking r) es

-- One of two logs is such a one.
abbrev pub log_row : Railway → List Entry → List Entry → Bool
log_row r a b = faulty r a || faulty r b

-- The rows: those that judge a record, and last of all 17.
abbrev pub log_rows : Railway → List Entry → List Entry → List Row
log_rows r a b = record_rows r ++ (row Log (log_row r a b) ∷ [])

-- Nothing is refused.
abbrev pub Taken : Railway → List Entry → List Entry → Type 0
Taken r a b = first (log_rows r a b) ≡ none

-- THE ANSWER: the number, in the table, of the refusal that it gives, if it does.
abbrev pub number_said : LogAnswer → Option ℕ
number_said Agree = none
number_said (Differ t) = none
number_said (Refused f) = some (number f)

-- The train that it names, if it does.
abbrev pub train_named : LogAnswer → Option ℕ
train_named Agree = none
train_named (Differ t) = some t
train_named (Refused f) = none

-- What is so by the train that is named: it is the lowest that differs; where none is named, the logs agree.
abbrev pub Found : List Entry → List Entry → Option ℕ → Type 0
Found a b none = Agreeing a b
Found a b (some t) = LowestDiffering a b t

-- COMPARING a record and two logs promises that. Logs are only read.
pub record LogPost (r : Railway) (a b : List Entry) (x : LogAnswer) : Type 0 where
  pub numbered : number_said x ≡ number_of (first (log_rows r a b))
  pub compared : Taken r a b → Found a b (train_named x)

-- THE CLAIMS. Agreement is the same as swaps, of any two logs.
abbrev pub AgreeBySwaps : Type 0
AgreeBySwaps = (a b : List Entry) → Agreeing a b ↔ Swaps a b

-- A log is at fault: it has over 256 entries, or there is one in it that names a train or a section that the case lacks.
abbrev pub AtFault : Railway → List Entry → Type 0
AtFault r es = (256 < length es) ⊎ ((e : Entry) × Memᴰ e es × ((r.trains ≤ e.train) ⊎ (r.sections ≤ e.section)))

-- Of an answer that keeps the promise.
pub record LogClaims (r : Railway) (a b : List Entry) (x : LogAnswer) : Type 0 where
  -- agree exactly if nothing is refused and both logs tell the same of every train
  pub agree : (x ≡ Agree) ↔ (Taken r a b × Agreeing a b)
  -- agree exactly if nothing is refused and the one log becomes the other by swaps
  pub swaps : (x ≡ Agree) ↔ (Taken r a b × Swaps a b)
  -- a train is named exactly if nothing is refused and it is the lowest that differs
  pub differ : (t : ℕ) → (x ≡ Differ t) ↔ (Taken r a b × LowestDiffering a b t)
  -- it is one of the case's
  pub there : (t : ℕ) → x ≡ Differ t → t < r.trains
  -- what the test of a record gives is given before all else
  pub record-first : (f : Refusal) → record_refusal r ≡ some f → x ≡ Refused f
  -- 17 exactly if the record is accepted and one of the logs is at fault
  pub seventeen : (number_said x ≡ some 17) ↔ ((record_refusal r ≡ none) × (AtFault r a ⊎ AtFault r b))
  -- there is no other such answer
  pub only : (y : LogAnswer) → LogPost r a b y → y ≡ x

-- And there is one, for every record and any two logs.
pub record LogsHold : Type 0 where
  pub claims : (r : Railway) (a b : List Entry) (x : LogAnswer) → LogPost r a b x → LogClaims r a b x
  pub answered : (r : Railway) (a b : List Entry) → (x : LogAnswer) × LogPost r a b x
  pub by-swaps : AgreeBySwaps
