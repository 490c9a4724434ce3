-- What is claimed of the case file, a sentence to each: of the lines, the writer's order and the same railway (document 01, "The case file"; document 02, Q-5,
-- Q-6 and Q-12), and of which number is given (there, "Numbers that a desk can get"). proofs/ has the proofs. Assumes nothing.
use Rattle.std.specs.Prelude.{◌≡◌, true, false, ◌↔◌, ◌⊎◌, ℕ, suc, ◌+◌, ◌*◌, ◌<◌, ◌≤◌, length, get_or, take}
use mathlib.Core.List.{List, map, Memᴰ}
use Rattle.std.proofs.Math.Option.{none, some}
use Rattle.laws.specs.Lists.{Every, rises}
use Rattle.railway.specs.declared.Side.TheVariants.{Up, Down}
use Rattle.railway.specs.declared.End.{End}
use Rattle.railway.specs.declared.End.TheVariants.{Section, Port}
use Rattle.railway.specs.Joined.{With}
use Rattle.railway.specs.declared.Train.{Train}
use Rattle.railway.specs.declared.Railway.{Railway}
use Rattle.railway.specs.declared.Refusal.{Refusal}
use Rattle.railway.specs.declared.Refusal.TheVariants.{Chain}
use Rattle.railway.specs.Ends.{leg_index}
use Rattle.railway.specs.Record.{joined, has_signal, is_closed, legs_of, train_of}
use Rattle.railway.specs.Rows.{record_refusal}
use Rattle.railway.specs.Chains.{LongWay, Round}
use Rattle.railway.specs.Same.{SameRailway}
use Rattle.case_file.specs.CaseRead.{CaseRead}
use Rattle.case_file.specs.Form.{EndField, section, port, JoinLine, SignalLine, TrainLine, Description, said_weight, Describes}
use Rattle.case_file.specs.Rows.{most_bytes, FormRow, count_row, weight_row, unknown_row, join_row, loose_row}
use Rattle.case_file.specs.Recording.{no_train_line, railway_of}
use Rattle.case_file.specs.Writing.{written_text}
use Rattle.case_file.specs.Given.{accepted, refused, RefusedWith, AcceptedWith, ReaderPost}
use Rattle.case_file.specs.Reading.{read, case_answer}

-- READING IS SPELLING. Reading gives a description exactly where it is well formed and spells the text.
abbrev pub ReadIsSpelling : Type 0
ReadIsSpelling = (text : List ℕ) (d : Description) → (read text ≡ some d) ↔ Describes text d

-- A text says one thing at most.
abbrev pub DescribesOne : Type 0
DescribesOne = (text : List ℕ) (d e : Description) → Describes text d → Describes text e → d ≡ e

-- Row 2 applies exactly where reading gives nothing.
abbrev pub FormDecided : Type 0
FormDecided = (text : List ℕ) → (read text ≡ none) ↔ FormRow text

-- WHICH ANSWER. A refusal is given for the earliest row that applies, and for no other.
abbrev pub RefusedExactly : Type 0
RefusedExactly = (text : List ℕ) (f : Refusal) → (case_answer text ≡ refused f) ↔ RefusedWith text f

-- A railway is answered exactly where no row applies and it is the text's.
abbrev pub AcceptedExactly : Type 0
AcceptedExactly = (text : List ℕ) (r : Railway) → (case_answer text ≡ accepted r) ↔ AcceptedWith text r

-- The answer is the only one that keeps a reader's promise, which any program that answers so keeps.
abbrev pub ReaderAnswers : Type 0
ReaderAnswers = (text : List ℕ) (a : CaseRead) → (a ≡ case_answer text) ↔ ReaderPost text a

-- ROW 13, IN WORDS (document 02, Q-6). Rows 3 to 6 and 16, which come before it, do not apply to what is said.
pub record JoinableLines (d : Description) : Type 0 where
  pub count : count_row d ≡ false
  pub weight : weight_row d ≡ false
  pub unknown : unknown_row d ≡ false
  pub join : join_row d ≡ false
  pub loose : loose_row d ≡ false

-- A text to which no row before it applies is refused with it exactly where, in the railway that is described, some setting of the points has a way between
-- section ends that meets more than four of them, or a round.
abbrev pub ChainGiven : Type 0
ChainGiven =
    (text : List ℕ) (d : Description) → length text ≤ most_bytes → Describes text d → JoinableLines d
    → (case_answer text ≡ refused Chain) ↔ (LongWay (railway_of d) ⊎ Round (railway_of d))

-- Every text is accepted with a railway or refused.
abbrev pub AlwaysAnswered : Type 0
AlwaysAnswered = (text : List ℕ) → ((r : Railway) × (case_answer text ≡ accepted r)) ⊎ ((f : Refusal) × (case_answer text ≡ refused f))

-- One byte more than a case text may have: so many bytes of a text decide what it is answered, whatever follows them.
abbrev pub CutDecides : Type 0
CutDecides = (text : List ℕ) (n : ℕ) → most_bytes < n → case_answer (take n text) ≡ case_answer text

-- FIELD BY FIELD. An end as written names an end of the record: the same kind, the number less one, the same side or leg.
abbrev pub Names : EndField → End → Type 0
Names (section n s) (Section m t) = (n ≡ suc m.0) × (s ≡ t)
Names (section n s) (Port m l) = ⊥
Names (port n l) (Section m t) = ⊥
Names (port n l) (Port m k) = (n ≡ suc m.0) × (l ≡ k)

-- The two ends are named by one of the J lines, in one order or the other.
pub record Joins (js : List JoinLine) (e f : End) : Type 0 where
  pub join : JoinLine
  pub member : Memᴰ join js
  pub ties : (Names join.one e × Names join.other f) ⊎ (Names join.one f × Names join.other e)

-- Some G line names the end.
pub record Signals (gs : List SignalLine) (e : End) : Type 0 where
  pub signal : SignalLine
  pub member : Memᴰ signal gs
  pub names : Names (section signal.number signal.side) e

-- A T line says this of a train.
pub record TrainSaid (t : TrainLine) (train : Train) : Type 0 where
  pub heading : train.heading ≡ t.heading
  pub start : suc train.start.0 ≡ t.start
  pub destination : suc train.destination.0 ≡ t.destination
  pub weight : train.weight ≡ said_weight t.weight

-- The record has what the lines say: the H line its counts, P line n the legs of point n, the J lines its joins, the G lines its signals, the X lines
-- its closed sections and T line t the data of train t.
pub record AsDescribed (d : Description) (r : Railway) : Type 0 where
  pub sections : r.sections ≡ d.sections
  pub points : r.points ≡ d.points
  pub trains : r.trains ≡ d.trains
  pub legs : (n : ℕ) → n < d.points → legs_of r n ≡ get_or d.legs n Up
  pub joins : (e f : End) → (joined r e ≡ With f) ↔ Joins d.joins e f
  pub signals : (e : End) → (has_signal r e ≡ true) ↔ Signals d.signals e
  pub closed : (x : ℕ) → (is_closed r x ≡ true) ↔ Memᴰ (suc x) d.closed
  pub roster : (t : ℕ) → t < d.trains → TrainSaid (get_or d.roster t no_train_line) (train_of r t)

-- A text that is accepted is read as a record that has what its lines say.
abbrev pub ReadAsDescribed : Type 0
ReadAsDescribed = (text : List ℕ) (r : Railway) → case_answer text ≡ accepted r → (d : Description) × Describes text d × AsDescribed d r

-- The text that the writer makes of an accepted record says what the record has.
abbrev pub WrittenAsDescribed : Type 0
WrittenAsDescribed = (r : Railway) → record_refusal r ≡ none → (d : Description) × Describes (written_text r) d × AsDescribed d r

-- THE ROUND TRIP. What is written of an accepted record is a case text of the same railway.
abbrev pub RoundTrip : Type 0
RoundTrip = (r : Railway) → record_refusal r ≡ none → (q : Railway) × (case_answer (written_text r) ≡ accepted q) × SameRailway r q

-- The writer's text of an accepted record fits into the bytes that a case text may have.
abbrev pub WrittenFits : Type 0
WrittenFits = (r : Railway) → record_refusal r ≡ none → length (written_text r) ≤ most_bytes

-- A railway that was read is accepted when it is handed in as a record.
abbrev pub AcceptedAgain : Type 0
AcceptedAgain = (text : List ℕ) (r : Railway) → case_answer text ≡ accepted r → record_refusal r ≡ none

-- THE WRITER'S ORDER. Where an end stands in it: section ends by number, down before up; behind them all the ports by point, stem before plus before minus
-- (2,000 is past every section end, for numbers are below 1,000).
abbrev pub rank : EndField → ℕ
rank (section n Down) = 2 * n
rank (section n Up) = suc (2 * n)
rank (port n l) = 2000 + (3 * n + leg_index l)

-- Of a J line the earlier end comes first: a section's where there is one, else the lower point's. J and G lines rise by the end that they begin with, so joins
-- between points come last; X lines rise by their section.
pub record Sorted (d : Description) : Type 0 where
  pub first : Every (λ j. rank j.one < rank j.other) d.joins
  pub joins : rises 0 (map (λ j. rank j.one) d.joins) ≡ true
  pub signals : rises 0 (map (λ g. rank (section g.number g.side)) d.signals) ≡ true
  pub closed : rises 0 d.closed ≡ true

-- The writer's text of an accepted record is in this order.
abbrev pub WriterSorts : Type 0
WriterSorts = (r : Railway) → record_refusal r ≡ none → (d : Description) → Describes (written_text r) d → Sorted d

-- THE SAME RAILWAY gets the same answer from the test of records.
abbrev pub SameRefusal : Type 0
SameRefusal = (r q : Railway) → SameRailway r q → record_refusal r ≡ record_refusal q

-- The same railway has the same text.
abbrev pub SameText : Type 0
SameText = (r q : Railway) → SameRailway r q → written_text r ≡ written_text q

-- Accepted records with the same text are the same railway.
abbrev pub TextSame : Type 0
TextSame = (r q : Railway) → record_refusal r ≡ none → record_refusal q ≡ none → written_text r ≡ written_text q → SameRailway r q
