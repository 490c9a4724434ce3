-- A desk goes over to another case, its trains where they stand (document 02, Q-11): the call, what it promises, and the statement over whole lists of reports and changes. The
-- new case comes as a text, and its tables are lent with it; the old one is a record. Assumes nothing.
use Rattle.std.specs.Prelude.{◌≡◌, ◌↔◌, ◌⊎◌, Bool, true, false, cond, not, ◌||◌, ℕ, ◌≤◌, ◌<◌, length, ltb, eqb}
use mathlib.Core.List.{List, [], ◌∷◌, ◌++◌, map, Memᴰ}
use Rattle.std.proofs.Math.Option.{Option, none, some}
use Rattle.laws.specs.Below.{any_below}
use Rattle.laws.specs.Lists.{rises}
use Rattle.railway.specs.declared.Railway.{Railway}
use Rattle.railway.specs.declared.Refusal.{Refusal}
use Rattle.railway.specs.declared.Refusal.TheVariants.{Mismatch, Space, Report, Stranded}
use Rattle.railway.specs.Bounds.{most_sections, most_trains, section_ends, all_ends}
use Rattle.railway.specs.Ends.{side_index}
use Rattle.railway.specs.Refusals.{number, rank, Row, row, first, FirstOf}
use Rattle.railway.specs.Record.{link_at, flag_at, is_closed, closed_at, legs_of, train_of, weight_of}
use Rattle.railway.specs.Rows.{record_rows, record_refusal}
use Rattle.case_file.specs.Given.{Applies, case_table, RefusedWith, AcceptedWith}
use Rattle.game.specs.Game.{may, IsFigure}
use Rattle.game.specs.Placement.{placements}
use Rattle.game.specs.Moves.{game_of}
use Rattle.game_tables.specs.SolverAnswer.{SolverAnswer}
use Rattle.game_tables.specs.Tables.{figure_in, tables_short}
use Rattle.game_tables.specs.Solver.{SolverPost}
use Rattle.game_placement.specs.ByValue.{section_in}
use Rattle.desk.specs.OpenAnswer.{Opened}
use Rattle.desk.specs.ReportAnswer.{Refused as ReportRefused}
use Rattle.desk.specs.ChangeAnswer.{ChangeAnswer, Changed, Refused}
use Rattle.desk.specs.Desk.{Desk, desk_code, desk_row, desk_on, present, Opening, OpenPost, Reply, ReportPost}
use Rattle.desk.specs.Following.{moved_by, Carries, MoveCounts, Followable, AfterReports}

-- Train t heads the other way in the second case.
abbrev pub heads_other : Railway → Railway → ℕ → Bool
heads_other r s t = not (eqb (side_index (train_of r t).heading) (side_index (train_of s t).heading))

-- 14, MISMATCH: the new case has another number of sections or of trains, or one of its trains heads the other way.
unfoldable pub mismatch : Railway → Railway → Bool
mismatch r s = not (eqb r.sections s.sections) || (not (eqb r.trains s.trains) || any_below (heads_other r s) r.trains)

-- There is none.
abbrev pub is_none : Option ℕ → Bool
is_none none = true
is_none (some n) = false

-- 15, STRANDED: the new figure table has no figure at the desk's placement.
unfoldable pub stranded : Railway → List ℕ → Desk → Bool
stranded s figs d = is_none (figure_in figs (desk_code s d))

-- The rows of a change between accepted cases, in the order in which they are given: 14, 9 by the new tables, 12 in the old case, 15.
abbrev pub change_rows : Railway → Railway → Desk → List ℕ → List ℕ → List Row
change_rows r s d figs sets = row Mismatch (mismatch r s) ∷ row Space (tables_short s figs sets) ∷ row Report (desk_row r d) ∷ row Stranded (stranded s figs d) ∷ []

-- Of the old record's refusal and the new text's, the one that comes first in the order of the numbers.
abbrev pub sooner : Option Refusal → Refusal → Refusal
sooner none g = g
sooner (some f) g = cond (ltb (rank f) (rank g)) f g

-- THE CALL. An answer to a change, and the desk beside it.
pub record Changing : Type 0 where
  pub answer : ChangeAnswer
  pub desk : Desk

-- By the refusal: refused, the desk is as it was; else it has the same placement, and what it carries is the new case's.
abbrev pub change_by : Railway → Desk → Option Refusal → Changing
change_by s d (some f) = record { answer = Refused f; desk = d }
change_by s d none = record { answer = Changed; desk = desk_on s d.at }

-- To a new case that is read: the rows of the old record, then those of the change.
unfoldable pub change_to : Railway → Railway → Desk → List ℕ → List ℕ → Changing
change_to r s d figs sets = change_by s d (first (record_rows r ++ change_rows r s d figs sets))

-- The number, in the table, of the refusal that an answer gives, if it does.
abbrev pub number_changed : ChangeAnswer → Option ℕ
number_changed Changed = none
number_changed (Refused f) = some (number f)

-- The promise, by whether the text is refused or read. The tables are only read.
pub record ChangePost (r : Railway) (text : List ℕ) (d : Desk) (figs sets : List ℕ) (y : Changing) : Type 0 where
  pub not-read : (g : Refusal) → RefusedWith text g → (number_changed y.answer ≡ some (number (sooner (record_refusal r) g))) × (y.desk ≡ d)
  pub read : (s : Railway) → AcceptedWith text s → y ≡ change_to r s d figs sets

-- The place of a row's number in the order of the numbers.
abbrev pub row_rank : Row → ℕ
row_rank x = rank x.refusal

-- A number that judges a case applies to the old record or to the new text.
abbrev pub AppliesToEither : Railway → List ℕ → Refusal → Type 0
AppliesToEither r text f = Memᴰ (row f true) (record_rows r) ⊎ Applies text f

-- WHEN A CHANGE IS MADE. Sections, trains and headings agree.
pub record SameShape (r s : Railway) : Type 0 where
  pub sections : r.sections ≡ s.sections
  pub trains : r.trains ≡ s.trains
  pub headings : (t : ℕ) → t < r.trains → (train_of r t).heading ≡ (train_of s t).heading

-- The new text is accepted, both tables have room for its placements, it has the old case's shape, and the desk's placement has a figure in it.
pub record CanChange (r : Railway) (text : List ℕ) (d : Desk) (figs sets : List ℕ) : Type 0 where
  pub railway : Railway
  pub read : AcceptedWith text railway
  pub shape : SameShape r railway
  pub figures : placements railway ≤ length figs
  pub settings : placements railway ≤ length sets
  pub figure : ℕ
  pub has : figure_in figs (desk_code railway d) ≡ some figure

-- WHEN EACH OF ITS OWN NUMBERS IS GIVEN. Both cases are accepted: the old record, and the new text, which is read as this railway.
pub record BothAccepted (r : Railway) (text : List ℕ) : Type 0 where
  pub railway : Railway
  pub old : record_refusal r ≡ none
  pub read : AcceptedWith text railway

-- And the new one has the old one's shape.
pub record Fitting (r : Railway) (text : List ℕ) : Type 0 where
  pub both : BothAccepted r text
  pub shape : SameShape r both.railway

-- And its tables are long enough.
pub record Furnished (r : Railway) (text figs sets : List ℕ) : Type 0 where
  pub fits : Fitting r text
  pub figures : placements fits.both.railway ≤ length figs
  pub settings : placements fits.both.railway ≤ length sets

-- THE STARTS. Two records that differ in the trains' starts alone: all else that makes them the same railway (railway/Same) agrees.
pub record SameButStarts (r s : Railway) : Type 0 where
  pub sections : r.sections ≡ s.sections
  pub points : r.points ≡ s.points
  pub trains : r.trains ≡ s.trains
  pub legs : (n : ℕ) → n < r.points → legs_of r n ≡ legs_of s n
  pub joins : (i : ℕ) → i < all_ends → link_at r i ≡ link_at s i
  pub signals : (i : ℕ) → i < section_ends → flag_at r i ≡ flag_at s i
  pub closed : (x : ℕ) → x < most_sections → closed_at r x ≡ closed_at s x
  pub headings : (t : ℕ) → t < r.trains → (train_of r t).heading ≡ (train_of s t).heading
  pub destinations : (t : ℕ) → t < r.trains → (train_of r t).destination ≡ (train_of s t).destination
  pub weights : (t : ℕ) → t < r.trains → weight_of r t ≡ weight_of s t

-- Two records with as many sections, and as many trains with the same headings and destinations; all else may differ.
pub record SameBound (r s : Railway) : Type 0 where
  pub sections : r.sections ≡ s.sections
  pub trains : r.trains ≡ s.trains
  pub headings : (t : ℕ) → t < r.trains → (train_of r t).heading ≡ (train_of s t).heading
  pub destinations : (t : ℕ) → t < r.trains → (train_of r t).destination ≡ (train_of s t).destination

-- WORKING ON: a desk with its case and the tables lent with it; the desk with which this case began, and the trains of the reports that have counted since.
pub record Working : Type 0 where
  pub railway : Railway
  pub figs : List ℕ
  pub sets : List ℕ
  pub begun : Desk
  pub moved : List ℕ
  pub desk : Desk

-- The case, the tables, the desk with which it began, the trains that have moved since, the desk now.
abbrev pub working_on : Railway → List ℕ → List ℕ → Desk → List ℕ → Desk → Working
working_on r figs sets b ts e = record { railway = r; figs = figs; sets = sets; begun = b; moved = ts; desk = e }

-- A case that begins with this desk.
abbrev pub beginning_with : Railway → List ℕ → List ℕ → Desk → Working
beginning_with r figs sets d = working_on r figs sets d [] d

-- The same with another desk.
abbrev pub with_desk : Working → Desk → Working
with_desk w d = working_on w.railway w.figs w.sets w.begun w.moved d

-- REPORTS AND CHANGES, one after the other, by anyone: reports with the present case and its tables; changes that are made, to a case whose tables can be followed, as a solver's
-- can, and which is the present one from there on; and any that are refused, with whatever records, texts and tables.
pub data Works : Working → Working → Type 0 where
  started : {w : Working} → Works w w
  reports : {v w : Working} (t x : ℕ) (y : Reply) → Works v w → ReportPost w.railway w.desk w.figs w.sets t x y
      → Works v (working_on w.railway w.figs w.sets w.begun (w.moved ++ moved_by y.answer t) y.desk)
  changes : {v w : Working} (text : List ℕ) (s : Railway) (figs sets : List ℕ) (y : Changing) → Works v w → AcceptedWith text s → Followable s figs sets
      → ChangePost w.railway text w.desk figs sets y → y.answer ≡ Changed → Works v (beginning_with s figs sets y.desk)
  report-refused : {v w : Working} (o : Railway) (figs sets : List ℕ) (t x : ℕ) (f : Refusal) (y : Reply) → Works v w → ReportPost o w.desk figs sets t x y → y.answer ≡ ReportRefused f
      → Works v (with_desk w y.desk)
  change-refused : {v w : Working} (o : Railway) (text figs sets : List ℕ) (f : Refusal) (y : Changing) → Works v w → ChangePost o text w.desk figs sets y → y.answer ≡ Refused f
      → Works v (with_desk w y.desk)

-- Where work begins: with a desk that 12 does not stop, in an accepted case, with tables that are long enough and can be followed, at a placement that has a figure. (A desk's
-- array always has that length.)
pub record Beginning (w : Working) : Type 0 where
  pub accepted : record_refusal w.railway ≡ none
  pub figures : placements w.railway ≤ length w.figs
  pub settings : placements w.railway ≤ length w.sets
  pub followed : Followable w.railway w.figs w.sets
  pub sized : length w.desk.at.sections ≡ most_trains
  pub sound : desk_row w.railway w.desk ≡ false
  pub figure : ℕ
  pub has : figure_in w.figs (desk_code w.railway w.desk) ≡ some figure
  pub first : w.begun ≡ w.desk
  pub none_yet : w.moved ≡ []

-- Where it stands then: the desk with which the present case began has a figure in it, and from there on the reports with this case have been followed.
pub record AtWork (w : Working) : Type 0 where
  pub figure : ℕ
  pub has : figure_in w.figs (desk_code w.railway w.begun) ≡ some figure
  pub after : AfterReports w.railway w.figs w.sets w.begun figure w.moved w.desk

-- WITH THE SOLVER'S TABLES of the new case, s, lent with the change and from there on: of any desk d, whatever its old case r and the tables that it had there.
pub record ChangeSolved (r : Railway) (d : Desk) (text : List ℕ) (s : Railway) (figs sets : List ℕ) : Type 0 where
  -- where the old record is accepted and 12 does not stop it there: it goes over exactly if the shape agrees and its placement has a figure in the new case, and 15 is given exactly
  -- if the shape agrees and there is none
  pub made-exactly : record_refusal r ≡ none → desk_row r d ≡ false → (y : Changing) → ChangePost r text d figs sets y
      → (y.answer ≡ Changed) ↔ (SameShape r s × ((n : ℕ) × IsFigure (game_of s) (desk_code s d) (some n)))
  pub stranded-exactly : record_refusal r ≡ none → desk_row r d ≡ false → (y : Changing) → ChangePost r text d figs sets y
      → (y.answer ≡ Refused Stranded) ↔ (SameShape r s × IsFigure (game_of s) (desk_code s d) none)
  -- from the change on, whatever comes, as long as this is the case: the trains come home within as many reports as that figure
  pub home : (y : Changing) → ChangePost r text d figs sets y → y.answer ≡ Changed → (n : ℕ) → IsFigure (game_of s) (desk_code s d) (some n)
      → (ts : List ℕ) (e : Desk) → Works (beginning_with s figs sets y.desk) (working_on s figs sets y.desk ts e) → AfterReports s figs sets y.desk n ts e

-- Q-11.
pub record ChangeHolds : Type 0 where
  -- if the old record is accepted and 12 does not stop the desk there, it goes over exactly if it can
  pub exactly : (r : Railway) (d : Desk) → record_refusal r ≡ none → desk_row r d ≡ false → (text figs sets : List ℕ) (y : Changing) → ChangePost r text d figs sets y
      → (y.answer ≡ Changed) ↔ CanChange r text d figs sets
  -- then the trains stand where they stood, and what the desk carries is right in the new case
  pub carries : (r s : Railway) (text : List ℕ) (d : Desk) (figs sets : List ℕ) (y : Changing) → AcceptedWith text s → ChangePost r text d figs sets y → y.answer ≡ Changed
      → (y.desk.at ≡ d.at) × Carries s y.desk
  -- else it is the old desk
  pub stays : (r : Railway) (text : List ℕ) (d : Desk) (figs sets : List ℕ) (y : Changing) (f : Refusal) → ChangePost r text d figs sets y → y.answer ≡ Refused f → y.desk ≡ d
  -- where the text is not read, the change is refused with the first number that applies to the old record or to the text; where it is read, the old record's number comes before all others
  pub first-of-both : (r : Railway) (text : List ℕ) (d : Desk) (figs sets : List ℕ) (y : Changing) → ChangePost r text d figs sets y
      → (g : Refusal) → RefusedWith text g → (f : Refusal) × (y.answer ≡ Refused f) × FirstOf (AppliesToEither r text) case_table f
  pub old-record : (r s : Railway) (text : List ℕ) (d : Desk) (figs sets : List ℕ) (y : Changing) (f : Refusal) → ChangePost r text d figs sets y → AcceptedWith text s
      → record_refusal r ≡ some f → y.answer ≡ Refused f
  -- the rows stand in the order of the numbers: those of a text, and those of an old record with those of a change behind them, among which there is neither 1 nor 2
  pub text-order : rises 0 (map rank case_table) ≡ true
  pub change-order : (r s : Railway) (d : Desk) (figs sets : List ℕ) → rises 2 (map row_rank (record_rows r ++ change_rows r s d figs sets)) ≡ true
  -- 14 exactly if both cases are accepted and their shapes differ
  pub fourteen : (r : Railway) (text : List ℕ) (d : Desk) (figs sets : List ℕ) (y : Changing) → ChangePost r text d figs sets y
      → (y.answer ≡ Refused Mismatch) ↔ ((b : BothAccepted r text) × (SameShape r b.railway → ⊥))
  -- 9 exactly if both are accepted, the shapes agree, and a table is too short for the new case
  pub nine : (r : Railway) (text : List ℕ) (d : Desk) (figs sets : List ℕ) (y : Changing) → ChangePost r text d figs sets y
      → (y.answer ≡ Refused Space) ↔ ((b : Fitting r text) × ((length figs < placements b.both.railway) ⊎ (length sets < placements b.both.railway)))
  -- 12 exactly if the shapes agree, both tables are long enough, and 12 stops the desk in its old case
  pub twelve : (r : Railway) (text : List ℕ) (d : Desk) (figs sets : List ℕ) (y : Changing) → ChangePost r text d figs sets y
      → (y.answer ≡ Refused Report) ↔ (Furnished r text figs sets × (desk_row r d ≡ true))
  -- 15 exactly if all that is well, and the new figure table has none at the desk's placement
  pub fifteen : (r : Railway) (text : List ℕ) (d : Desk) (figs sets : List ℕ) (y : Changing) → ChangePost r text d figs sets y
      → (y.answer ≡ Refused Stranded) ↔ ((b : Furnished r text figs sets) × (desk_row r d ≡ false) × (figure_in figs (desk_code b.fits.both.railway d) ≡ none))
  -- the starts of the new file play no part: two files that differ in them alone, both read, change a desk alike; and so do any two with the same sections, headings and destinations
  pub starts : (r s₁ s₂ : Railway) (text₁ text₂ : List ℕ) → AcceptedWith text₁ s₁ → AcceptedWith text₂ s₂ → SameButStarts s₁ s₂
      → (d : Desk) (figs sets : List ℕ) (x y : Changing) → ChangePost r text₁ d figs sets x → ChangePost r text₂ d figs sets y → x ≡ y
  pub bound : (r s₁ s₂ : Railway) (text₁ text₂ : List ℕ) → AcceptedWith text₁ s₁ → AcceptedWith text₂ s₂ → SameBound s₁ s₂
      → (d : Desk) (figs sets : List ℕ) (x y : Changing) → ChangePost r text₁ d figs sets x → ChangePost r text₂ d figs sets y → x ≡ y
  -- over whole lists of reports and changes, behind a change of any desk, with new tables that can be followed: the present case's figure falls with every report that counts, and the
  -- trains are home within it. (A desk's array always has that length.)
  pub from-change : (r s : Railway) (text : List ℕ) (d : Desk) (figs sets : List ℕ) (y : Changing) → AcceptedWith text s → Followable s figs sets → length d.at.sections ≡ most_trains
      → ChangePost r text d figs sets y → y.answer ≡ Changed → (w : Working) → Works (beginning_with s figs sets y.desk) w → AtWork w
  -- so a train on a section that is closed now may leave it: its report counts, if it may move
  pub closed-left : (r s : Railway) (text : List ℕ) (d : Desk) (figs sets : List ℕ) (y : Changing) → AcceptedWith text s → Followable s figs sets → length d.at.sections ≡ most_trains
      → ChangePost r text d figs sets y → y.answer ≡ Changed → (w : Working) → Works (beginning_with s figs sets y.desk) w
      → (t : ℕ) → is_closed w.railway (section_in w.desk.at t) ≡ true → may (game_of w.railway) (desk_code w.railway w.desk) (present w.railway w.desk w.sets) t ≡ true
      → MoveCounts w.railway w.figs w.sets w.desk t
  -- the same from a beginning on, and an opening with tables that can be followed is one
  pub works : (v w : Working) → Beginning v → Works v w → AtWork w
  pub opening : (r : Railway) (figs sets : List ℕ) (x : Opening) → Followable r figs sets → OpenPost r figs sets x → x.answer ≡ Opened → Beginning (beginning_with r figs sets x.desk)
  -- and with the tables that a solver filled for the new case
  pub solved : (s : Railway) (a : SolverAnswer) (figs sets figs₁ sets₁ : List ℕ) → placements s ≤ length figs → placements s ≤ length sets → SolverPost s a figs sets figs₁ sets₁
      → (r : Railway) (d : Desk) → length d.at.sections ≡ most_trains → (text : List ℕ) → AcceptedWith text s → ChangeSolved r d text s figs₁ sets₁
