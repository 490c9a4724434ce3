-- Shortest runs (document 02, Q-3; closed sections, Q-5; points joined to points, Q-6): runs of a heading, the square table of their lengths, what the call for a table
-- promises, and the statement on tables and on figures. Sections count from 0: the document's numbers less one. Assumes nothing.
use Rattle.std.specs.Prelude.{◌≡◌, ◌↔◌, Bool, true, List, [], ℕ, suc, ◌≤◌, ◌<◌, length, get_or, Result, Ok, Err}
use Rattle.std.proofs.Math.Option.{Option, none, some}
use Rattle.laws.specs.Below.{sum_below}
use Rattle.railway.specs.declared.Side.{Side}
use Rattle.railway.specs.declared.Side.TheVariants.{Up, Down}
use Rattle.railway.specs.declared.End.TheVariants.{Section}
use Rattle.railway.specs.declared.Railway.{Railway}
use Rattle.railway.specs.declared.Refusal.{Refusal}
use Rattle.railway.specs.CaseAnswer.{CaseAnswer, Accepted, Refused}
use Rattle.railway.specs.Bounds.{most_sections}
use Rattle.railway.specs.Refusals.{number_given, number_of}
use Rattle.railway.specs.Record.{is_closed, train_of}
use Rattle.railway.specs.Passing.{entered}
use Rattle.railway.specs.Rows.{record_refusal}
use Rattle.game.specs.Game.{IsFigure}
use Rattle.game.specs.Placement.{placements, start_code}
use Rattle.game.specs.Moves.{game_of}
use Rattle.game_tables.specs.SolverAnswer.{SolverAnswer, Unsolvable}
use Rattle.game_tables.specs.Solver.{figure_given, SolverPost}

-- A train of this heading that leaves section x enters section y, with some points at plus: no signal and no other train plays a part, and no closed section is entered.
pub record Enters (r : Railway) (heading : Side) (x y : ℕ) : Type 0 where
  pub plus : ℕ → Bool
  pub comes : entered r plus (Section (record { 0 = x }) heading) ≡ some y

-- A RUN from section x to section y in which n sections are entered, one after the other; the points may lie anew for each. From a section that is there to itself none need be.
pub data Run (r : Railway) (heading : Side) (x : ℕ) : ℕ → ℕ → Type 0 where
  here : x < r.sections → Run r heading x x 0
  further : {y z n : ℕ} → Run r heading x y n → Enters r heading y z → Run r heading x z (suc n)

-- What stands for no run.
abbrev pub no_run : ℕ
no_run = 255

-- AN ENTRY v, from section x to section y: the length of a run, of which none is shorter; what stands for no run exactly where there is none.
pub record IsRun (r : Railway) (heading : Side) (x y v : ℕ) : Type 0 where
  pub reached : (v ≡ no_run → ⊥) → Run r heading x y v
  pub least : (n : ℕ) → Run r heading x y n → v ≤ n
  pub none-exactly : (v ≡ no_run) ↔ ((n : ℕ) → ¬ (Run r heading x y n))

-- The entry of a square table, in row x at column y.
abbrev pub entry_at : List (List ℕ) → ℕ → ℕ → ℕ
entry_at g x y = get_or (get_or g x []) y 0

-- A square: 48 rows of 48 entries.
pub record Square (g : List (List ℕ)) : Type 0 where
  pub rows : length g ≡ most_sections
  pub columns : (x : ℕ) → x < most_sections → length (get_or g x []) ≡ most_sections

-- THE TABLE of a heading: a square, with an entry from every section, there or not, to every section.
pub record RunTable (r : Railway) (heading : Side) (g : List (List ℕ)) : Type 0 where
  pub square : Square g
  pub entries : (x y : ℕ) → x < most_sections → y < most_sections → IsRun r heading x y (entry_at g x y)

-- TWO RECORDS OF ONE TRACK: all is the same but the signals and the trains, how many there are, their headings, starts, destinations and weights.
pub record SameTrack (r s : Railway) : Type 0 where
  pub sections : r.sections ≡ s.sections
  pub points : r.points ≡ s.points
  pub legs : r.legs ≡ s.legs
  pub links : r.links ≡ s.links
  pub closed : r.closed ≡ s.closed

-- They have the same runs; an entry of the one is an entry of the other, and a table a table.
pub record SameRuns (r s : Railway) : Type 0 where
  pub runs : (heading : Side) (x y n : ℕ) → Run r heading x y n ↔ Run s heading x y n
  pub entries : (heading : Side) (x y v : ℕ) → IsRun r heading x y v → IsRun s heading x y v
  pub tables : (heading : Side) (g : List (List ℕ)) → RunTable r heading g → RunTable s heading g

-- THE CALL for a table is handed the record, a heading and a square table. What it answers, and the table that is handed back.
pub record RunReply : Type 0 where
  pub answer : CaseAnswer
  pub table : List (List ℕ)

-- The table in an answer.
abbrev pub table_in : RunReply → List (List ℕ)
table_in a = a.table

-- Of a call that was handed this table: refused, it is the one that stands.
abbrev pub replied : List (List ℕ) → Result (List (List ℕ)) Refusal → RunReply
replied old (Ok g) = record { answer = Accepted; table = g }
replied old (Err f) = record { answer = Refused f; table = old }

-- What table is handed back: refused, the one that came; else that of the heading.
abbrev pub TableLeft : Railway → Side → List (List ℕ) → List (List ℕ) → Option Refusal → Type 0
TableLeft r heading old new (some f) = new ≡ old
TableLeft r heading old new none = RunTable r heading new

-- The call promises that, by the rows that judge a record, and answers the number of the one that applies, or that it is accepted.
pub record RunPost (r : Railway) (heading : Side) (old : List (List ℕ)) (a : RunReply) : Type 0 where
  pub numbered : number_given a.answer ≡ number_of (record_refusal r)
  pub leaves : TableLeft r heading old (table_in a) (record_refusal r)

-- Of two tables, for up and for down, that of a heading.
abbrev pub table_of : List (List ℕ) → List (List ℕ) → Side → List (List ℕ)
table_of up down Up = up
table_of up down Down = down

-- The run of train t, from its start to its destination.
abbrev pub train_run : Railway → List (List ℕ) → List (List ℕ) → ℕ → ℕ
train_run r up down t = entry_at (table_of up down (train_of r t).heading) (train_of r t).start.0 (train_of r t).destination.0

-- The runs of all trains, in sum.
abbrev pub runs_sum : Railway → List (List ℕ) → List (List ℕ) → ℕ
runs_sum r up down = sum_below (train_run r up down) r.trains

-- WHAT A TABLE SAYS. It is a square. An entry other than that for no run is the length of a run; no run is shorter than its entry says; that for no run stands exactly where there is none.
-- A section that is there is 0 from itself; nothing leads from or to one that is not; nothing to a closed one, but from itself.
pub record TableSays (r : Railway) (heading : Side) (g : List (List ℕ)) : Type 0 where
  pub square : Square g
  pub reached : (x y : ℕ) → x < most_sections → y < most_sections → (entry_at g x y ≡ no_run → ⊥) → Run r heading x y (entry_at g x y)
  pub least : (x y n : ℕ) → x < most_sections → y < most_sections → Run r heading x y n → entry_at g x y ≤ n
  pub none-exactly : (x y : ℕ) → x < most_sections → y < most_sections → (entry_at g x y ≡ no_run) ↔ ((n : ℕ) → ¬ (Run r heading x y n))
  pub itself : (x : ℕ) → x < r.sections → entry_at g x x ≡ 0
  pub from-nowhere : (x y : ℕ) → x < most_sections → y < most_sections → r.sections ≤ x → entry_at g x y ≡ no_run
  pub to-nowhere : (x y : ℕ) → x < most_sections → y < most_sections → r.sections ≤ y → entry_at g x y ≡ no_run
  pub to-closed : (x y : ℕ) → x < most_sections → y < most_sections → is_closed r y ≡ true → (x ≡ y → ⊥) → entry_at g x y ≡ no_run

-- RUNS AND THE SOLVER, which was lent tables that are long enough: a figure is not below the sum of the runs, and where a train has none the verdict is none.
pub record Bounded (r : Railway) (up down : List (List ℕ)) (a : SolverAnswer) : Type 0 where
  pub figure : (n : ℕ) → figure_given a ≡ some n → runs_sum r up down ≤ n
  pub verdict : (t : ℕ) → t < r.trains → train_run r up down t ≡ no_run → a ≡ Unsolvable

-- Q-3, of an accepted record and the tables of both headings: what each says; that signals and trains play no part in it, for any record of the same track has the same runs; of whole plays,
-- that no figure of the start is below the sum of the runs, and that there is none where a train has no run; and the same of what a solver answers.
pub record RunsSay (r : Railway) (up down : List (List ℕ)) : Type 0 where
  pub up-says : TableSays r Up up
  pub down-says : TableSays r Down down
  pub disregards : (s : Railway) → SameTrack r s → SameRuns r s
  pub at_least : (n : ℕ) → IsFigure (game_of r) (start_code r) (some n) → runs_sum r up down ≤ n
  pub without : (t : ℕ) → t < r.trains → train_run r up down t ≡ no_run → IsFigure (game_of r) (start_code r) none
  pub solver : (a : SolverAnswer) (figs sets figs' sets' : List ℕ) → placements r ≤ length figs → placements r ≤ length sets → SolverPost r a figs sets figs' sets' → Bounded r up down a

-- So it is of any two answers of the call, one for each heading, whatever tables it was handed.
abbrev pub RunsHold : Type 0
RunsHold =
    (r : Railway) → record_refusal r ≡ none → (old₁ old₂ : List (List ℕ)) (up down : RunReply)
    → RunPost r Up old₁ up → RunPost r Down old₂ down → RunsSay r (table_in up) (table_in down)
