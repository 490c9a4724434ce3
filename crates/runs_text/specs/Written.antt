-- What program `showruns` writes for a case text, refused or not (document 02, Q-3, for planners who have not searched yet; the form is the program's own). Assumes nothing.
use Rattle.std.specs.Prelude.{◌≡◌, Bool, cond, List, [], ◌∷◌, ◌++◌, ℕ, suc, ◌≤◌, ◌<◌, eqb, take, get_or}
use Rattle.std.proofs.Math.Option.{none, some}
use Rattle.laws.specs.Below.{any_below, sum_below, gather_below}
use Rattle.text.specs.Text.{decimal, line, bytes}
use Rattle.railway.specs.declared.Side.TheVariants.{Up, Down}
use Rattle.railway.specs.declared.Railway.{Railway}
use Rattle.railway.specs.Record.{train_of}
use Rattle.case_file.specs.Rows.{most_bytes}
use Rattle.case_file.specs.Given.{AcceptedWith}
use Rattle.case_reader.specs.Answers.{ByCase}
use Rattle.game.specs.Game.{IsFigure}
use Rattle.game.specs.Placement.{start_code}
use Rattle.game.specs.Moves.{game_of}
use Rattle.plan.specs.Test.{Listing, Test}
use Rattle.answer_lines.specs.Lines.{refusal_line, none_line}
use Rattle.runs.specs.Runs.{no_run, IsRun, RunTable, train_run}

-- An entry says that there is no run.
abbrev pub is_none : ℕ → Bool
is_none v = eqb v no_run

-- A run as it is written: how many sections are entered, or `none`.
abbrev pub run_field : ℕ → List ℕ
run_field v = cond (is_none v) (bytes "none") (decimal v)

-- The line of train t, with its number in the case file, and its run.
abbrev pub run_line : ℕ → ℕ → List ℕ
run_line t v = line (bytes "run" ∷ decimal (suc t) ∷ run_field v ∷ [])

-- The last line, for k trains with these runs: their sum, which is what any plan takes at least; `none` where a train has no run, for then there is no plan.
abbrev pub last_line : (ℕ → ℕ) → ℕ → List ℕ
last_line f k = cond (any_below (λ t. is_none (f t)) k) none_line (line (bytes "least" ∷ decimal (sum_below f k) ∷ []))

-- All lines, those of the trains rising.
abbrev pub runs_text : (ℕ → ℕ) → ℕ → List ℕ
runs_text f k = gather_below (λ t. run_line t (f t)) k ++ last_line f k

-- A RAILWAY: the text of its trains' runs, by the tables of both headings.
pub record RailwayRuns (r : Railway) (text : List ℕ) : Type 0 where
  pub up : List (List ℕ)
  pub down : List (List ℕ)
  pub is_up : RunTable r Up up
  pub is_down : RunTable r Down down
  pub written : text ≡ runs_text (train_run r up down) r.trains

-- A CASE TEXT: the line of the reader's refusal, or the text of its railway.
abbrev pub CaseRuns : List ℕ → List ℕ → Type 0
CaseRuns case text = ByCase case (λ f. text ≡ refusal_line f) (λ r. RailwayRuns r text)

-- WHAT IS SHOWN OF A RAILWAY, by a text for it. There is a number for each train, its run from its start to its
-- destination, and these are what is written. Their sum is what any plan takes at least: the start's figure is not
-- below it, nor is the figure in the first line of any plan that passes the test. Where a train has no run the start
-- has no figure, and no plan passes.
pub record ShownRuns (r : Railway) (text : List ℕ) : Type 0 where
  pub run : ℕ → ℕ
  pub each : (t : ℕ) → t < r.trains → IsRun r (train_of r t).heading (train_of r t).start.0 (train_of r t).destination.0 (run t)
  pub written : text ≡ runs_text run r.trains
  pub figure : (n : ℕ) → IsFigure (game_of r) (start_code r) (some n) → sum_below run r.trains ≤ n
  pub plan : (n : ℕ) (L : Listing) → Test r n L → sum_below run r.trains ≤ n
  pub no-figure : (t : ℕ) → t < r.trains → run t ≡ no_run → IsFigure (game_of r) (start_code r) none
  pub no-plan : (t : ℕ) → t < r.trains → run t ≡ no_run → (n : ℕ) (L : Listing) → ¬ (Test r n L)

-- So it is of every text that is written for a case.
abbrev pub ShowsRuns : Type 0
ShowsRuns = (case text : List ℕ) (r : Railway) → AcceptedWith case r → CaseRuns case text → ShownRuns r text

-- No such text has more bytes.
abbrev pub text_bytes : ℕ
text_bytes = 128

-- One byte more than a case text may have: what is written for so many bytes of a text is written for the text, whatever follows them.
abbrev pub CutShows : Type 0
CutShows = (case text : List ℕ) (n : ℕ) → most_bytes < n → CaseRuns (take n case) text → CaseRuns case text

-- ON THE WAY. These are the runs of the trains, by some tables of both headings.
pub record TrainsRun (r : Railway) (runs : List ℕ) : Type 0 where
  pub up : List (List ℕ)
  pub down : List (List ℕ)
  pub is_up : RunTable r Up up
  pub is_down : RunTable r Down down
  pub each : (t : ℕ) → t < r.trains → get_or runs t 0 ≡ train_run r up down t
