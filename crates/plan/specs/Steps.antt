-- The calls of Emitter and Checker one test after the other, as code makes them. Nothing of document 01 rests on this file: contracts of inner
-- functions cite it, and the laws in proofs/Steps say that these are the calls that the rows define. Assumes nothing.
use Rattle.std.specs.Prelude.{◌≡◌, cond, List, ◌++◌, ℕ, ◌+◌, ◌≤◌, length, take, drop, ltb}
use Rattle.std.proofs.Math.Option.{Option, none, some}
use Rattle.railway.specs.declared.Railway.{Railway}
use Rattle.railway.specs.declared.Refusal.{Refusal}
use Rattle.railway.specs.declared.Refusal.TheVariants.{Space, PlanForm, PlanFault}
use Rattle.game.specs.Placement.{start_code}
use Rattle.game_tables.specs.Tables.{figure_in, case_refusal}
use Rattle.plan.specs.declared.PlanPlace.{PlanPlace}
use Rattle.plan.specs.Emitted.{Line, End, NoPlan, Refused}
use Rattle.plan.specs.declared.CheckerState.{CheckerState}
use Rattle.plan.specs.declared.CheckerState.TheVariants.{Fresh, Begun}
use Rattle.plan.specs.LineAnswer.{LineAnswer, Taken, Refused as LineRefused}
use Rattle.plan.specs.TestAnswer.{TestAnswer, Pass, Refused as TestRefused}
use Rattle.plan.specs.Lines.{PlanLine, start_line, placement_line, line_code}
use Rattle.plan.specs.Test.{by_tables}
use Rattle.plan.specs.Reading.{read_line}
use Rattle.plan.specs.Computed.{test_holds}
use Rattle.plan.specs.Emitter.{Wrote, leaves, Due, due}
use Rattle.plan.specs.Checker.{Checking, Left, left, begin, enter}
use Rattle.plan.specs.Several.{Run, run_behind, run_from}

-- THE EMITTER. A line into the buffer, if it has room.
abbrev pub line_written : List ℕ → PlanPlace → List ℕ → Wrote
line_written l next buffer =
    cond (ltb (length buffer) (length l))
    (leaves (Refused Space) buffer)
    (record { answer = Line (length l) next; buffer = l ++ drop (length l) buffer })

-- The line that is due, or the end.
abbrev pub due_written : List ℕ → Option Due → Wrote
due_written buffer none = leaves End buffer
due_written buffer (some d) = line_written d.text d.next buffer

-- The rows of the case, then the start's figure, then the line.
abbrev pub emitted : Railway → List ℕ → List ℕ → PlanPlace → List ℕ → Option Refusal → Option ℕ → Wrote
emitted r figs sets place buffer (some f) start = leaves (Refused f) buffer
emitted r figs sets place buffer none none = leaves NoPlan buffer
emitted r figs sets place buffer none (some n) = due_written buffer (due r figs sets place)

-- SEVERAL LINES. A line into the buffer at a cursor, if it has room there: the buffer and the cursor behind it.
pub record PutAt : Type 0 where
  pub buffer : List ℕ
  pub at : ℕ

-- What is put there: the line, if it has room, and the cursor behind it; else nothing, and the cursor as it was.
abbrev pub put_at : List ℕ → List ℕ → ℕ → PutAt
put_at l buffer at =
    cond (ltb (length buffer) (at + length l))
    (record { buffer = buffer; at = at })
    (record { buffer = take at buffer ++ l ++ drop (at + length l) buffer; at = at + length l })

-- A buffer and a cursor.
abbrev pub put_so : List ℕ → ℕ → PutAt
put_so buffer at = record { buffer = buffer; at = at }

-- A case that is not refused, in which the start has a figure.
pub record Planned (r : Railway) (figs sets : List ℕ) : Type 0 where
  pub unrefused : case_refusal r figs sets ≡ none
  pub figure : ℕ
  pub start : figure_in figs (start_code r) ≡ some figure

-- Of a whole run the lines up to the cursor are written, and those from a place on are left.
pub record Underway (r : Railway) (figs sets : List ℕ) (whole : Run) (place : PlanPlace) (at : ℕ) (buffer : List ℕ) : Type 0 where
  pub most : ℕ
  pub enough : length buffer ≤ at + most
  pub inside : at ≤ length buffer
  pub same : run_behind at (take at buffer) (run_from r figs sets most place (drop at buffer)) ≡ whole

-- All of it is written.
abbrev pub ran_whole : Run → Wrote
ran_whole whole = record { answer = Line whole.bytes whole.next; buffer = whole.buffer }

-- THE CHECKER. A line that is refused.
abbrev pub refuse : Checking → Refusal → Left LineAnswer
refuse c f = left (LineRefused f) c

-- A line that was read, by the state.
abbrev pub takes : Railway → Checking → CheckerState → Option PlanLine → Left LineAnswer
takes r c state none = refuse c PlanForm
takes r c Fresh (some (start_line n)) = left Taken (begin c n)
takes r c Fresh (some (placement_line d)) = refuse c PlanForm
takes r c (Begun m from) (some (start_line n)) = refuse c PlanForm
takes r c (Begun m from) (some (placement_line d)) = cond (ltb (line_code r d) from) (refuse c PlanForm) (left Taken (enter r c m d))

-- The rows of the case, then the line.
abbrev pub takes_if : Railway → Checking → List ℕ → Option Refusal → Left LineAnswer
takes_if r c text (some f) = refuse c f
takes_if r c text none = takes r c c.state (read_line r text)

-- The rows of the case, then the state, then the test.
abbrev pub tests : Railway → Checking → Option Refusal → CheckerState → TestAnswer
tests r c (some f) state = TestRefused f
tests r c none Fresh = TestRefused PlanForm
tests r c none (Begun m from) = cond (test_holds r m (by_tables c.figs c.sets)) Pass (TestRefused PlanFault)
