-- The emitter: a line of the plan a call, from two tables into a lent text buffer (document 01, "The two tables and the plan": plan text; the numbers
-- that judge a record, then 9, and what stands under their table). Each call is total: any record, tables, place and buffer. Assumes nothing.
use Rattle.std.specs.Prelude.{Bool, false, ◌&&◌, ◌||◌, List, [], ◌∷◌, ◌++◌, ℕ, suc, length, get_or, drop, ltb, leb}
use Rattle.std.proofs.Math.Option.{Option, none, some}
use Rattle.laws.specs.Below.{lowest}
use Rattle.railway.specs.declared.Railway.{Railway}
use Rattle.railway.specs.declared.Refusal.{Refusal}
use Rattle.railway.specs.declared.Refusal.TheVariants.{Space}
use Rattle.railway.specs.Refusals.{number, Row, row, first}
use Rattle.railway.specs.Rows.{record_rows}
use Rattle.game.specs.Placement.{placements, start_code}
use Rattle.game_tables.specs.Tables.{no_figure, figure_in, tables_short}
use Rattle.plan.specs.declared.PlanPlace.{PlanPlace}
use Rattle.plan.specs.declared.PlanPlace.TheVariants.{Top, From}
use Rattle.plan.specs.Emitted.{Emitted, Line, End, NoPlan, Refused}
use Rattle.plan.specs.Lines.{start_line, placement_line, spell}
use Rattle.plan.specs.Text.{is_some, has_figure, line_for}

-- THE ANSWERS. The number that an answer gives, if it refuses.
abbrev pub number_given : Emitted → Option ℕ
number_given (Line n next) = none
number_given End = none
number_given NoPlan = none
number_given (Refused f) = some (number f)

-- The bytes of the line that was written, if one was.
abbrev pub line_given : Emitted → Option ℕ
line_given (Line n next) = some n
line_given End = none
line_given NoPlan = none
line_given (Refused f) = none

-- A line was written.
abbrev pub is_line : Emitted → Bool
is_line a = is_some (line_given a)

-- What a call leaves: its answer, and the lent text buffer.
pub record Wrote : Type 0 where
  pub answer : Emitted
  pub buffer : List ℕ

-- An answer, with the lent buffer beside it: every answer but a line leaves it as it was.
abbrev pub leaves : Emitted → List ℕ → Wrote
leaves a buffer = record { answer = a; buffer = buffer }

-- A code from c on whose placement has a figure.
abbrev pub figure_from : List ℕ → ℕ → ℕ → Bool
figure_from figs c p = leb c p && has_figure figs p

-- The lowest such code.
abbrev pub next_code : Railway → List ℕ → ℕ → Option ℕ
next_code r figs c = lowest (figure_from figs c) (placements r)

-- A line that is due, and the place behind it.
pub record Due : Type 0 where
  pub text : List ℕ
  pub next : PlanPlace

-- The line for a placement; none where there is no further one.
abbrev pub due_for : Railway → List ℕ → List ℕ → Option ℕ → Option Due
due_for r figs sets none = none
due_for r figs sets (some p) = some (record { text = spell (placement_line (line_for r figs sets p)); next = From (suc p) })

-- What is due at a place: the first line; else that of the next placement with a figure.
abbrev pub due : Railway → List ℕ → List ℕ → PlanPlace → Option Due
due r figs sets Top = some (record { text = spell (start_line (get_or figs (start_code r) no_figure)); next = From 0 })
due r figs sets (From c) = due_for r figs sets (next_code r figs c)

-- THE ROWS of a call. A line is due that is longer than the buffer.
abbrev pub due_too_long : List ℕ → Option Due → Bool
due_too_long buffer none = false
due_too_long buffer (some d) = ltb (length buffer) (length d.text)

-- 9, space, for the text buffer: there is a plan, and the line that is due is longer than the buffer.
abbrev pub buffer_short : Railway → List ℕ → List ℕ → PlanPlace → List ℕ → Bool
buffer_short r figs sets place buffer = has_figure figs (start_code r) && due_too_long buffer (due r figs sets place)

-- The rows of the record, then 9 for the tables and the buffer.
abbrev pub emitter_rows : Railway → List ℕ → List ℕ → PlanPlace → List ℕ → List Row
emitter_rows r figs sets place buffer = record_rows r ++ (row Space (tables_short r figs sets || buffer_short r figs sets place buffer) ∷ [])

-- THE CALL. The line that is due goes to the front of the buffer, and what stands behind it stays; the end where none is due.
abbrev pub line_or_end : List ℕ → Option Due → Wrote
line_or_end buffer none = leaves End buffer
line_or_end buffer (some d) = record { answer = Line (length d.text) d.next; buffer = d.text ++ drop (length d.text) buffer }

-- By the refusal and the start's figure: without one there is no plan.
abbrev pub emitter_leaves : List ℕ → Option Due → Option Refusal → Option ℕ → Wrote
emitter_leaves buffer d (some f) start = leaves (Refused f) buffer
emitter_leaves buffer d none none = leaves NoPlan buffer
emitter_leaves buffer d none (some n) = line_or_end buffer d

-- All of it, for any record, tables, place and buffer: refused by the first row that applies.
unfoldable pub emit_line : Railway → List ℕ → List ℕ → PlanPlace → List ℕ → Wrote
emit_line r figs sets place buffer = emitter_leaves buffer (due r figs sets place) (first (emitter_rows r figs sets place buffer)) (figure_in figs (start_code r))
