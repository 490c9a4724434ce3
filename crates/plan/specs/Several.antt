-- Several lines a call, of the emitter and of the checker: what so many calls for one line each give, the case judged once (document 01, "The two
-- tables and the plan": plan text, the checker). Each call is total: any record, tables, place, state, buffer and text. Assumes nothing.
use Rattle.std.specs.Prelude.{◌≡◌, cond, List, [], ◌∷◌, ◌++◌, ℕ, zero, suc, ◌+◌, ◌≤◌, length, take, drop, eqb}
use Rattle.std.proofs.Math.Option.{Option, none, some}
use Rattle.laws.specs.Lists.{on_first}
use Rattle.text.specs.Text.{line_end}
use Rattle.railway.specs.declared.Railway.{Railway}
use Rattle.railway.specs.declared.Refusal.{Refusal}
use Rattle.railway.specs.Refusals.{number, first, number_of}
use Rattle.game.specs.Placement.{start_code}
use Rattle.game_tables.specs.Tables.{figure_in, case_refusal}
use Rattle.plan.specs.declared.PlanPlace.{PlanPlace}
use Rattle.plan.specs.declared.PlanPlace.TheVariants.{Top}
use Rattle.plan.specs.Emitted.{Emitted, Line, End, NoPlan, Refused}
use Rattle.plan.specs.LineAnswer.{LineAnswer, Taken, Refused as LineRefused}
use Rattle.plan.specs.FrontAnswer.{FrontAnswer, Took, Refused as FrontRefused}
use Rattle.plan.specs.Text.{plan_text}
use Rattle.plan.specs.Emitter.{number_given, line_given, Wrote, leaves, emitter_rows, emit_line}
use Rattle.plan.specs.Checker.{Checking, Left, left, take_line}

-- THE EMITTER. Lines written one behind the other: how many bytes, the place behind them, and the buffer that they leave.
pub record Run : Type 0 where
  pub bytes : ℕ
  pub next : PlanPlace
  pub buffer : List ℕ

-- None.
abbrev pub no_run : PlanPlace → List ℕ → Run
no_run place buffer = record { bytes = 0; next = place; buffer = buffer }

-- So many bytes, and what is written behind them.
abbrev pub run_behind : ℕ → List ℕ → Run → Run
run_behind n front run = record { bytes = n + run.bytes; next = run.next; buffer = front ++ run.buffer }

-- A call that left `new` of the buffer, by its answer: behind a line the next call is lent what is behind it; any other answer ends the lines.
abbrev pub run_by : PlanPlace → List ℕ → List ℕ → (PlanPlace → List ℕ → Run) → Emitted → Run
run_by place buffer new more (Line n next) = run_behind n (take n new) (more next (drop n new))
run_by place buffer new more End = no_run place buffer
run_by place buffer new more NoPlan = no_run place buffer
run_by place buffer new more (Refused f) = no_run place buffer

-- Calls for a line each, so many at most.
unfoldable pub run_from : Railway → List ℕ → List ℕ → ℕ → PlanPlace → List ℕ → Run
run_from r figs sets zero place buffer = no_run place buffer
run_from r figs sets (suc most) place buffer =
    run_by place buffer (emit_line r figs sets place buffer).buffer (run_from r figs sets most) (emit_line r figs sets place buffer).answer

-- What they write, by what the first of them answers.
abbrev pub run_wrote : List ℕ → Run → Emitted → Wrote
run_wrote buffer run (Line n next) = record { answer = Line run.bytes run.next; buffer = run.buffer }
run_wrote buffer run End = leaves End buffer
run_wrote buffer run NoPlan = leaves NoPlan buffer
run_wrote buffer run (Refused f) = leaves (Refused f) buffer

-- A CALL for as many lines as have room. (No line is without a byte, so that a buffer has no room for more lines than it has bytes.)
unfoldable pub emit_lines : Railway → List ℕ → List ℕ → PlanPlace → List ℕ → Wrote
emit_lines r figs sets place buffer = run_wrote buffer (run_from r figs sets (length buffer) place buffer) (emit_line r figs sets place buffer).answer

-- What it promises. Its rows are those of the call for one line.
pub record EmitLinesPost (r : Railway) (figs sets : List ℕ) (place : PlanPlace) (old : List ℕ) (a : Emitted) (new : List ℕ) : Type 0 where
  pub answer : a ≡ (emit_lines r figs sets place old).answer
  pub numbered : number_given a ≡ number_of (first (emitter_rows r figs sets place old))
  pub buffer : new ≡ (emit_lines r figs sets place old).buffer

-- The whole plan, where there is room for it: its text stands in front, and what is behind it stays.
pub record WroteWhole (r : Railway) (figs sets buffer : List ℕ) (w : Wrote) : Type 0 where
  pub bytes : line_given w.answer ≡ some (length (plan_text r figs sets))
  pub text : w.buffer ≡ plan_text r figs sets ++ drop (length (plan_text r figs sets)) buffer

-- In a case that is not refused, in which the start has a figure, one call from the top writes it.
abbrev pub EmitsWhole : Type 0
EmitsWhole =
    (r : Railway) (figs sets : List ℕ) → case_refusal r figs sets ≡ none → (n : ℕ) → figure_in figs (start_code r) ≡ some n
    → (buffer : List ℕ) → length (plan_text r figs sets) ≤ length buffer → WroteWhole r figs sets buffer (emit_lines r figs sets Top buffer)

-- THE CHECKER. The lines of a text, each with its line end; bytes behind the last line end are a line as they stand.
unfoldable pub lines_of : List ℕ → List (List ℕ)
lines_of [] = []
lines_of (b ∷ bs) = cond (eqb b line_end) ((b ∷ []) ∷ lines_of bs) (on_first b (lines_of bs))

-- Lines taken one behind the other: how many bytes, and state and tables that they leave.
pub record Front : Type 0 where
  pub bytes : ℕ
  pub checking : Checking

-- None.
abbrev pub no_front : Checking → Front
no_front c = record { bytes = 0; checking = c }

-- So many bytes, and what is taken behind them.
abbrev pub front_behind : ℕ → Front → Front
front_behind n front = record { bytes = n + front.bytes; checking = front.checking }

-- A line of n bytes that was handed in with c, by its answer: the lines behind one that is taken follow; a refused one ends them.
abbrev pub front_by : ℕ → Checking → Checking → (Checking → Front) → LineAnswer → Front
front_by n c after more Taken = front_behind n (more after)
front_by n c after more (LineRefused f) = no_front c

-- Calls for a line each, up to the first that is refused.
unfoldable pub front_of : Railway → List (List ℕ) → Checking → Front
front_of r [] c = no_front c
front_of r (l ∷ ls) c = front_by (length l) c (take_line r c l).checking (front_of r ls) (take_line r c l).answer

-- The number that an answer gives, if it refuses.
abbrev pub front_number : FrontAnswer → Option ℕ
front_number (Took n) = none
front_number (FrontRefused f) = some (number f)

-- By the refusal of the case.
abbrev pub front_leaves : Checking → Front → Option Refusal → Left FrontAnswer
front_leaves c front (some f) = left (FrontRefused f) c
front_leaves c front none = left (Took front.bytes) front.checking

-- A CALL for the lines in front of a text: those before the first that is refused. The rows of the case refuse the call; no line does.
unfoldable pub take_front : Railway → Checking → List ℕ → Left FrontAnswer
take_front r c text = front_leaves c (front_of r (lines_of text) c) (case_refusal r c.figs c.sets)

-- What it promises.
pub record FrontPost (r : Railway) (old : Checking) (text : List ℕ) (a : FrontAnswer) (new : Checking) : Type 0 where
  pub answer : a ≡ (take_front r old text).answer
  pub numbered : front_number a ≡ number_of (case_refusal r old.figs old.sets)
  pub checking : new ≡ (take_front r old text).checking
