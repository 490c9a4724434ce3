-- The number that a call gives is that of the first of its rows that applies: by that row it is refused. Assumes nothing.
use mathlib.Core.Path.{◌≡◌, refl}
use mathlib.Core.List.{List}
use mathlib.Core.Option.{Option, none, some}
use Prim.Native.Nat.{ℕ}
use Rattle.railway.specs.declared.Railway.{Railway}
use Rattle.railway.specs.declared.Refusal.{Refusal}
use Rattle.railway.specs.Refusals.{first, number_of}
use Rattle.game.specs.Placement.{start_code}
use Rattle.game_tables.specs.Tables.{figure_in}
use Rattle.plan.specs.declared.PlanPlace.{PlanPlace}
use Rattle.plan.specs.Emitter.{number_given, Due, due, emitter_leaves, emitter_rows, emit_line}
use Rattle.plan.specs.Reading.{read_line}
use Rattle.plan.specs.Checker.{line_number, test_number, Checking, line_entered, line_leaves, line_rows, take_line, test_answer, test_rows, test_plan}

emitter-number : (buffer : List ℕ) (d : Option Due) (o : Option Refusal) (start : Option ℕ) → number_given (emitter_leaves buffer d o start).answer ≡ number_of o
emitter-number buffer d (some f) start = refl
emitter-number buffer d none none = refl
emitter-number buffer none none (some n) = refl
emitter-number buffer (some l) none (some n) = refl

pub emit-numbered : (r : Railway) (figs sets : List ℕ) (place : PlanPlace) (buffer : List ℕ)
    → number_given (emit_line r figs sets place buffer).answer ≡ number_of (first (emitter_rows r figs sets place buffer))
unfolding emit_line
emit-numbered r figs sets place buffer = emitter-number buffer (due r figs sets place) (first (emitter_rows r figs sets place buffer)) (figure_in figs (start_code r))

line-number : (c after : Checking) (o : Option Refusal) → line_number (line_leaves c after o).answer ≡ number_of o
line-number c after (some f) = refl
line-number c after none = refl

pub line-numbered : (r : Railway) (c : Checking) (text : List ℕ) → line_number (take_line r c text).answer ≡ number_of (first (line_rows r c text))
unfolding take_line
line-numbered r c text = line-number c (line_entered r c c.state (read_line r text)) (first (line_rows r c text))

test-number : (o : Option Refusal) → test_number (test_answer o) ≡ number_of o
test-number (some f) = refl
test-number none = refl

pub test-numbered : (r : Railway) (c : Checking) → test_number (test_plan r c).answer ≡ number_of (first (test_rows r c))
unfolding test_plan
test-numbered r c = test-number (first (test_rows r c))
