-- The calls one test after the other (specs/Steps) are the calls that the rows define. The rows of the case come first in both; where none of them
-- applies, each step refuses where its row does. The other proofs go by these laws. Assumes nothing.
use mathlib.Core.Path.{◌≡◌, refl, sym, ◌∙◌, ap}
use mathlib.Core.Logic.{inl, inr}
use mathlib.Core.Bool.{Bool, true, false, ◌&&◌, ◌||◌}
use mathlib.Core.List.{List, [], ◌∷◌}
use mathlib.Core.Option.{Option, none, some}
use Prim.Native.Nat.{ℕ}
use lib.ListN.{length}
use lib.Dec.{ltb}
use Rattle.laws.specs.Below.{or_else}
use Rattle.laws.proofs.Bools.{bool?}
use Rattle.railway.specs.declared.Railway.{Railway}
use Rattle.railway.specs.declared.Refusal.{Refusal}
use Rattle.railway.specs.declared.Refusal.TheVariants.{Space, PlanForm, PlanFault}
use Rattle.railway.specs.Refusals.{row, refuse_if, first}
use Rattle.railway.specs.Rows.{record_rows, record_refusal}
use Rattle.railway.proofs.Refusals.{first-append}
use Rattle.game.specs.Placement.{start_code}
use Rattle.game_tables.specs.Tables.{figure_in, tables_short, case_refusal}
use Rattle.game_tables.proofs.Refusals.{case-rows, case-then}
use Rattle.plan.specs.declared.PlanPlace.{PlanPlace}
use Rattle.plan.specs.declared.CheckerState.{CheckerState}
use Rattle.plan.specs.declared.CheckerState.TheVariants.{Fresh, Begun}
use Rattle.plan.specs.LineAnswer.{LineAnswer}
use Rattle.plan.specs.Lines.{PlanLine, start_line, placement_line, line_code}
use Rattle.plan.specs.Text.{is_some}
use Rattle.plan.specs.Emitter.{Wrote, Due, due, due_too_long, buffer_short, emitter_rows, emitter_leaves, emit_line}
use Rattle.plan.specs.Reading.{read_line}
use Rattle.plan.specs.Computed.{test_holds}
use Rattle.plan.specs.Test.{by_tables}
use Rattle.plan.specs.Checker.{Checking, Left, out_of_form, line_entered, line_leaves, take_line, nothing_taken, plan_fails, test_answer, test_plan}
use Rattle.plan.specs.Steps.{due_written, emitted, takes, takes_if, tests}

-- THE EMITTER. A line that is due, by its length.
due-steps : (buffer : List ℕ) (d : Option Due) (n : ℕ) → emitter_leaves buffer d (refuse_if (due_too_long buffer d) Space none) (some n) ≡ due_written buffer d
due-steps buffer none n = refl
due-steps buffer (some d) n = elim (bool? (ltb (length buffer) (length d.text))) [ inl e ↦ rw e refl | inr e ↦ rw e refl ]

module _ (r : Railway) (figs sets : List ℕ) (place : PlanPlace) (buffer : List ℕ) where
  abbrev rows_leave : Option Refusal → Option ℕ → Wrote
  rows_leave = emitter_leaves buffer (due r figs sets place)

  start-steps : (start : Option ℕ)
      → rows_leave (refuse_if (is_some start && due_too_long buffer (due r figs sets place)) Space none) start ≡ emitted r figs sets place buffer none start
  start-steps none = refl
  start-steps (some n) = due-steps buffer (due r figs sets place) n

  -- the rows of the record, then row 9 for the tables, then for the buffer
  case-steps : (o : Option Refusal) (short long : Bool) (start : Option ℕ)
      → rows_leave (refuse_if long Space none) start ≡ emitted r figs sets place buffer none start
      → rows_leave (or_else o (refuse_if (short || long) Space none)) start ≡ emitted r figs sets place buffer (or_else o (refuse_if short Space none)) start
  case-steps (some f) short long start e = refl
  case-steps none true long start e = refl
  case-steps none false long start e = e

  rows_apart : first (emitter_rows r figs sets place buffer) ≡ or_else (record_refusal r) (refuse_if (tables_short r figs sets || buffer_short r figs sets place buffer) Space none)
  unfolding record_refusal first
  rows_apart = first-append (record_rows r) (row Space (tables_short r figs sets || buffer_short r figs sets place buffer) ∷ [])

  pub emit-steps : {o : Option Refusal} {start : Option ℕ} → case_refusal r figs sets ≡ o → figure_in figs (start_code r) ≡ start
      → emit_line r figs sets place buffer ≡ emitted r figs sets place buffer o start
  unfolding emit_line
  emit-steps {o} e s =
      let begins : Option ℕ = figure_in figs (start_code r) in
      ap (λ (o : Option Refusal). rows_leave o begins) rows_apart
      ∙ case-steps (record_refusal r) (tables_short r figs sets) (buffer_short r figs sets place buffer) begins (start-steps begins)
      ∙ ap (λ (o : Option Refusal). emitted r figs sets place buffer o begins) (sym (case-rows r figs sets) ∙ e)
      ∙ ap (emitted r figs sets place buffer o) s

-- THE CHECKER, for a line
module _ (r : Railway) (c : Checking) where
  read-steps : (state : CheckerState) (l : Option PlanLine) → line_leaves c (line_entered r c state l) (refuse_if (out_of_form r state l) PlanForm none) ≡ takes r c state l
  read-steps state none = refl
  read-steps Fresh (some (start_line n)) = refl
  read-steps Fresh (some (placement_line d)) = refl
  read-steps (Begun m from) (some (start_line n)) = refl
  read-steps (Begun m from) (some (placement_line d)) = elim (bool? (ltb (line_code r d) from)) [ inl e ↦ rw e refl | inr e ↦ rw e refl ]

  module _ (text : List ℕ) where
    abbrev line_by : Option Refusal → Left LineAnswer
    line_by = line_leaves c (line_entered r c c.state (read_line r text))

    taken-steps : (o : Option Refusal) → line_by (or_else o (refuse_if (out_of_form r c.state (read_line r text)) PlanForm none)) ≡ takes_if r c text o
    taken-steps (some f) = refl
    taken-steps none = read-steps c.state (read_line r text)

    pub line-steps : {o : Option Refusal} → case_refusal r c.figs c.sets ≡ o → take_line r c text ≡ takes_if r c text o
    unfolding take_line first
    line-steps e =
        ap line_by (case-then r c.figs c.sets (row PlanForm (out_of_form r c.state (read_line r text)) ∷ []))
        ∙ taken-steps (case_refusal r c.figs c.sets) ∙ ap (takes_if r c text) e

  -- for the test
  answer-steps : (o : Option Refusal) (state : CheckerState)
      → test_answer (or_else o (refuse_if (nothing_taken state) PlanForm (refuse_if (plan_fails r c state) PlanFault none))) ≡ tests r c o state
  answer-steps (some f) state = refl
  answer-steps none Fresh = refl
  answer-steps none (Begun m from) = elim (bool? (test_holds r m (by_tables c.figs c.sets))) [ inl e ↦ rw e refl | inr e ↦ rw e refl ]

  pub test-steps : {o : Option Refusal} → case_refusal r c.figs c.sets ≡ o → (test_plan r c).answer ≡ tests r c o c.state
  unfolding test_plan first
  test-steps e =
      ap test_answer (case-then r c.figs c.sets (row PlanForm (nothing_taken c.state) ∷ row PlanFault (plan_fails r c c.state) ∷ []))
      ∙ answer-steps (case_refusal r c.figs c.sets) c.state ∙ ap (λ (o : Option Refusal). tests r c o c.state) e
