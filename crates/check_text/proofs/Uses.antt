-- What is claimed of a check, drawn upon for Yard A: its plan's text passes, whole and in pieces; a text that lacks its last line end is out of form;
-- its first line alone fails; a record without sections is refused whatever the text, and Yard A never with 9; what `plancheck` writes for these, byte
-- for byte; and how many bytes decide. Assumes nothing.
use mathlib.Core.Path.{◌≡◌, refl, ◌∙◌, ap}
use mathlib.Core.Bool.{Bool, true, false}
use mathlib.Core.List.{List, [], ◌∷◌, ◌++◌}
use mathlib.Core.Option.{Option, none, some}
use Prim.Native.Nat.{ℕ, ◌≤◌}
use native.Mathlib.Omega.{arith}
use lib.ListN.{length, drop, take, length-replicate}
use Rattle.laws.specs.Below.{all_below, sum_below, which_below, list_below}
use Rattle.laws.specs.Lists.{any, all, rises}
use Rattle.laws.proofs.Bools.{clash, not-true, some-none}
use Rattle.text.specs.Text.{digits, line, bytes}
use Rattle.railway.specs.declared.Railway.{Railway}
use Rattle.railway.specs.CaseAnswer.{CaseAnswer}
use Rattle.railway.specs.declared.Refusal.TheVariants.{Form, Count, Space, PlanForm, PlanFault}
use Rattle.railway.specs.Refusals.{first, number}
use Rattle.railway.specs.Ends.{end_at}
use Rattle.railway.specs.Record.{empty_railway, joined_by, joined, has_signal, legs_of, train_of, with_join, with_signal, with_legs, with_train}
use Rattle.railway.specs.Yards.{yard_a}
use Rattle.case_file.specs.Given.{RefusedWith}
use Rattle.case_file.specs.Reading.{counted, while, header_at, walk, read, case_answer}
use Rattle.case_file.specs.YardTexts.{yard_texts}
use Rattle.case_file.proofs.Given.{reader-answers}
use Rattle.case_file.proofs.YardTexts.{yards-accepted}
use Rattle.text.specs.Reading.{is_digit, byte_at, digits_at, number_at, fields, value_of, same_text}
use Rattle.game.specs.Placement.{code_of, sections_in, placements, start_code}
use Rattle.game_tables.specs.Lengths.{entries}
use Rattle.game_tables.specs.Tables.{no_figure, figure_in, case_refusal}
use Rattle.game_tables.proofs.KnownYards.{figs_a, sets_a, yard_a-accepted, yard_a-filled}
use Rattle.plan.specs.TestAnswer.{TestAnswer, Pass, Refused}
use Rattle.plan.specs.LineAnswer.{LineAnswer, Refused as LineRefused}
use Rattle.plan.specs.Lines.{PlanLine, start_line, spell, fits}
use Rattle.plan.specs.Reading.{guess, read_line}
use Rattle.plan.specs.Checker.{Checking, Left, take_line, call_lines, is_taken}
use Rattle.plan.specs.Steps.{takes}
use Rattle.plan.specs.Promises.{FreshPost}
use Rattle.plan.specs.Text.{line_for, plan_lines, plan_texts}
use Rattle.plan.specs.Test.{line_on, by_lines}
use Rattle.plan.specs.Computed.{test_holds}
use Rattle.plan.specs.Checked.{Passing, Failing, InForm}
use Rattle.plan.specs.Several.{lines_of}
use Rattle.plan.proofs.Emitter.{none-refused}
use Rattle.plan.proofs.Text.{plan-passes}
use Rattle.plan.proofs.Steps.{line-steps}
use Rattle.plan.proofs.Test.{tested}
use Rattle.answer_lines.specs.Lines.{test_line}
use Rattle.check_text.specs.Verdict.{fresh, check_refusal, check_text, PlanPost, CheckOutput}
use Rattle.check_text.specs.Claims.{ByPlan}
use Rattle.check_text.specs.Pieces.{has_line_end, whole, EndPost, Coming, Decided}
use Rattle.check_text.proofs.Cut.{cut-decides}
use Rattle.check_text.proofs.Fronts.{spelled-ends, no_line}
use Rattle.check_text.proofs.Claims.{verdict-holds, case-holds}
use Rattle.check_text.proofs.Pieces.{pieces-decide, made_so}

abbrev plan_a : List ℕ
plan_a = bytes "plan\t2\n2\t1\t1\t1\t-\n3\t1\t0\t0\t-\n2\t3\t2\t0\t+\n"

room : placements yard_a ≤ entries
unfolding with_join with_signal with_legs with_train
room = omega arith

-- WHAT A TEXT IS ANSWERED, by its plan
by-plan : (text : List ℕ) (a : TestAnswer) → PlanPost yard_a text a → ByPlan yard_a (lines_of text) a
by-plan text a p = verdict-holds yard_a yard_a-accepted room text a p

start-figure : figure_in figs_a (start_code yard_a) ≡ some 2
unfolding start_code code_of sum_below list_below end_at joined_by joined has_signal legs_of train_of with_join with_signal with_legs with_train
start-figure = refl

passing : Passing yard_a (lines_of plan_a)
unfolding lines_of bytes plan_texts plan_lines line_for which_below list_below start_code code_of sum_below sections_in spell line
    digits end_at joined_by joined has_signal legs_of train_of with_join with_signal with_legs with_train
passing = plan-passes yard_a yard_a-accepted figs_a sets_a yard_a-filled 2 start-figure

pub passes : (a : TestAnswer) → PlanPost yard_a plan_a a → a ≡ Pass
passes a p = (by-plan plan_a a p).passes.1 passing

-- the last line end is missing
abbrev first_or : List (List ℕ) → List ℕ
first_or [] = []
first_or (l ∷ ls) = l

unformed : ¬ (InForm yard_a (lines_of (bytes "plan\t2")))
unfolding lines_of bytes any
unformed w =
    let e : has_line_end (bytes "plan\t2") ≡ has_line_end (spell (start_line w.start)) = ap (λ (ls : List (List ℕ)). has_line_end (first_or ls)) w.form.spelled in
    clash (e ∙ spelled-ends (start_line w.start)) refl

pub out-of-form : (a : TestAnswer) → PlanPost yard_a (bytes "plan\t2") a → a ≡ Refused PlanForm
out-of-form a p = (by-plan (bytes "plan\t2") a p).unformed.1 unformed

-- the first line alone
failing : Failing yard_a (lines_of (bytes "plan\t2\n"))
unfolding lines_of bytes spell line digits fits all rises test_holds line_on start_code code_of sum_below list_below all_below with_join with_signal with_legs with_train
failing =
    record { start = 2; lines = []; form = record { spelled = refl; fit = refl; rising = refl }; holds = λ t. clash ((tested yard_a (by_lines yard_a []) 2).1 t) refl }

pub fails : (a : TestAnswer) → PlanPost yard_a (bytes "plan\t2\n") a → a ≡ Refused PlanFault
fails a p = (by-plan (bytes "plan\t2\n") a p).faulty.1 failing

-- a record without sections, whatever the text
no-sections : check_refusal empty_railway ≡ some Count
unfolding case_refusal first
no-sections = refl

pub refused-record : (plan : List ℕ) (a : TestAnswer) → PlanPost empty_railway plan a → a ≡ Refused Count
refused-record plan a p = (case-holds empty_railway plan a p Count (λ e. absurd (omega (arith, ap number e))) (λ e. absurd (omega (arith, ap number e)))).1 no-sections

-- and no text is answered 9 in Yard A, for which the tables are long enough
unrefused : check_refusal yard_a ≡ none
unrefused =
    let n : placements yard_a ≤ length fresh.figs = rw (length-replicate {A = ℕ} entries no_figure) room in
    let m : placements yard_a ≤ length fresh.sets = rw (length-replicate {A = ℕ} entries 0) room in
    none-refused yard_a fresh.figs fresh.sets yard_a-accepted n m

not-nine : (plan : List ℕ) (a : TestAnswer) → PlanPost yard_a plan a → ¬ (a ≡ Refused Space)
not-nine plan a p e =
    some-none ((case-holds yard_a plan a p Space (λ q. absurd (omega (arith, ap number q))) (λ q. absurd (omega (arith, ap number q)))).0 e) unrefused

-- PIECE BY PIECE, from tables of the programs' length, whatever stood in them
module _ (figs sets : List ℕ) (made : CaseAnswer) (start : Checking) (e₁ : length figs ≡ entries) (e₂ : length sets ≡ entries) (p : FreshPost yard_a figs sets made start) where
  decided : (text : List ℕ) (at : ℕ) (c : Checking) (stopped : Bool) → Coming yard_a start text at c stopped → Decided yard_a start text at c stopped
  decided text at c stopped calls = pieces-decide yard_a figs sets made start e₁ e₂ p text at c stopped calls

  -- whatever the pieces of its plan are, it passes
  pub passes-in-pieces : (at : ℕ) (c : Checking) (stopped : Bool) → Coming yard_a start plan_a at c stopped → (a : TestAnswer) → EndPost yard_a c (drop at plan_a) a → a ≡ Pass
  passes-in-pieces at c stopped calls a q = passes a ((decided plan_a at c stopped calls).answer a q)

  fine : case_refusal yard_a start.figs start.sets ≡ none
  fine = (made_so yard_a figs sets made start e₁ e₂ p).same ∙ unrefused

  -- a line that is none stops the calls when it has come whole, and not before
  not-read : read_line yard_a (bytes "no line\n") ≡ none
  unfolding bytes read_line guess fields value_of same_text spell line digits fits all any with_join with_signal with_legs with_train
  not-read = refl

  refused-line : (take_line yard_a start (bytes "no line\n")).answer ≡ LineRefused PlanForm
  refused-line =
      ap (λ (x : Left LineAnswer). x.answer) (line-steps yard_a start (bytes "no line\n") fine)
      ∙ ap (λ (o : Option PlanLine). (takes yard_a start start.state o).answer) not-read ∙ no_line yard_a start start.state

  not-all : all is_taken (call_lines yard_a (whole (lines_of (bytes "no line\n"))) start).answers ≡ false
  unfolding bytes lines_of whole call_lines all any
  not-all = rw refused-line refl

  pub stops-at-once : (at : ℕ) (c : Checking) (stopped : Bool) → Coming yard_a start (bytes "no line\n") at c stopped → stopped ≡ true
  stops-at-once at c stopped calls = ((decided (bytes "no line\n") at c stopped calls).soon fine).1 not-all

  none_yet : all is_taken (call_lines yard_a (whole (lines_of (bytes "no line"))) start).answers ≡ true
  unfolding bytes lines_of whole call_lines all any
  none_yet = refl

  pub not-before : (at : ℕ) (c : Checking) (stopped : Bool) → Coming yard_a start (bytes "no line") at c stopped → stopped ≡ false
  not-before at c stopped calls = not-true stopped (λ e. clash none_yet (((decided (bytes "no line") at c stopped calls).soon fine).0 e))

  -- and then what follows is not looked at
  pub as_it_was : (at : ℕ) (c : Checking) (stopped : Bool) → Coming yard_a start (bytes "no line\n") at c stopped → (more : List ℕ)
      → check_text yard_a (bytes "no line\n" ++ more) ≡ check_text yard_a (bytes "no line\n")
  as_it_was at c stopped calls more = (decided (bytes "no line\n") at c stopped calls).final (stops-at-once at c stopped calls) more

-- WHAT `plancheck` WRITES
abbrev case_a : List ℕ
case_a = bytes "H\t3\t1\t2\nP\t1\td\nJ\t1u\t1+\nJ\t2u\t1-\nJ\t3d\t1s\nG\t1d\nG\t2u\nT\t1\tu\t2\t3\nT\t2\td\t3\t1\n"

pub writes-pass : (text : List ℕ) → CheckOutput case_a plan_a text → text ≡ bytes "pass\n"
unfolding yard_texts bytes line
writes-pass text o = o.written ∙ ap (λ (a : TestAnswer). test_line a) (passes o.answer (o.checked.accepted yard_a yards-accepted.0))

empty-case : RefusedWith [] Form
unfolding first is_digit byte_at digits_at number_at counted while header_at walk read case_answer
empty-case = (((reader-answers [] (case_answer [])).0 refl).numbered Form).0 refl

pub writes-form : (plan text : List ℕ) → CheckOutput [] plan text → text ≡ bytes "refused\t2\n"
unfolding bytes line digits
writes-form plan text o = o.written ∙ ap (λ (a : TestAnswer). test_line a) (o.checked.refused Form empty-case)

-- SO MANY BYTES DECIDE
pub decides : (r : Railway) (plan : List ℕ) → check_text r (take 368686 plan) ≡ check_text r plan
decides r plan = cut-decides r plan 368686 (omega arith)
