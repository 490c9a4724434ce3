-- The exported calls at work: in Yard A its tables, the whole plan and its end, in a yard without a plan that
-- there is none, its check from fresh tables to the test, and texts and tables that are refused, with all as it was. Assumes nothing.
use mathlib.Core.Path.{◌≡◌, refl, sym, ◌∙◌, ap}
use mathlib.Core.List.{List, [], ◌∷◌, ◌++◌}
use mathlib.Core.Option
use mathlib.Core.Option.{Option, none, some}
use Prim.Native.Nat.{ℕ}
use lib.ListN.{get_or, replicate}
use native.Mathlib.Omega.{arith}
use Rattle.laws.specs.Below.{lowest, all_below, any_below, sum_below, which_below, list_below}
use Rattle.laws.specs.Bits.{from_bits}
use Rattle.laws.specs.Lists.{any, all}
use Rattle.laws.proofs.Bools.{some-none}
use Rattle.text.specs.Text.{digits, line, bytes}
use Rattle.text.specs.Reading.{is_digit, byte_at, digits_at, number_at, fields, value_of, same_text}
use Rattle.railway.specs.declared.Railway.{Railway}
use Rattle.railway.specs.CaseAnswer.{CaseAnswer, Accepted, Refused as CaseRefused}
use Rattle.railway.specs.declared.Refusal.{Refusal}
use Rattle.railway.specs.declared.Refusal.TheVariants.{Form, Space, PlanForm, PlanFault}
use Rattle.railway.specs.Ends.{end_at}
use Rattle.railway.specs.Refusals.{number_of, number_given, first}
use Rattle.railway.specs.Record.{is_closed, joined_by, joined, has_signal, legs_of, train_of, weight_of, with_join, with_signal, with_legs, with_train}
use Rattle.railway.specs.Rows.{weight_row, unknown_row, join_row, loose_row, longer, chain_row, place_row}
use Rattle.railway.specs.Yards.{yard_a, up_two_one}
use Rattle.case_file.specs.Given.{refused, AcceptedWith, RefusedWith}
use Rattle.case_file.specs.Reading.{header_at, walk, read, case_answer}
use Rattle.case_file.specs.YardTexts.{yard_texts}
use Rattle.case_file.proofs.Given.{refused-exactly}
use Rattle.case_file.proofs.YardTexts.{yards-accepted}
use Rattle.game.specs.Local.{keeps_test}
use Rattle.game.specs.Placement.{code_of, sections_in, stands_on, start_code, at_home, shared}
use Rattle.game.specs.Setting.{heads_for, held, may_move, free, signal_open}
use Rattle.railway.specs.Passing.{entered, follow, passes}
use Rattle.game.specs.Moves.{occupied, move_of}
use Rattle.game_tables.specs.KnownYards.{plan_a}
use Rattle.game_tables.specs.Entries.{entry_from}
use Rattle.game_tables.specs.Tables.{no_figure, figure_entry, figure_in, tables_short, case_refusal}
use Rattle.game_tables.specs.Solver.{SolverTables}
use Rattle.game_tables.proofs.Unique.{figs-one, sets-one}
use Rattle.game_tables.proofs.KnownYards.{figs_a, sets_a, yard_a-accepted, yard_a-filled}
use Rattle.plan.specs.declared.PlanPlace.TheVariants.{Top, From}
use Rattle.plan.specs.Emitted.{Emitted, Line, End, NoPlan}
use Rattle.plan.specs.declared.CheckerState.TheVariants.{Fresh, Begun}
use Rattle.plan.specs.FrontAnswer.{FrontAnswer, Took, Refused as FrontRefused}
use Rattle.plan.specs.TestAnswer.{TestAnswer, Pass, Refused}
use Rattle.plan.specs.Lines.{spell, fits}
use Rattle.plan.specs.Text.{line_for}
use Rattle.plan.specs.Test.{listed_setting}
use Rattle.plan.specs.Reading.{guess, read_line}
use Rattle.plan.specs.Computed.{placement_passes, test_holds}
use Rattle.plan.specs.Emitter.{Wrote, emit_line}
use Rattle.plan.specs.Checker.{Checking, Left, left, freshened, test_number, take_line, test_plan}
use Rattle.plan.specs.Several.{run_from, emit_lines, lines_of, front_of, front_number, take_front}
use Rattle.solver_api.specs.Exported.{SolvedText}
use Rattle.solver_api.specs.Plans.{line_number, Writing, writing, wrote_to, WrittenRailway, WrittenText, Lent, lent, lent_of, begun_with, BegunText, taken_with, bytes_with, TakenText, TestedText}
use Rattle.solver_api.proofs.Plans.{told-apart}

abbrev N : ℕ
N = no_figure

-- THE TEXTS: Yard A's, one without a plan, and one out of form
abbrev case_a : List ℕ
case_a = bytes "H\t3\t1\t2\nP\t1\td\nJ\t1u\t1+\nJ\t2u\t1-\nJ\t3d\t1s\nG\t1d\nG\t2u\nT\t1\tu\t2\t3\nT\t2\td\t3\t1\n"

abbrev case_without : List ℕ
case_without = bytes "H\t2\t0\t1\nJ\t1u\t2d\nT\t1\tu\t2\t1\n"

read-so : AcceptedWith case_a yard_a × AcceptedWith case_without up_two_one
unfolding yard_texts
read-so = (yards-accepted.0, yards-accepted.1.1.1.1.1.0)

out-of-form : case_answer (bytes "H\n") ≡ refused Form
unfolding bytes first is_digit byte_at digits_at number_at header_at walk read case_answer
out-of-form = refl

form-refused : RefusedWith (bytes "H\n") Form
form-refused = (refused-exactly (bytes "H\n") Form).0 out-of-form

-- WHAT IS COMPUTED. A buffer of 40 bytes, as it is lent, and with the plan, and Yard A's tables
abbrev forty : List ℕ
forty = replicate 40 7

abbrev planned : List ℕ
planned = bytes plan_a ++ (7 ∷ 7 ∷ 7 ∷ [])

emits-so : (emit_lines yard_a figs_a sets_a Top forty ≡ record { answer = Line 37 (From 8); buffer = planned })
    × (emit_lines yard_a figs_a sets_a (From 8) forty ≡ record { answer = End; buffer = forty })
    × (emit_lines up_two_one (N ∷ N ∷ []) (0 ∷ 0 ∷ []) Top forty ≡ record { answer = NoPlan; buffer = forty })
unfolding emit_lines run_from emit_line line_for bytes case_refusal tables_short first weight_row weight_of unknown_row join_row
    loose_row chain_row longer place_row end_at joined_by joined has_signal legs_of train_of with_join with_signal with_legs
    with_train lowest all_below any_below sum_below which_below list_below any all spell line digits code_of
    sections_in start_code is_closed
emits-so = (refl, refl, refl)

-- tables lent, longer than needed and too short; fresh ones; and what comes with Yard A's plan, and bytes behind it that are no line
abbrev fives : List ℕ
fives = replicate 9 5

abbrev short : List ℕ
short = replicate 8 5

abbrev made : Checking
made = record { state = Fresh; figs = replicate 9 N; sets = replicate 9 0 ++ replicate 3 5 }

abbrev none-taken : Checking
none-taken = record { state = Fresh; figs = replicate 9 N; sets = replicate 9 0 }

abbrev all-taken : Checking
all-taken = record { state = Begun 2 8; figs = figs_a; sets = sets_a }

abbrev handed : List ℕ
handed = bytes plan_a ++ bytes "3\t3"

cases-so : (case_refusal yard_a fives (replicate 12 5) ≡ none) × (case_refusal yard_a short fives ≡ some Space)
unfolding case_refusal tables_short first weight_row weight_of unknown_row join_row loose_row chain_row longer place_row end_at
    joined_by joined has_signal legs_of train_of with_join with_signal with_legs with_train any_below list_below any all is_closed
cases-so = (refl, refl)

fresh-so : freshened yard_a fives (replicate 12 5) none ≡ made
unfolding with_join with_signal with_legs with_train
fresh-so = refl

takes-so : take_front yard_a none-taken handed ≡ left (Took 37) all-taken
unfolding take_front front_of lines_of take_line bytes case_refusal tables_short first weight_row weight_of unknown_row join_row
    loose_row chain_row longer place_row end_at joined_by joined has_signal legs_of train_of with_join with_signal with_legs
    with_train any_below sum_below which_below list_below from_bits any all read_line guess fields value_of same_text spell line
    digits fits entry_from code_of is_closed
takes-so = refl

tests-so : ((test_plan yard_a all-taken).answer ≡ Pass)
    × ((test_plan yard_a none-taken).answer ≡ Refused PlanForm)
    × ((test_plan yard_a (record { state = Begun 1 8; figs = figs_a; sets = sets_a })).answer ≡ Refused PlanFault)
unfolding test_plan case_refusal tables_short first weight_row weight_of unknown_row join_row loose_row chain_row longer place_row
    end_at joined_by joined has_signal legs_of train_of with_join with_signal with_legs with_train all_below any_below sum_below
    which_below list_below from_bits any all code_of test_holds placement_passes listed_setting keeps_test sections_in stands_on
    start_code at_home shared heads_for may_move free held signal_open passes follow occupied move_of entered is_closed
tests-so = (refl, refl, refl)

-- THE SOLVER: in Yard A the start's figure is 2 and its entry lets train 2 over the point at plus, and what stands past the last code stays; a table that is
-- too short and a text out of form leave both tables
module _ (n : ℕ) (figs' sets' : List ℕ) where
  solved : SolvedText case_a fives (replicate 12 5) n figs' sets' → (n ≡ 0) × (figure_in figs' 7 ≡ some 2) × (get_or sets' 7 0 ≡ get_or sets_a 7 0) × (get_or sets' 10 0 ≡ 5)
  unfolding with_join with_signal with_legs with_train
  solved c =
      let w = c.accepted yard_a read-so.0 in
      let l : SolverTables yard_a fives (replicate 12 5) figs' sets' = rw cases-so.0 at w.leaves in (
        w.numbered ∙ ap (λ (x : Option Refusal). Option.get_or (number_of x) 0) cases-so.0,
        ap figure_entry (figs-one yard_a yard_a-accepted figs' sets' figs_a sets_a l.filled yard_a-filled 7 (omega arith)),
        sets-one yard_a yard_a-accepted figs' sets' figs_a sets_a l.filled yard_a-filled 7 (omega arith),
        l.kept_sets.past 10 (omega arith),
      )

  not-solved : SolvedText case_a short fives n figs' sets' → (n ≡ 9) × (figs' ≡ short) × (sets' ≡ fives)
  not-solved c =
      let w = c.accepted yard_a read-so.0 in
      let l : (figs' ≡ short) × (sets' ≡ fives) = rw cases-so.1 at w.leaves in
      (w.numbered ∙ ap (λ (x : Option Refusal). Option.get_or (number_of x) 0) cases-so.1, l.0, l.1)

  unread-case : SolvedText (bytes "H\n") fives fives n figs' sets' → (n ≡ 2) × (figs' ≡ fives) × (sets' ≡ fives)
  unread-case c = c.refused Form form-refused

-- THE PLAN'S LINES: what an answer and a buffer leave
written : (r : Railway) (figs sets : List ℕ) (old : Writing) (n : ℕ) (new : Writing) (w : WrittenRailway r figs sets old n new) (x : Wrote) → w.answer ≡ x.answer → new.buffer ≡ x.buffer
    → (n ≡ line_number x.answer) × (new ≡ wrote_to old x.answer x.buffer)
written r figs sets old n new w x e b = (w.numbered ∙ ap line_number e, w.leaves ∙ ap (λ (y : Emitted). wrote_to old y new.buffer) e ∙ ap (wrote_to old x.answer) b)

abbrev at_top : Writing
at_top = writing 0 forty 5

abbrev at_end : Writing
at_end = writing 9 forty 5

module _ (n : ℕ) (new : Writing) where
  -- all of Yard A's plan: 37 bytes, and the place behind code 7
  whole : WrittenText case_a figs_a sets_a at_top n new → (n ≡ 0) × (new ≡ writing 9 planned 37)
  whole c =
      let w = c.accepted yard_a read-so.0 in
      written yard_a figs_a sets_a at_top n new w (record { answer = Line 37 (From 8); buffer = planned })
      (w.emitted.answer ∙ ap (λ (x : Wrote). x.answer) emits-so.0)
      (w.emitted.buffer ∙ ap (λ (x : Wrote). x.buffer) emits-so.0)

  -- nothing behind it
  ended : WrittenText case_a figs_a sets_a at_end n new → (n ≡ 255) × (new ≡ at_end)
  ended c =
      let w = c.accepted yard_a read-so.0 in
      written yard_a figs_a sets_a at_end n new w (record { answer = End; buffer = forty })
      (w.emitted.answer ∙ ap (λ (x : Wrote). x.answer) emits-so.1)
      (w.emitted.buffer ∙ ap (λ (x : Wrote). x.buffer) emits-so.1)

  -- no plan
  without : WrittenText case_without (N ∷ N ∷ []) (0 ∷ 0 ∷ []) at_top n new → (n ≡ 254) × (new ≡ at_top)
  without c =
      let w = c.accepted up_two_one read-so.1 in
      written up_two_one (N ∷ N ∷ []) (0 ∷ 0 ∷ []) at_top n new w (record { answer = NoPlan; buffer = forty })
      (w.emitted.answer ∙ ap (λ (x : Wrote). x.answer) emits-so.2)
      (w.emitted.buffer ∙ ap (λ (x : Wrote). x.buffer) emits-so.2)

  -- a text out of form
  not_written : WrittenText (bytes "H\n") figs_a sets_a at_top n new → (n ≡ 2) × (new ≡ at_top)
  not_written c = c.refused Form form-refused

-- A CHECK BEGINS: an answer by its number
given-number : (a : CaseAnswer) (o : Option Refusal) → number_given a ≡ number_of o → (f : Refusal) → o ≡ some f → (old : Lent) (c : Checking) → begun_with old a c ≡ old
given-number Accepted o e f g old c = some-none (ap number_of g) (sym e)
given-number (CaseRefused h) o e f g old c = refl

given-none : (a : CaseAnswer) (o : Option Refusal) → number_given a ≡ number_of o → o ≡ none → (old : Lent) (c : Checking) → begun_with old a c ≡ lent_of c
given-none Accepted o e g old c = refl
given-none (CaseRefused h) o e g old c = some-none (sym e) (ap number_of g)

abbrev numbers : List ℕ
numbers = 4 ∷ 5 ∷ 6 ∷ []

module _ (n : ℕ) (new : Lent) where
  -- in Yard A every code is written, and the state too
  begun : BegunText case_a (lent numbers fives (replicate 12 5)) n new → (n ≡ 0) × (new ≡ lent (0 ∷ 0 ∷ 0 ∷ []) (replicate 9 N) (replicate 9 0 ++ replicate 3 5))
  begun c =
      let w = c.accepted yard_a read-so.0 in
      let o = case_refusal yard_a fives (replicate 12 5) in
      let held : w.checking ≡ made = w.made.checking ∙ ap (freshened yard_a fives (replicate 12 5)) cases-so.0 ∙ fresh-so in (
        w.numbered ∙ ap (λ (x : Option ℕ). Option.get_or x 0) (w.made.numbered ∙ ap number_of cases-so.0),
        w.leaves ∙ given-none w.answer o w.made.numbered cases-so.0 (lent numbers fives (replicate 12 5)) w.checking ∙ ap lent_of held,
      )

  -- a table is too short
  not-begun : BegunText case_a (lent numbers short fives) n new → (n ≡ 9) × (new ≡ lent numbers short fives)
  not-begun c =
      let w = c.accepted yard_a read-so.0 in
      let o = case_refusal yard_a short fives in (
        w.numbered ∙ ap (λ (x : Option ℕ). Option.get_or x 0) (w.made.numbered ∙ ap number_of cases-so.1),
        w.leaves ∙ given-number w.answer o w.made.numbered Space cases-so.1 (lent numbers short fives) w.checking,
      )

  unread : BegunText (bytes "H\n") (lent numbers fives fives) n new → (n ≡ 2) × (new ≡ lent numbers fives fives)
  unread c = c.refused Form form-refused

-- LINES ARE TAKEN: all of Yard A's, from fresh tables, and not the bytes behind them
front-number : (a : FrontAnswer) (o : Option Refusal) → front_number a ≡ number_of o → (f : Refusal) → o ≡ some f
    → (bytes : ℕ) (old : Lent) (c : Checking) → (taken_with old a c ≡ old) × (bytes_with bytes a ≡ bytes)
front-number (Took k) o e f g bytes old c = some-none (ap number_of g) (sym e)
front-number (FrontRefused h) o e f g bytes old c = (refl, refl)

module _ (n : ℕ) (new : Lent) (bytes' : ℕ) where
  taken : TakenText case_a (lent (0 ∷ 8 ∷ 9 ∷ []) (replicate 9 N) (replicate 9 0)) handed 5 n new bytes' → (n ≡ 0) × (new ≡ lent (1 ∷ 2 ∷ 8 ∷ []) figs_a sets_a) × (bytes' ≡ 37)
  taken c =
      let w = c.accepted yard_a read-so.0 in
      let a : w.answer ≡ Took 37 = w.took.answer ∙ ap (λ (x : Left FrontAnswer). x.answer) takes-so in
      let held : w.checking ≡ all-taken = w.took.checking ∙ ap (λ (x : Left FrontAnswer). x.checking) takes-so in
      let from = lent (0 ∷ 8 ∷ 9 ∷ []) (replicate 9 N) (replicate 9 0) in (
        w.numbered ∙ ap (λ (x : FrontAnswer). Option.get_or (front_number x) 0) a,
        w.leaves ∙ ap (λ (x : FrontAnswer). taken_with from x w.checking) a ∙ ap lent_of held,
        w.counted ∙ ap (bytes_with 5) a,
      )

  not_taken : TakenText case_a (lent numbers short fives) handed 5 n new bytes' → (n ≡ 9) × (new ≡ lent numbers short fives) × (bytes' ≡ 5)
  not_taken c =
      let w = c.accepted yard_a read-so.0 in
      let kept = front-number w.answer (case_refusal yard_a short fives) w.took.numbered Space cases-so.1 5 (lent numbers short fives) w.checking in
      (w.numbered ∙ ap (λ (x : Option ℕ). Option.get_or x 0) (w.took.numbered ∙ ap number_of cases-so.1), w.leaves ∙ kept.0, w.counted ∙ kept.1)

  unread-lines : TakenText (bytes "H\n") (lent numbers fives fives) handed 5 n new bytes' → (n ≡ 2) × (new ≡ lent numbers fives fives) × (bytes' ≡ 5)
  unread-lines c = c.refused Form form-refused

-- THE TEST: Yard A's plan passes, no line is out of form, and another first figure fails
module _ (n : ℕ) where
  passes-so : TestedText case_a (lent (1 ∷ 2 ∷ 8 ∷ []) figs_a sets_a) n → n ≡ 0
  passes-so c = let w = c.accepted yard_a read-so.0 in w.numbered ∙ ap (λ (x : TestAnswer). Option.get_or (test_number x) 0) (w.tested.answer ∙ tests-so.0)

  no_line : TestedText case_a (lent (0 ∷ 2 ∷ 8 ∷ []) (replicate 9 N) (replicate 9 0)) n → n ≡ 10
  no_line c = let w = c.accepted yard_a read-so.0 in w.numbered ∙ ap (λ (x : TestAnswer). Option.get_or (test_number x) 0) (w.tested.answer ∙ tests-so.1)

  fails-so : TestedText case_a (lent (7 ∷ 1 ∷ 8 ∷ []) figs_a sets_a) n → n ≡ 11
  fails-so c = let w = c.accepted yard_a read-so.0 in w.numbered ∙ ap (λ (x : TestAnswer). Option.get_or (test_number x) 0) (w.tested.answer ∙ tests-so.2)

  untested : TestedText (bytes "H\n") (lent (1 ∷ 2 ∷ 8 ∷ []) figs_a sets_a) n → n ≡ 2
  untested c = c.refused Form form-refused

-- the numbers for the end and for no plan say so, whatever was answered
end-said : (a : Emitted) → line_number a ≡ 255 → a ≡ End
end-said a = (told-apart a).ended

no-plan-said : (a : Emitted) → line_number a ≡ 254 → a ≡ NoPlan
no-plan-said a = (told-apart a).no-plan
