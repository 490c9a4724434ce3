-- The law, the promise of the call and the claims put to use: of any call of which they hold something is drawn, each time from one field, in two sidings and in Yard A. Nothing rests on
-- these facts; they hold the fields fast. Assumes nothing.
use mathlib.Core.Path.{◌≡◌, refl, sym, ◌∙◌, ap, subst}
use mathlib.Core.Bool.{Bool, true, false, ◌&&◌}
use mathlib.Core.List.{List, [], ◌∷◌, cons-ne-nil}
use mathlib.Core.Option.{none, some}
use Prim.Native.Nat.{ℕ, ◌≤◌}
use native.Mathlib.Omega.{arith}
use lib.Dec.{eqb}
use lib.ListN.{length, get_or}
use Rattle.laws.specs.Below.{all_below, any_below, sum_below, count_below, list_below, lowest, which_below}
use Rattle.laws.specs.Bits.{bit, from_bits}
use Rattle.laws.specs.Lists.{any, all, rises}
use Rattle.laws.proofs.Bools.{clash, not-true}
use Rattle.text.specs.Text.{digits, line, bytes}
use Rattle.text.specs.Reading.{fields, value_of, same_text}
use Rattle.railway.specs.declared.Refusal.{Refusal}
use Rattle.railway.specs.declared.Refusal.TheVariants.{PlanForm, PlanFault}
use Rattle.railway.specs.Ends.{end_at}
use Rattle.railway.specs.Refusals.{first}
use Rattle.railway.specs.Record.{is_closed, joined_by, joined, has_signal, legs_of, train_of, weight_of, with_join, with_signal, with_legs, with_train}
use Rattle.railway.specs.Passing.{follow, passes, entered}
use Rattle.railway.specs.Rows.{weight_row, unknown_row, join_row, loose_row, longer, chain_row, place_row, record_refusal}
use Rattle.railway.specs.Yards.{yard_a}
use Rattle.game.specs.Game.{Adversary, following, HomeWithin}
use Rattle.game.specs.Local.{keeps_test}
use Rattle.game.specs.Placement.{code_of, sections_in, stands_on, start_code, at_home, shared}
use Rattle.game.specs.Setting.{Setting, heads_for, held, may_move, free, signal_open}
use Rattle.game.specs.Moves.{occupied, move_of, game_of}
use Rattle.game_tables.specs.Entries.{opens_in, setting_from, setting_at, entry_from}
use Rattle.game_tables.specs.Tables.{setting_in, tables_short}
use Rattle.game_tables.proofs.KnownYards.{figs_a, sets_a}
use Rattle.plan.specs.declared.CheckerState.TheVariants.{Fresh, Begun}
use Rattle.plan.specs.LineAnswer.{Taken, Refused as LineRefused}
use Rattle.plan.specs.TestAnswer.{TestAnswer, Pass, Refused as TestRefused}
use Rattle.plan.specs.Lines.{spell, fits}
use Rattle.plan.specs.Checked.{Form, InForm}
use Rattle.plan.specs.Reading.{guess, read_line}
use Rattle.plan.specs.Test.{listed_setting}
use Rattle.plan.specs.Computed.{placement_passes, test_holds}
use Rattle.plan.specs.Checker.{Checking, test_number, take_line, test_plan, call_lines, is_taken}
use Rattle.plan.proofs.RuleUses.{other_texts, other-passes, other-fails, other-not-failing, other-not-passing}
use Rattle.thin.specs.ThinAnswer.{ThinAnswer, Thinned, Refused}
use Rattle.thin.specs.Law.{moves, in_either, in_both, queue, SharedSignal, LawHolds}
use Rattle.thin.specs.Thinning.{some_free, thin_number, ThinPost}
use Rattle.thin.specs.Claims.{LeanAt, Lean, ThinClaims}
use Rattle.thin.specs.Calls.{PlanThinned}
use Rattle.thin.proofs.Examples.{sidings, sidings_free, figs_s, generous, lean_s, generous_free, handed, calls}

-- THE LAW. In the sidings at the start, where both trains are held: with both open train 2 may move; what the one open train and the other have in common lets train 1 not move, and what it and
-- all have in common does; and a move of train 1 ends where it ends, whoever is open.
module _ (plus : ℕ → Bool) (w : LawHolds) where
  joined-both : moves sidings 8 plus (in_either (eqb 0) (eqb 1)) 1 ≡ true
  unfolding may_move signal_open held free has_signal heads_for stands_on sections_in train_of with_join with_signal with_legs with_train any_below
  joined-both = (w.law sidings 8 plus (eqb 0) (eqb 1)).joined 1

  common-nobody : moves sidings 8 plus (in_both (eqb 0) (eqb 1)) 0 ≡ false
  unfolding may_move signal_open held free has_signal heads_for stands_on sections_in train_of with_join with_signal with_legs with_train any_below shared
  common-nobody = (w.law sidings 8 plus (eqb 0) (eqb 1)).common refl 0

  common-one : moves sidings 8 plus (in_both (eqb 0) (λ t. true)) 0 ≡ true
  unfolding may_move signal_open held free has_signal heads_for stands_on sections_in train_of with_join with_signal with_legs with_train any_below shared
  common-one = (w.law sidings 8 plus (eqb 0) (λ t. true)).common refl 0

  ends_same : (a : ℕ → Bool) → move_of sidings 8 (setting_from sidings 8 plus a) 0 ≡ move_of sidings 8 (setting_from sidings 8 plus (λ t. false)) 0
  ends_same a = (w.law sidings 8 plus a (λ t. false)).ends 0

  -- two trains before one signal
  at-one-signal : SharedSignal queue 0 plus 0 1
  unfolding held has_signal heads_for stands_on sections_in train_of with_join with_signal with_legs with_train
  at-one-signal = w.signals queue 0 plus 0 1 (omega arith) (omega arith) (λ e. absurd (omega arith)) refl refl

  one-signal : (moves queue 0 plus (eqb 0) 0 ≡ true) × (moves queue 0 plus (eqb 1) 0 ≡ true) × (moves queue 0 plus (in_both (eqb 0) (eqb 1)) 0 ≡ false)
  one-signal = (at-one-signal.by_itself, at-one-signal.by-other, at-one-signal.by-nobody)

  -- so the second half of the law is false there
  law-fails : ((t : ℕ) → moves queue 0 (λ n. false) (in_both (eqb 0) (eqb 1)) t ≡ (moves queue 0 (λ n. false) (eqb 0) t && moves queue 0 (λ n. false) (eqb 1) t)) → ⊥
  law-fails h = clash (h 0 ∙ w.fails.either_way) w.fails.not-in-common

  in-an-accepted-case : (record_refusal queue ≡ none) × (shared queue 0 ≡ true)
  in-an-accepted-case = (w.fails.accepted, w.fails.together)

-- THE PLANS: the generous one for the sidings, the one with train 1 free, Yard A's own, and one of which no line was taken
abbrev rich : Checking
rich = handed (Begun 2 14) figs_s generous

abbrev rich_free : Checking
rich_free = handed (Begun 2 14) figs_s generous_free

abbrev of_a : Checking
of_a = handed (Begun 2 8) figs_a sets_a

abbrev early : Checking
early = handed Fresh figs_s generous

tests : ((test_plan sidings rich).answer ≡ Pass) × ((test_plan sidings early).answer ≡ TestRefused PlanForm)
unfolding test_plan tables_short first weight_row weight_of unknown_row join_row loose_row chain_row longer place_row end_at
    joined_by joined has_signal legs_of train_of with_join with_signal with_legs with_train all_below any_below sum_below list_below
    code_of test_holds placement_passes listed_setting keeps_test sections_in stands_on start_code at_home shared heads_for
    may_move free held signal_open passes follow occupied move_of entered is_closed
tests = (refl, refl)

-- THE PROMISE: the answer, its number, and what is left
module _ (a : ThinAnswer) (c' : Checking) where
  answered : ThinPost sidings rich a c' → a ≡ Thinned
  answered h = h.answer ∙ ap (λ x. x.answer) calls.0

  numbered : ThinPost sidings early a c' → thin_number a ≡ some 10
  unfolding test_plan tables_short first weight_row weight_of unknown_row join_row loose_row chain_row longer place_row end_at
      joined_by joined has_signal legs_of train_of with_join with_signal with_legs with_train any_below list_below is_closed
  numbered h = h.numbered

  left-lean : ThinPost sidings rich a c' → c'.sets ≡ lean_s
  left-lean h = ap (λ (c : Checking). c.sets) (h.checking ∙ ap (λ x. x.checking) calls.0)

-- ANY CALL: it answers as the test does, both ways
pass-not-refused : (f : Refusal) → Pass ≡ TestRefused f → ⊥
pass-not-refused f e = let z : ◌≡◌ {A = ℕ} 0 1 = ap which e in absurd (omega arith)
  where
    which : TestAnswer → ℕ
    which Pass = 0
    which (TestRefused f) = 1

module _ (a : ThinAnswer) (c' : Checking) where
  thinned-rich : ThinClaims sidings rich a c' → a ≡ Thinned
  thinned-rich h = h.passed.1 tests.0

  not-thinned : ThinClaims sidings early a c' → a ≡ Thinned → ⊥
  not-thinned h e = pass-not-refused PlanForm (sym (h.passed.0 e) ∙ tests.1)

  refused-early : ThinClaims sidings early a c' → a ≡ Refused PlanForm
  refused-early h = (h.refused PlanForm).1 tests.1

  not-refused : ThinClaims sidings rich a c' → a ≡ Refused PlanFault → ⊥
  not-refused h e = pass-not-refused PlanFault (sym tests.0 ∙ (h.refused PlanFault).0 e)

  -- refused, all stays; whatever is answered, figures, state and lengths do
  kept-early : ThinClaims sidings early a c' → a ≡ Refused PlanForm → c'.sets ≡ generous
  kept-early h e = ap (λ (c : Checking). c.sets) (h.kept PlanForm e)

  module _ (h : ThinClaims sidings rich a c') where
    becomes-lean : a ≡ Thinned → Lean sidings rich c'
    becomes-lean e = h.thinned e

    same-figures : get_or c'.figs 8 0 ≡ 2
    same-figures = ap (λ (figs : List ℕ). get_or figs 8 0) h.figures

    same-state : c'.state ≡ Begun 2 14
    same-state = h.state

    same_length : length c'.sets ≡ 16
    same_length = h.as_long

    -- a line for (3, 4), code 14, is taken, and one for (1, 1), code 0, behind it is not
    more-lines : (call_lines sidings (bytes "3\t4\t5\t0\t.\n" ∷ bytes "1\t1\t5\t0\t.\n" ∷ []) c').answers ≡ Taken ∷ LineRefused PlanForm ∷ []
    unfolding bytes call_lines take_line tables_short first weight_row weight_of unknown_row join_row loose_row chain_row longer
        place_row end_at joined_by joined has_signal legs_of train_of with_join with_signal with_legs with_train all_below any_below
        sum_below which_below list_below from_bits any all read_line guess fields value_of same_text spell line digits fits
        entry_from code_of is_closed
    more-lines = h.more (bytes "3\t4\t5\t0\t.\n" ∷ bytes "1\t1\t5\t0\t.\n" ∷ [])

-- A PLAN THAT WAS THINNED
module _ (c' : Checking) (h : Lean sidings rich c') where
  lean-start : LeanAt sidings rich c' 8
  unfolding at_home all_below stands_on sections_in train_of with_join with_signal with_legs with_train
  lean-start = h.lean 8 2 (omega arith) refl refl

  -- of both trains the lowest stays open
  lowest-stays : (opens_in (get_or c'.sets 8 0) 0 ≡ true) × (opens_in (get_or c'.sets 8 0) 1 ≡ false)
  unfolding some_free lowest any_below setting_at may_move signal_open held free has_signal heads_for stands_on sections_in train_of with_join with_signal with_legs with_train
  lowest-stays = (lean-start.one-open refl 0 refl 0, lean-start.one-open refl 0 refl 1)

  passes-still : test_number (test_plan sidings c').answer ≡ none
  passes-still = ap test_number h.passes

  twice-thinned : (a : ThinAnswer) (c'' : Checking) → ThinPost sidings c' a c'' → (thin_number a ≡ none) × (get_or c''.sets 8 0 ≡ get_or c'.sets 8 0)
  twice-thinned a c'' p = let w = h.again a c'' p in (ap thin_number w.0, ap (λ (c : Checking). get_or c.sets 8 0) w.1)

  -- from (1, 3) home within 2
  at-start : start_code sidings ≡ 8
  unfolding start_code code_of sum_below list_below train_of with_join with_signal with_legs with_train
  at-start = refl

  home-in-two : (choice : Adversary Setting) → HomeWithin (game_of sidings) (following (setting_in sidings c'.sets)) choice 8 2
  home-in-two choice = subst (λ (p : ℕ). HomeWithin (game_of sidings) (following (setting_in sidings c'.sets)) choice p 2) at-start (h.follow 2 14 refl choice)

  -- train 2 was closed at (1, 4), and stays so; one train was open there, and there are no more
  stays_closed : opens_in (get_or c'.sets 12 0) 1 ≡ false
  stays_closed = not-true (opens_in (get_or c'.sets 12 0) 1) (λ o. clash (h.never 12 1 o) refl)

  at_most_one : count_below (opens_in (get_or c'.sets 12 0)) 2 ≤ 1
  unfolding count_below with_join with_signal with_legs with_train
  at_most_one = h.fewer 12

  -- at home, at (1, 1), which is not listed, and past the last code
  others-stay : (get_or c'.sets 13 0 ≡ 0) × (get_or c'.sets 0 0 ≡ 0) × (get_or c'.sets 16 0 ≡ 0)
  unfolding at_home all_below stands_on sections_in train_of with_join with_signal with_legs with_train
  others-stay = (h.home 13 refl, h.unlisted 0 refl, h.past 16 (omega arith))

-- where train 1 is free nobody is open at the start
module _ (c' : Checking) (h : Lean sidings_free rich_free c') where
  all_closed : opens_in (get_or c'.sets 8 0) 1 ≡ false
  unfolding some_free any_below free has_signal heads_for at_home all_below stands_on sections_in train_of with_join with_signal with_legs with_train
  all_closed = (h.lean 8 2 (omega arith) refl refl).closed refl 1

-- Yard A's point lies at plus in (2, 3), as it did
module _ (c' : Checking) (h : Lean yard_a of_a c') where
  point-at-plus : bit (get_or c'.sets 7 0) 0 ≡ true
  point-at-plus = h.points 7 0 (omega arith)

-- A WHOLE LIST OF CALLS in Yard A, for a plan by another maker: taken with its own first line it is thinned and passes, and is followed home within its figure; with another first line it is refused
-- with 11; and where nothing was taken, with 10.
module _ (a : ThinAnswer) (c' : Checking) (test : TestAnswer) where
  module _ (h : PlanThinned yard_a (other_texts "plan\t9\n") a c' test) where
    other-thinned : a ≡ Thinned
    other-thinned = h.thinned.1 other-passes

    other-passes-still : test ≡ Pass
    other-passes-still = h.passes.1 other-passes

    no-fault : a ≡ Refused PlanFault → ⊥
    no-fault e = other-not-failing (h.faulty.0 e)

    not-early : a ≡ Refused PlanForm → ⊥
    not-early e = cons-ne-nil _ _ (h.early.0 e)

    followed : (choice : Adversary Setting) → HomeWithin (game_of yard_a) (following (setting_in yard_a c'.sets)) choice 7 other-passes.start
    unfolding start_code code_of sum_below list_below train_of with_join with_signal with_legs with_train
    followed choice = h.follow other-passes choice

  module _ (h : PlanThinned yard_a (other_texts "plan\t8\n") a c' test) where
    other-fault : a ≡ Refused PlanFault
    other-fault = h.faulty.1 other-fails

    other-not-thinned : a ≡ Thinned → ⊥
    other-not-thinned e = other-not-passing (h.thinned.0 e)

    fails-still : test ≡ Pass → ⊥
    fails-still e = other-not-passing (h.passes.0 e)

  nothing-taken : PlanThinned yard_a [] a c' test → a ≡ Refused PlanForm
  nothing-taken h = h.early.1 refl

  -- behind the first line a line for (2, 1) is taken; a line that has been taken is in form with those before it
  first_then : Form yard_a (bytes "plan\t9\n" ∷ bytes "2\t1\t8\t1\t-\n" ∷ []) 9 (record { sections = 1 ∷ 0 ∷ []; figure = 8; opens = true ∷ false ∷ []; plus = false ∷ [] } ∷ [])
  unfolding bytes all rises spell line digits fits all_below any_below sum_below which_below list_below code_of with_join with_signal with_legs with_train
  first_then = record { spelled = refl; fit = refl; rising = refl }

  module _ (h : PlanThinned yard_a (bytes "plan\t9\n" ∷ []) a c' test) where
    one_more : is_taken (take_line yard_a c' (bytes "2\t1\t8\t1\t-\n")).answer ≡ true
    one_more = (h.more (bytes "2\t1\t8\t1\t-\n")).1 (record { start = 9; lines = _; form = first_then; holds = tt })

    taken-in-form : (text : List ℕ) → is_taken (take_line yard_a c' text).answer ≡ true → InForm yard_a (bytes "plan\t9\n" ∷ text ∷ [])
    taken-in-form text e = (h.more text).0 e
