-- The promises, the rule on refusals and what is said of the checker at work: from each field of them, and from nothing else, something is drawn of
-- any call of which they hold, in Yard A where it takes a yard. A field that were taken away, or that said nothing, would be missed. Assumes nothing.
use mathlib.Core.Path.{◌≡◌, refl, sym, ◌∙◌, ap}
use mathlib.Core.Logic.{inl, inr}
use mathlib.Core.Bool.{true, false}
use mathlib.Core.List.{List, [], ◌∷◌, Memᴰ}
use mathlib.Core.Option.{none, some}
use Prim.Native.Nat.{ℕ, ◌≤◌, ◌<◌}
use Prim.Native.String.{String}
use native.Mathlib.Omega.{arith}
use lib.ListN.{length, get_or, drop, replicate}
use lib.Dec.{ltb}
use borrow.Author.Tests.{lt-ltb}
use Rattle.laws.specs.Below.{all_below, any_below, sum_below, which_below, list_below, lowest}
use Rattle.laws.specs.Bits.{from_bits}
use Rattle.laws.specs.Lists.{any, all, rises}
use Rattle.laws.proofs.Bools.{clash, some-none, some_one, not-true, or_left}
use Rattle.text.specs.Text.{digits, line, bytes}
use Rattle.text.specs.Reading.{fields, value_of, same_text}
use Rattle.railway.specs.declared.Railway.{Railway}
use Rattle.railway.specs.declared.Refusal.{Refusal}
use Rattle.railway.specs.declared.Refusal.TheVariants.{Space, PlanForm, PlanFault}
use Rattle.railway.specs.Ends.{end_at}
use Rattle.railway.specs.CaseAnswer.{CaseAnswer}
use Rattle.railway.specs.Refusals.{first, number_given as caseNumber}
use Rattle.railway.specs.Record.{is_closed, joined_by, joined, has_signal, legs_of, train_of, weight_of, with_join, with_signal, with_legs, with_train}
use Rattle.railway.specs.Passing.{follow, passes, entered}
use Rattle.railway.specs.Rows.{weight_row, unknown_row, join_row, loose_row, longer, chain_row, place_row}
use Rattle.railway.specs.Yards.{yard_a}
use Rattle.game.specs.Game.{Adversary, following, HomeWithin}
use Rattle.game.specs.Local.{keeps_test}
use Rattle.game.specs.Placement.{code_of, sections_in, placements, stands_on, start_code, at_home, shared}
use Rattle.game.specs.Setting.{Setting, heads_for, held, may_move, free, signal_open}
use Rattle.game.specs.Moves.{occupied, move_of, game_of}
use Rattle.game.proofs.Inhabited.{yard-ones}
use Rattle.game_tables.specs.Entries.{entry_from}
use Rattle.game_tables.specs.Tables.{no_figure, tables_short, case_refusal}
use Rattle.game_tables.proofs.Refusals.{case-accepted}
use Rattle.game_tables.specs.ByTurns.{FilledInTurns}
use Rattle.game_tables.proofs.KnownYards.{figs_a, sets_a, yard_a-accepted, yard_a-filled}
use Rattle.plan.specs.declared.PlanPlace.{PlanPlace}
use Rattle.plan.specs.declared.PlanPlace.TheVariants.{Top, From}
use Rattle.plan.specs.Emitted.{Emitted, Line, Refused as EmitRefused}
use Rattle.plan.specs.declared.CheckerState.{CheckerState}
use Rattle.plan.specs.declared.CheckerState.TheVariants.{Fresh, Begun}
use Rattle.plan.specs.LineAnswer.{LineAnswer, Taken, Refused as LineRefused}
use Rattle.plan.specs.TestAnswer.{TestAnswer, Pass, Refused as TestRefused}
use Rattle.plan.specs.Lines.{PlacementLine, start_line, placement_line, spell, fits, Spells, line_code}
use Rattle.plan.specs.Text.{has_figure, line_for, plan_texts}
use Rattle.plan.specs.Emitter.{number_given, is_line, Wrote, Due, due}
use Rattle.plan.specs.Test.{Listing, Test, line_on, by_lines, listed_setting}
use Rattle.plan.specs.Reading.{guess, read_line}
use Rattle.plan.specs.Computed.{placement_passes, test_holds}
use Rattle.plan.specs.Checker.{line_entry, line_number, test_number, Checking, fresh_checking, Left, take_line, test_plan, is_taken}
use Rattle.plan.specs.Promises.{EmitterPost, LinePost, TestPost, FreshPost}
use Rattle.plan.specs.Rules.{EmitRule, LineChanges}
use Rattle.plan.specs.Checked.{Form, Passing, Failing, Checked}
use Rattle.plan.specs.ByTurns.{TestInTurns, PlanAsBefore}
use Rattle.plan.proofs.Reading.{reads-line}
use Rattle.plan.proofs.Forms.{Last, only, more, form-last, form-one}
use Rattle.plan.proofs.Rules.{differ, emit-rule, check-rule}
use Rattle.plan.proofs.Test.{tested, plan-works}
use Rattle.plan.proofs.Emitter.{none-refused}
use Rattle.plan.proofs.Inhabited.{nine, lines_a, computed}
use Rattle.plan.proofs.ByTurns.{plans-as-before}

-- kinds told apart by a number
abbrev is_fresh : CheckerState → ℕ
is_fresh Fresh = 0
is_fresh (Begun m from) = 1

abbrev is_taken_no : LineAnswer → ℕ
is_taken_no Taken = 0
is_taken_no (LineRefused f) = 1

-- THE PROMISES. A test leaves state and tables, whatever it answers, and a second one answers the same.
test-leaves : (r : Railway) (c c' : Checking) (a : TestAnswer) → TestPost r c a c' → c' ≡ c
test-leaves r c c' a p = let e : c' ≡ (test_plan r c).checking = p.checking in e ∙ (check-rule r c).test-leaves

test-again : (r : Railway) (c c' c'' : Checking) (a b : TestAnswer) → TestPost r c a c' → TestPost r c' b c'' → b ≡ a
test-again r c c' c'' a b p q = q.answer ∙ ap (λ (x : Checking). (test_plan r x).answer) (test-leaves r c c' a p) ∙ sym p.answer

-- A line that is refused leaves state and tables.
line-leaves : (r : Railway) (c c' : Checking) (text : List ℕ) (f : Refusal) → LinePost r c text (LineRefused f) c' → c' ≡ c
line-leaves r c c' text f p = p.checking ∙ (check-rule r c).line-leaves text f (sym p.answer)

-- Every answer but a line leaves the buffer.
emit-leaves : (r : Railway) (figs sets : List ℕ) (place : PlanPlace) (b b' : List ℕ) (a : Emitted) → EmitterPost r figs sets place b a b' → is_line a ≡ false → b' ≡ b
emit-leaves r figs sets place b b' a p e = p.buffer ∙ (emit-rule r figs sets place b).leaves (ap is_line (sym p.answer) ∙ e)

-- With tables too short for Yard A each call gives 9.
numbered : (a : Emitted) (b' : List ℕ) (x : LineAnswer) (c₁ : Checking) (t : TestAnswer) (c₂ : Checking)
    → EmitterPost yard_a (replicate 8 7) (replicate 9 7) Top [] a b' → LinePost yard_a (fresh_checking 8 9) [] x c₁ → TestPost yard_a (fresh_checking 9 8) t c₂
    → (number_given a ≡ some 9) × (line_number x ≡ some 9) × (test_number t ≡ some 9)
unfolding tables_short first weight_row weight_of unknown_row join_row loose_row chain_row longer place_row end_at joined_by
    joined has_signal legs_of train_of with_join with_signal with_legs with_train any_below is_closed
numbered a b' x c₁ t c₂ p q u = (p.numbered, q.numbered, u.numbered)

-- THE EMITTER'S RULE, of anything that a call may have left. In Yard A the line from code 3 on has ten bytes.
refused-first : (w : Wrote) → EmitRule yard_a (replicate 8 7) (replicate 9 7) Top [] w → w.answer ≡ EmitRefused Space
unfolding case_refusal tables_short first weight_row weight_of unknown_row join_row loose_row chain_row longer place_row end_at
    joined_by joined has_signal legs_of train_of with_join with_signal with_legs with_train any_below is_closed
refused-first w rule = rule.first Space refl

unrefused : case_refusal yard_a figs_a sets_a ≡ none
unfolding case_refusal tables_short first weight_row weight_of unknown_row join_row loose_row chain_row longer place_row end_at
    joined_by joined has_signal legs_of train_of with_join with_signal with_legs with_train any_below is_closed
unrefused = refl

abbrev last-line : Due
last-line = record { text = bytes "2\t3\t2\t0\t+\n"; next = From 8 }

last-due : (due yard_a figs_a sets_a (From 3) ≡ some last-line) × (has_figure figs_a (start_code yard_a) ≡ true) × (length last-line.text ≡ 10)
unfolding bytes lowest line_for spell line digits code_of sum_below which_below list_below sections_in start_code train_of with_join with_signal with_legs with_train
last-due = (refl, refl, refl)

module _ (w : Wrote) (rule : EmitRule yard_a figs_a sets_a (From 3) (replicate 9 7) w) where
  nine-short : w.answer ≡ EmitRefused Space
  nine-short = (rule.space unrefused).1 (record { planned = last-due.1; line = last-line; is-due = last-due.0; shorter = omega (arith, last-due.2) })

  only-space : (f : Refusal) → w.answer ≡ EmitRefused f → f ≡ Space
  only-space f = rule.others f unrefused

  short-leaves : w.buffer ≡ replicate 9 7
  short-leaves = rule.leaves (ap is_line nine-short)

module _ (w : Wrote) (rule : EmitRule yard_a figs_a sets_a (From 3) (replicate 12 7) w) where
  twelve-enough : ¬ (w.answer ≡ EmitRefused Space)
  twelve-enough e =
      let x = (rule.space unrefused).0 e in
      let z : x.line ≡ last-line = some_one (sym x.is-due ∙ last-due.0) in
      let l : length x.line.text ≡ 10 = ap (λ (d : Due). length d.text) z ∙ last-due.2 in
      omega (arith, x.shorter)

  reaches : (n : ℕ) (next : PlanPlace) → w.answer ≡ Line n next → n ≤ 12
  reaches n next e = rule.fits n next e

  leaves-two : (next : PlanPlace) → w.answer ≡ Line 10 next → drop 10 w.buffer ≡ 7 ∷ 7 ∷ []
  leaves-two next e = rule.past 10 next e

  twelve-long : length w.buffer ≡ 12
  twelve-long = rule.as_long

-- THE CHECKER'S RULE. What a line for (2, 1) may change in tables of ten entries, and a first line.
abbrev line_a : PlacementLine
line_a = record { sections = 1 ∷ 0 ∷ []; figure = 1; opens = true ∷ false ∷ []; plus = false ∷ [] }

abbrev begun : Checking
begun = record { state = Begun 2 0; figs = replicate 10 9; sets = replicate 10 8 }

spelled : Spells yard_a (bytes "2\t1\t1\t1\t-\n") (placement_line line_a) × Spells yard_a (bytes "plan\t2\n") (start_line 2) × (line_code yard_a line_a ≡ 1) × (line_entry yard_a line_a ≡ 65536)
unfolding bytes fits all spell line digits which_below code_of sum_below from_bits entry_from with_join with_signal with_legs with_train
spelled = (record { fit = refl; spelled = refl }, record { fit = refl; spelled = refl }, refl, refl)

module _ (x : Left LineAnswer) (change : LineChanges yard_a begun (bytes "2\t1\t1\t1\t-\n") x) where
  last-kept : (get_or x.checking.figs 9 0 ≡ 9) × (length x.checking.figs ≡ 10) × (get_or x.checking.sets 9 0 ≡ 8) × (length x.checking.sets ≡ 10)
  unfolding with_join with_signal with_legs with_train
  last-kept = (change.kept-figs.past 9 (omega arith), change.kept-figs.as_long, change.kept_sets.past 9 (omega arith), change.kept_sets.as_long)

  others-kept : (get_or x.checking.figs 7 0 ≡ 9) × (get_or x.checking.sets 7 0 ≡ 8)
  others-kept = change.other-codes line_a spelled.0 7 (λ e. omega (arith, spelled.2))

  entered_so : x.answer ≡ Taken → (get_or x.checking.figs 1 0 ≡ 1) × (get_or x.checking.sets 1 0 ≡ 65536)
  entered_so e = let y = change.own_code line_a spelled.0 e in (rw spelled.2 at y.0, (rw spelled.2 at y.1) ∙ spelled.3)

-- so a call for that line, whatever it answers, leaves what stands at (2, 3)
call-keeps : (a : LineAnswer) (c' : Checking) → LinePost yard_a begun (bytes "2\t1\t1\t1\t-\n") a c' → (get_or c'.figs 7 0 ≡ 9) × (get_or c'.sets 7 0 ≡ 8)
call-keeps a c' p = rw p.checking (others-kept (take_line yard_a begun (bytes "2\t1\t1\t1\t-\n")) ((check-rule yard_a begun).line-changes (bytes "2\t1\t1\t1\t-\n")))

first-changes : (x : Left LineAnswer) → LineChanges yard_a begun (bytes "plan\t2\n") x → (x.checking.figs ≡ replicate 10 9) × (x.checking.sets ≡ replicate 10 8)
first-changes x change = change.first-line 2 spelled.1

-- Of calls with any state and any text: with tables too short each gives 9; with nine entries a line is refused as plan form only, and the test as plan form
-- exactly before the first line, else as plan fault only.
module _ (c : Checking) (eight : length c.figs ≡ 8) where
  too_short : tables_short yard_a c.figs c.sets ≡ true
  unfolding tables_short
  too_short = or_left (ltb (length c.figs) (placements yard_a)) (ltb (length c.sets) (placements yard_a)) (lt-ltb (length c.figs) (placements yard_a) (omega (arith, nine)))

  short : case_refusal yard_a c.figs c.sets ≡ some Space
  short = case-accepted yard_a c.figs c.sets yard_a-accepted ∙ rw too_short

  line-space : (text : List ℕ) (a : LineAnswer) (c' : Checking) → LinePost yard_a c text a c' → a ≡ LineRefused Space
  line-space text a c' p = p.answer ∙ (check-rule yard_a c).line_first text Space short

  test-space : (a : TestAnswer) (c' : Checking) → TestPost yard_a c a c' → a ≡ TestRefused Space
  test-space a c' p = p.answer ∙ (check-rule yard_a c).test-first Space short

module _ (c : Checking) (nine-figs : length c.figs ≡ 9) (nine-sets : length c.sets ≡ 9) where
  enough : case_refusal yard_a c.figs c.sets ≡ none
  enough = none-refused yard_a c.figs c.sets yard_a-accepted (omega (arith, nine)) (omega (arith, nine))

  line-form : (text : List ℕ) (f : Refusal) (c' : Checking) → LinePost yard_a c text (LineRefused f) c' → f ≡ PlanForm
  line-form text f c' p = (check-rule yard_a c).line-others text f enough (sym p.answer)

  early-form : (a : TestAnswer) (c' : Checking) → TestPost yard_a c a c' → c.state ≡ Fresh → a ≡ TestRefused PlanForm
  early-form a c' p e = p.answer ∙ ((check-rule yard_a c).test-early enough).1 e

  begun-fault : (f : Refusal) (c' : Checking) → TestPost yard_a c (TestRefused f) c' → c.state ≡ Begun 2 8 → f ≡ PlanFault
  begun-fault f c' p e = elim ((check-rule yard_a c).test-others f enough (sym p.answer)) [
    | inr g ↦ g
    | inl g ↦ differ is_fresh (sym (((check-rule yard_a c).test-early enough).0 (sym p.answer ∙ ap (λ (h : Refusal). TestRefused h) g)) ∙ e) (λ z. omega arith)
  ]

-- A PLAN BY ANOTHER MAKER, with other figures than the least: what is said of the calls for its lines, whatever was answered and left.
abbrev other_lines : List PlacementLine
other_lines =
    record { sections = 1 ∷ 0 ∷ []; figure = 8; opens = true ∷ false ∷ []; plus = false ∷ [] }
    ∷ record { sections = 2 ∷ 0 ∷ []; figure = 7; opens = false ∷ false ∷ []; plus = true ∷ [] }
    ∷ record { sections = 1 ∷ 2 ∷ []; figure = 9; opens = false ∷ false ∷ []; plus = true ∷ [] }
    ∷ []

abbrev pub other_texts : String → List (List ℕ)
other_texts first = bytes first ∷ bytes "2\t1\t8\t1\t-\n" ∷ bytes "3\t1\t7\t0\t+\n" ∷ bytes "2\t3\t9\t0\t+\n" ∷ []

forms : Form yard_a (other_texts "plan\t9\n") 9 other_lines × Form yard_a (other_texts "plan\t8\n") 8 other_lines
    × (test_holds yard_a 9 (by_lines yard_a other_lines) ≡ true) × (test_holds yard_a 8 (by_lines yard_a other_lines) ≡ false)
unfolding bytes all rises spell line digits fits all_below any_below sum_below which_below list_below code_of test_holds
    placement_passes listed_setting line_on keeps_test sections_in stands_on start_code at_home shared heads_for held may_move
    signal_open free passes follow occupied move_of end_at joined_by joined has_signal train_of weight_of with_join with_signal
    with_legs with_train entered is_closed
forms = (record { spelled = refl; fit = refl; rising = refl }, record { spelled = refl; fit = refl; rising = refl }, refl, refl)

passed : Test yard_a 9 (by_lines yard_a other_lines)
passed = (tested yard_a (by_lines yard_a other_lines) 9).0 forms.2

pub other-passes : Passing yard_a (other_texts "plan\t9\n")
other-passes = record { start = 9; lines = other_lines; form = forms.0; holds = passed }

unpassed : ¬ (Test yard_a 8 (by_lines yard_a other_lines))
unpassed t = clash ((tested yard_a (by_lines yard_a other_lines) 8).1 t) forms.3

pub other-fails : Failing yard_a (other_texts "plan\t8\n")
other-fails = record { start = 8; lines = other_lines; form = forms.1; holds = unpassed }

-- the first does not fail, and the second does not pass: texts are in form for one plan only
few-sections : yard_a.sections < no_figure
unfolding with_join with_signal with_legs with_train
few-sections = omega arith

pub other-not-failing : ¬ (Failing yard_a (other_texts "plan\t9\n"))
other-not-failing f =
    let o = form-one yard_a few-sections (other_texts "plan\t9\n") f.start 9 f.lines other_lines f.form forms.0 in
    (rw (o.start, o.lines) at f.holds) passed

pub other-not-passing : ¬ (Passing yard_a (other_texts "plan\t8\n"))
other-not-passing p =
    let o = form-one yard_a few-sections (other_texts "plan\t8\n") p.start 8 p.lines other_lines p.form forms.1 in
    unpassed (rw (o.start, o.lines) at p.holds)

module _ (answers : List LineAnswer) (taken : List (List ℕ)) (end : Checking) (k : Checked yard_a (other_texts "plan\t9\n") answers taken end) where
  all-taken : taken ≡ other_texts "plan\t9\n"
  all-taken = k.whole (record { start = 9; lines = other_lines; form = forms.0; holds = tt })

  passes-other : (test_plan yard_a end).answer ≡ Pass
  passes-other = k.passes.1 (rw all-taken other-passes)

  no-fault : ¬ ((test_plan yard_a end).answer ≡ TestRefused PlanFault)
  no-fault e = other-not-failing (rw all-taken at (k.faulty.0 e))

  not-early : ¬ ((test_plan yard_a end).answer ≡ TestRefused PlanForm)
  not-early e = let z : other_texts "plan\t9\n" ≡ [] = sym all-taken ∙ k.early.0 e in let y : ◌≡◌ {A = ℕ} 0 1 = cc in omega arith

  four-answers : length answers ≡ 4
  four-answers = k.answered

  no-number-else : (f : Refusal) → Memᴰ (LineRefused f) answers → f ≡ PlanForm
  no-number-else f i = elim (k.others (LineRefused f) i) [ inl e ↦ differ is_taken_no e (λ z. omega arith) | inr e ↦ cc ]

module _ (answers : List LineAnswer) (taken : List (List ℕ)) (end : Checking) (k : Checked yard_a (other_texts "plan\t8\n") answers taken end) where
  all-in-form : taken ≡ other_texts "plan\t8\n"
  all-in-form = k.whole (record { start = 8; lines = other_lines; form = forms.1; holds = tt })

  faults-other : (test_plan yard_a end).answer ≡ TestRefused PlanFault
  faults-other = k.faulty.1 (rw all-in-form other-fails)

  no-pass : ¬ ((test_plan yard_a end).answer ≡ Pass)
  no-pass e = other-not-passing (rw all-in-form at (k.passes.0 e))

-- before any line the test is refused as plan form
early-other : (answers : List LineAnswer) (end : Checking) → Checked yard_a [] answers [] end → (test_plan yard_a end).answer ≡ TestRefused PlanForm
early-other answers end k = k.early.1 refl

-- behind the first line: the next is taken, and a text that is no line is not
firsts : Form yard_a (bytes "plan\t9\n" ∷ []) 9 [] × Form yard_a (bytes "plan\t9\n" ∷ bytes "2\t1\t8\t1\t-\n" ∷ []) 9
    (record { sections = 1 ∷ 0 ∷ []; figure = 8; opens = true ∷ false ∷ []; plus = false ∷ [] } ∷ [])
    × (read_line yard_a (bytes "2\t3") ≡ none)
unfolding bytes all rises spell line digits fits all_below any_below sum_below which_below list_below code_of any read_line guess fields value_of same_text with_join with_signal with_legs with_train
firsts = (record { spelled = refl; fit = refl; rising = refl }, record { spelled = refl; fit = refl; rising = refl }, refl)

no_line : (texts : List (List ℕ)) → ¬ (Last yard_a texts (bytes "2\t3"))
unfolding with_join with_signal with_legs with_train
no_line texts (only m e f g) = some-none ((reads-line yard_a (omega arith) (bytes "2\t3") (start_line m)).1 (record { fit = g; spelled = sym f })) firsts.2
no_line texts (more m ds d f g h i) = some-none ((reads-line yard_a (omega arith) (bytes "2\t3") (placement_line d)).1 (record { fit = h; spelled = sym g })) firsts.2

module _ (answers : List LineAnswer) (taken : List (List ℕ)) (end : Checking) (k : Checked yard_a (bytes "plan\t9\n" ∷ []) answers taken end) where
  first_taken : taken ≡ bytes "plan\t9\n" ∷ []
  first_taken = k.whole (record { start = 9; lines = []; form = firsts.0; holds = tt })

  next-taken : is_taken (take_line yard_a end (bytes "2\t1\t8\t1\t-\n")).answer ≡ true
  next-taken =
      (k.more (bytes "2\t1\t8\t1\t-\n")).1 (rw first_taken (record {
        start = 9;
        lines = record {
          sections = 1 ∷ 0 ∷ [];
          figure = 8;
          opens = true ∷ false ∷ [];
          plus = false ∷ [];
        } ∷ [];
        form = firsts.1;
        holds = tt;
      }))

  half-not : is_taken (take_line yard_a end (bytes "2\t3")).answer ≡ false
  half-not = not-true (is_taken (take_line yard_a end (bytes "2\t3")).answer) (λ e. no_line taken (form-last yard_a taken (bytes "2\t3") ((k.more (bytes "2\t3")).0 e)))

-- A PLAN THAT PASSES CAN BE FOLLOWED: home within 2 from the start of Yard A, whatever is listed, against every choice of trains.
followed : (L : Listing) → Test yard_a 2 L → (c : Adversary Setting) → HomeWithin (game_of yard_a) (following (listed_setting yard_a L)) c 7 2
unfolding start_code code_of sum_below list_below train_of with_join with_signal with_legs with_train
followed L t c = plan-works yard_a yard_a-accepted 2 L t c

-- FRESH TABLES: eight entries are too few for Yard A, which is number 9, and both tables stay as they were
pub fresh_kept : (a : CaseAnswer) (c : Checking) → FreshPost yard_a (replicate 8 5) (replicate 9 6) a c → (caseNumber a ≡ some 9) × (c.figs ≡ replicate 8 5) × (c.sets ≡ replicate 9 6)
unfolding case_refusal tables_short first weight_row weight_of unknown_row join_row loose_row chain_row longer place_row end_at
    joined_by joined has_signal legs_of train_of with_join with_signal with_legs with_train any_below is_closed
fresh_kept a c p = (p.numbered, ap (λ (x : Checking). x.figs) p.checking, ap (λ (x : Checking). x.sets) p.checking)

-- WITH ALL WEIGHTS 1, as Yard A has them: whoever says that plans are as before says that the plan by another maker passes the test in turns, and does not with another
-- first line, and that all tables with figures in turns make Yard A's plan.
module _ (says : PlanAsBefore yard_a) where
  passes-in-turns : TestInTurns yard_a 9 (by_lines yard_a other_lines)
  passes-in-turns = (says.tested 9 (by_lines yard_a other_lines)).0 passed

  fails-in-turns : ¬ (TestInTurns yard_a 8 (by_lines yard_a other_lines))
  fails-in-turns t = unpassed ((says.tested 8 (by_lines yard_a other_lines)).1 t)

  plan-in-turns : (figs sets : List ℕ) → FilledInTurns yard_a figs sets → plan_texts yard_a figs sets ≡ lines_a
  plan-in-turns figs sets f = sym (says.texts figs_a sets_a figs sets yard_a-filled f) ∙ computed.1

-- and so it is
as-before-there : (figs sets : List ℕ) → FilledInTurns yard_a figs sets → plan_texts yard_a figs sets ≡ lines_a
as-before-there = plan-in-turns (plans-as-before yard_a yard_a-accepted yard-ones)
