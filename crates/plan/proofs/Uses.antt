-- Demand 3 at work. Of any solver's answer and any two tables of which the one statement holds in Yard A, each of its fields, and nothing else, gives a
-- number, a play, a text or an answer of the checker; where there is no plan, of the yard with trains head on. So a field that were taken away, or that said
-- nothing, would be missed. Code 7 is (2, 3), the start; 6 is (1, 3), and 0 is (1, 1), which have no figure. Assumes nothing.
use mathlib.Core.Path.{◌≡◌, refl, sym, ◌∙◌, ap}
use mathlib.Core.Bool.{true, false}
use mathlib.Core.List.{List, [], ◌∷◌, ◌++◌, map, flatten, append-nil}
use mathlib.Core.Option.{none, some}
use Prim.Native.Nat.{ℕ, zero, suc, ◌≤◌, ◌<◌}
use native.Mathlib.Omega.{arith}
use lib.ListN.{length, get_or, replicate}
use Rattle.laws.specs.Below.{all_below, any_below, sum_below, which_below, list_below}
use Rattle.laws.specs.Lists.{any, all}
use Rattle.laws.proofs.Bools.{clash, some-none, some_one}
use Rattle.text.specs.Text.{digits, line, bytes}
use Rattle.text.specs.Reading.{fields, value_of, same_text}
use Rattle.railway.specs.CaseAnswer.{CaseAnswer}
use Rattle.railway.specs.Ends.{end_at}
use Rattle.railway.specs.Refusals.{first}
use Rattle.railway.specs.Record.{is_closed, joined_by, joined, has_signal, legs_of, train_of, weight_of, with_join, with_signal, with_legs, with_train}
use Rattle.railway.specs.Rows.{weight_row, unknown_row, join_row, loose_row, longer, chain_row, place_row}
use Rattle.railway.specs.Yards.{yard_a, head_on}
use Rattle.game.specs.Game.{Game, Strategy, Adversary, lost_by_move, standing, following, positional, may, over, step, play, home_at, HomeWithin, ComesHome, Position}
use Rattle.game.specs.Placement.{code_of, sections_in, stands_on, start_code, at_home, shared}
use Rattle.game.specs.Setting.{Setting, SameSetting, heads_for, held, may_move, free, signal_open}
use Rattle.game.specs.Moves.{game_of}
use Rattle.game.specs.ByTurns.{HomeInTurns}
use Rattle.game.proofs.Local.{home-over, may-train}
use Rattle.game.proofs.Figures.{figure-one, ended}
use Rattle.game.proofs.Setting.{agreeing-alike}
use Rattle.game.proofs.ByTurns.{one-as-before}
use Rattle.game.proofs.Inhabited.{yard-ones}
use Rattle.game_tables.specs.SolverAnswer.{SolverAnswer, Refused, Unsolvable, Figure}
use Rattle.game_tables.specs.Tables.{figure_in, setting_in, tables_short, Filled}
use Rattle.game_tables.specs.Solver.{number_given, figure_given}
use Rattle.game_tables.proofs.Unique.{sets-one}
use Rattle.game_tables.proofs.KnownYards.{figs_a, sets_a, yard_a-accepted, yard_a-filled, head_on-filled}
use Rattle.plan.specs.declared.PlanPlace.{PlanPlace}
use Rattle.plan.specs.declared.PlanPlace.TheVariants.{Top}
use Rattle.plan.specs.Emitted.{Emitted, End, NoPlan}
use Rattle.plan.specs.LineAnswer.{LineAnswer}
use Rattle.plan.specs.FrontAnswer.{Took}
use Rattle.plan.specs.TestAnswer.{TestAnswer, Pass}
use Rattle.plan.specs.Lines.{spell, fits}
use Rattle.plan.specs.Text.{plan_texts, plan_text}
use Rattle.plan.specs.Reading.{guess, read_line}
use Rattle.plan.specs.Checker.{Checking, take_line, LineCalls, call_lines, is_taken}
use Rattle.plan.specs.Promises.{EmitterPost, TestPost, FreshPost}
use Rattle.plan.specs.Several.{EmitLinesPost}
use Rattle.plan.specs.Calls.{Emission, Emitting, EmittingInto, long_enough, Taking, Writing, EmittingLines, FrontCalls, TakingFronts}
use Rattle.plan.specs.EndToEnd.{Handed, own_texts, others_refused, front_text, own_bytes, others_left, EndToEnd}
use Rattle.plan.proofs.Calls.{taking-one, call_fronts, fronts-one}
use Rattle.plan.proofs.Text.{texts-one}
use Rattle.plan.proofs.Inhabited.{nine, lent, buffers, widest, lines_a, text_a, handed, handed_fronts, wider, made_fresh, made-fresh, computed}

-- a play that is home stays there
home_stays : {S : Type 0} (g : Game S) (w : Strategy S) (c : Adversary S) (x : Position S) → home_at g x ≡ true → home_at g (step g w c x) ≡ true
home_stays g w c lost_by_move e = clash e refl
home_stays g w c (standing h p) e = let o : over g p ≡ true = home-over (g.is_lost p) (g.is_home p) e in rw o e

abbrev shut : Setting
shut = record { plus = λ n. false; is_open = λ i. false }

-- an answer without a number and without a figure is the verdict none; one without a number and with a figure is that figure
unsolvable : (a : SolverAnswer) → number_given a ≡ none → figure_given a ≡ none → a ≡ Unsolvable
unsolvable (Refused f) e g = some-none refl e
unsolvable Unsolvable e g = refl
unsolvable (Figure n) e g = some-none refl g

has-figure : (a : SolverAnswer) (m : ℕ) → number_given a ≡ none → figure_given a ≡ some m → a ≡ Figure m
has-figure (Refused f) m e g = some-none refl e
has-figure Unsolvable m e g = some-none g refl
has-figure (Figure n) m e g = ap (λ (x : ℕ). Figure x) (some_one g)

-- texts of the plan alone, and behind an empty text, which a checker that has taken nothing refuses
abbrev mine : List ℕ → Handed
mine l = record { own = true; text = l }

abbrev behind_empty : List (List ℕ) → List Handed
behind_empty ls = record { own = false; text = [] } ∷ map mine ls

own-are : (ls : List (List ℕ)) → own_texts (map mine ls) ≡ ls
unfolding own_texts
own-are [] = refl
own-are (l ∷ ls) = ap (λ (xs : List (List ℕ)). l ∷ xs) (own-are ls)

none_other : (ls : List (List ℕ)) (answers : List LineAnswer) → others_refused (map mine ls) answers ≡ true
unfolding others_refused
none_other [] answers = refl
none_other (l ∷ ls) [] = refl
none_other (l ∷ ls) (x ∷ answers) = none_other ls answers

empty-out : is_taken (take_line yard_a made_fresh []).answer ≡ false
unfolding bytes take_line tables_short first weight_row weight_of unknown_row join_row loose_row chain_row longer place_row end_at
    joined_by joined has_signal legs_of train_of with_join with_signal with_legs with_train any_below list_below any all read_line
    guess fields value_of same_text spell line digits fits which_below is_closed
empty-out = refl

-- YARD A
module _ (a : SolverAnswer) (figs sets : List ℕ) (d : EndToEnd yard_a a figs sets) where
  -- `plays.figures`: 2 at (2, 3), none at (1, 3)
  same-figure : (p : ℕ) → p < 9 → figure_in figs p ≡ figure_in figs_a p
  same-figure p l = figure-one (game_of yard_a) p (figure_in figs p) (figure_in figs_a p) (d.plays.figures p (omega (arith, nine))) (yard_a-filled.figures p (omega (arith, nine)))

  figure-two : figure_in figs 7 ≡ some 2
  figure-two = same-figure 7 (omega arith)

  figure-none : figure_in figs 6 ≡ none
  figure-none = same-figure 6 (omega arith)

  at-start : figure_in figs (start_code yard_a) ≡ some 2
  unfolding start_code code_of sum_below list_below train_of with_join with_signal with_legs with_train
  at-start = figure-two

  -- `solved` and `answer`: figure 2
  answers-two : a ≡ Figure 2
  answers-two = has-figure a 2 d.solved (d.answer ∙ at-start)

  -- `settings`: at (2, 3) the point at plus, and no bit besides
  filled : Filled yard_a figs sets
  filled = record { figures = d.plays.figures; settings = d.settings }

  entry-one : get_or sets 7 0 ≡ 1
  entry-one = sets-one yard_a yard_a-accepted figs sets figs_a sets_a filled yard_a-filled 7 (omega (arith, nine))

  -- `plays.follow`: who follows the setting table from (2, 3) is home behind the second turn, whatever the choice of trains
  home-in-two : (c : Adversary Setting) → home_at (game_of yard_a) (play (game_of yard_a) (following (setting_in yard_a sets)) c 7 2) ≡ true
  unfolding play at_home shared stands_on sections_in all_below any_below train_of with_join with_signal with_legs with_train
  home-in-two c =
      let h : HomeInTurns (game_of yard_a) (following (setting_in yard_a sets)) c 7 2 =
      ((one-as-before Setting (game_of yard_a) yard-ones).within (following (setting_in yard_a sets)) c 7 2).0 (d.plays.follow 7 2 (omega (arith, nine)) figure-two c) in
      go h.0 h.1 h.2
    where
      go : (m : ℕ) → m ≤ 2 → home_at (game_of yard_a) (play (game_of yard_a) (following (setting_in yard_a sets)) c 7 m) ≡ true
          → home_at (game_of yard_a) (play (game_of yard_a) (following (setting_in yard_a sets)) c 7 2) ≡ true
      go zero l e = clash e refl
      go (suc zero) l e = home_stays (game_of yard_a) (following (setting_in yard_a sets)) c (play (game_of yard_a) (following (setting_in yard_a sets)) c 7 1) e
      go (suc (suc zero)) l e = e
      go (suc (suc (suc m))) l e = absurd (omega arith)

  -- `plays.not-sooner`: no way is home within 1 against every choice
  not-in-one : (w : Strategy Setting) → ¬ ((c : Adversary Setting) → HomeWithin (game_of yard_a) w c 7 1)
  not-in-one w h = let x = d.plays.not-sooner w 7 2 (omega (arith, nine)) figure-two in x.1 1 (omega arith) (h x.0)

  -- `plays.none-exactly`: no way comes home from (1, 3) against every choice; and (1, 1) has no figure, for a play that starts there has ended
  none-home : (w : Strategy Setting) → ¬ ((c : Adversary Setting) → ComesHome (game_of yard_a) w c 6)
  none-home w = (d.plays.none-exactly 6 (omega (arith, nine))).0 figure-none w

  shared-none : figure_in figs 0 ≡ none
  unfolding at_home shared stands_on sections_in all_below any_below train_of with_join with_signal with_legs with_train
  shared-none = (d.plays.none-exactly 0 (omega (arith, nine))).1 (λ w home. clash (home (λ h p s. 0)).1 (let e = ended (game_of yard_a) w (λ h p s. 0) 0 refl (home (λ h p s. 0)).0 in rw e))

  -- `plays.one-adversary`: at (2, 3) with all signals closed it names train 2, the only one that may move; at (2, 1), where none may, one that is there; the
  -- same under all settings that agree in the yard; and it wins from (1, 3) against every way
  names-two : d.plays.one-adversary.named 7 shut ≡ 1
  unfolding may_move signal_open free held heads_for stands_on sections_in train_of has_signal with_join with_signal with_legs with_train
  names-two = go (d.plays.one-adversary.named 7 shut) (d.plays.one-adversary.moves 7 shut 1 refl)
    where
      go : (t : ℕ) → may (game_of yard_a) 7 shut t ≡ true → t ≡ 1
      go zero e = clash e refl
      go (suc zero) e = refl
      go (suc (suc t)) e = absurd (omega (arith, may-train (game_of yard_a) 7 shut (suc (suc t)) e))

  names-there : d.plays.one-adversary.named 1 shut < 2
  unfolding with_join with_signal with_legs with_train
  names-there = d.plays.one-adversary.there 1 shut (omega arith)

  names-alike : (s : Setting) → SameSetting yard_a shut s → d.plays.one-adversary.named 7 s ≡ 1
  names-alike s same = sym (d.plays.one-adversary.alike 7 shut s (agreeing-alike yard_a yard_a-accepted shut s same 7)) ∙ names-two

  never-home : (w : Strategy Setting) (m : ℕ) → home_at (game_of yard_a) (play (game_of yard_a) w (positional d.plays.one-adversary.named) 6 m) ≡ false
  never-home w = d.plays.one-adversary.beats w 6 (omega (arith, nine)) figure-none

  -- THE EMITTER. Its plan has the four lines written out.
  lines_are : plan_texts yard_a figs sets ≡ lines_a
  lines_are = texts-one yard_a yard_a-accepted figs sets figs_a sets_a filled yard_a-filled ∙ computed.1

  abbrev four : Emission
  four = record { lines = lines_a; last = some End }

  -- `emits`: into five buffers of ten bytes the calls write those lines, and end
  writes-four : (e : Emission) → Emitting yard_a figs sets Top buffers e → e ≡ four
  writes-four e calls = d.emits 2 at-start buffers e calls (rw lines_are computed.2) ∙ ap (λ (ls : List (List ℕ)). record { lines = ls; last = some End }) lines_are

  -- `room`: five buffers of 45 bytes are long enough for them
  long-enough : long_enough lines_a (replicate 5 widest) ≡ true
  unfolding all
  long-enough = rw lines_are at (d.room 2 at-start (replicate 5 widest) refl (rw lines_are (omega arith)))

  -- `emits-into`: so is one of 45 bytes for all
  writes-into : (e : Emission) → EmittingInto yard_a figs sets Top widest e → e ≡ four
  writes-into e calls = d.emits-into 2 at-start widest e calls (omega arith) ∙ ap (λ (ls : List (List ℕ)). record { lines = ls; last = some End }) lines_are

  -- `emits-lines`: calls for several lines each, into that buffer, write the text of those lines, and end
  text-is : plan_text yard_a figs sets ≡ text_a
  text-is = ap flatten lines_are ∙ computed.8

  writes-text : (buffer : List ℕ) (w : Writing) → EmittingLines yard_a figs sets Top buffer w → 45 ≤ length buffer → w ≡ record { text = text_a; last = End }
  writes-text buffer w calls long = d.emits-lines 2 at-start buffer w calls long ∙ ap (λ (t : List ℕ). record { text = t; last = End }) text-is

  -- THE CHECKER, from two tables of 9 and 12 entries made fresh
  module _ (made : CaseAnswer) (c : Checking) (fresh : FreshPost yard_a lent wider made c) (test : TestAnswer) (c' : Checking) where
    is-fresh : c ≡ made_fresh
    is-fresh = made-fresh made c fresh

    -- `checks`: of the plan's lines with four others among them it takes those of the plan, and the test, whatever it answers, answers pass
    module _ (u : LineCalls) (calls : Taking yard_a c (map (λ h. h.text) handed) u) (tested : TestPost yard_a u.end test c') where
      others : others_refused handed u.answers ≡ true
      others = let s : u ≡ call_lines yard_a (map (λ h. h.text) handed) made_fresh = rw is-fresh at (taking-one yard_a c (map (λ h. h.text) handed) u calls) in rw s computed.3

      takes-own : map is_taken u.answers ≡ false ∷ true ∷ false ∷ true ∷ true ∷ false ∷ true ∷ false ∷ []
      takes-own = (d.checks 2 at-start lent wider made c (omega (arith, nine)) (omega (arith, nine)) fresh handed u calls (computed.0 ∙ sym lines_are) others test c' tested).taken

      passes : test ≡ Pass
      passes = (d.checks 2 at-start lent wider made c (omega (arith, nine)) (omega (arith, nine)) fresh handed u calls (computed.0 ∙ sym lines_are) others test c' tested).passes

    -- `chain`: whatever lines the emitter's calls gave are handed on behind an empty text; the calls have come to the end, and the test answers pass
    module _ (buffer : List ℕ) (e : Emission) (emitted : EmittingInto yard_a figs sets Top buffer e) (long : 45 ≤ length buffer)
        (u : LineCalls) (calls : Taking yard_a c (map (λ h. h.text) (behind_empty e.lines)) u) (tested : TestPost yard_a u.end test c') where
      empty-refused : others_refused (behind_empty e.lines) u.answers ≡ true
      unfolding call_lines others_refused
      empty-refused =
          let s : u ≡ call_lines yard_a (map (λ h. h.text) (behind_empty e.lines)) made_fresh =
          rw is-fresh at (taking-one yard_a c (map (λ h. h.text) (behind_empty e.lines)) u calls) in
          rw (s, empty-out) (none_other e.lines (call_lines yard_a (map (λ h. h.text) (map mine e.lines)) (take_line yard_a made_fresh []).checking).answers)

      handed-on : (e.last ≡ some End) × (test ≡ Pass)
      unfolding own_texts
      handed-on =
          let x =
          d.chain 2 at-start buffer e emitted long lent wider made c (omega (arith, nine)) (omega (arith, nine))
          fresh (behind_empty e.lines) u calls (own-are e.lines) empty-refused test c' tested in
          (x.0, x.1.passes)

    -- `checks-fronts`: of two texts with the plan's lines in front it takes 17 and 20 bytes, and the test answers pass
    module _ (u : FrontCalls) (calls : TakingFronts yard_a c (map front_text handed_fronts) u) (tested : TestPost yard_a u.end test c') where
      left_over : others_left handed_fronts u.answers ≡ true
      left_over = let s : u ≡ call_fronts yard_a (map front_text handed_fronts) made_fresh = rw is-fresh at (fronts-one yard_a c (map front_text handed_fronts) u calls) in rw s computed.11

      takes-fronts : (u.answers ≡ Took 17 ∷ Took 20 ∷ []) × (test ≡ Pass)
      unfolding bytes
      takes-fronts =
          let x = d.checks-fronts 2 at-start lent wider made c (omega (arith, nine)) (omega (arith, nine)) fresh
          handed_fronts u calls (computed.9 ∙ sym text-is) computed.10 left_over test c' tested in
          (x.taken, x.passes)

    -- `chain-lines`: whatever text the emitter's calls gave is handed on as one; the calls have come to the end, all 37 bytes are taken, and the test answers pass
    module _ (buffer : List ℕ) (w : Writing) (emitted : EmittingLines yard_a figs sets Top buffer w) (long : 45 ≤ length buffer)
        (u : FrontCalls) (calls : TakingFronts yard_a c (map front_text (record { own = w.text; other = [] } ∷ [])) u) (tested : TestPost yard_a u.end test c') where
      text-given : w.text ≡ text_a
      text-given = ap (λ (x : Writing). x.text) (writes-text buffer w emitted long)

      all_own : others_left (record { own = w.text; other = [] } ∷ []) u.answers ≡ true
      all_own =
          let s : u ≡ call_fronts yard_a ((w.text ++ []) ∷ []) made_fresh = rw is-fresh at (fronts-one yard_a c ((w.text ++ []) ∷ []) u calls) in
          rw (s, append-nil w.text, text-given) computed.12

      text-handed-on : (w.last ≡ End) × (u.answers ≡ Took 37 ∷ []) × (test ≡ Pass)
      unfolding bytes own_bytes all
      text-handed-on =
          let x = d.chain-lines 2 at-start buffer w emitted long lent wider made c
          (omega (arith, nine)) (omega (arith, nine)) fresh (record { own = w.text; other = [] } ∷ []) u calls
          (append-nil w.text) (rw (text-given, computed.13) refl) all_own test c' tested in
          (x.0, x.1.taken ∙ ap (λ (t : List ℕ). Took (length t) ∷ []) text-given, x.1.passes)

-- WITHOUT A PLAN: in the yard with trains head on
module _ (a : SolverAnswer) (figs sets : List ℕ) (d : EndToEnd head_on a figs sets) where
  no-figure : figure_in figs (start_code head_on) ≡ none
  unfolding start_code code_of sum_below list_below train_of with_join with_signal with_legs with_train
  no-figure = figure-one (game_of head_on) 2 (figure_in figs 2) none (d.plays.figures 2 (omega arith)) (head_on-filled.1.figures 2 (omega arith))

  -- `solved` and `answer`: the verdict none
  answers-none : a ≡ Unsolvable
  answers-none = unsolvable a d.solved (d.answer ∙ no-figure)

  -- `emits_none`: every call answers that there is no plan, and leaves the buffer
  emits-no-plan : (place : PlanPlace) (b b' : List ℕ) (e : Emitted) → EmitterPost head_on figs sets place b e b' → (e ≡ NoPlan) × (b' ≡ b)
  emits-no-plan = d.emits_none no-figure

  -- `emits-lines-none`: those for several lines too
  emits-no-lines : (place : PlanPlace) (b b' : List ℕ) (e : Emitted) → EmitLinesPost head_on figs sets place b e b' → (e ≡ NoPlan) × (b' ≡ b)
  emits-no-lines = d.emits-lines-none no-figure
