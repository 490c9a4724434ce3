-- The statement on desks at work, most of it in Yard A with weights 5 and 2, whose figures are 0 at (3, 1), 5 at (2, 1) and 7 at (2, 3), codes 2, 1 and 7: from each of its parts
-- a number, a placement or an answer is drawn, so that a part that were taken away, or that said nothing, would be missed. Desks, replies, lists of reports and the tables that a
-- solver left are any of which it holds. Assumes nothing.
use mathlib.Core.Path.{◌≡◌, refl, sym, ◌∙◌, ap, subst}
use mathlib.Core.Logic.{inl, inr, ◌↔◌}
use mathlib.Core.Bool.{Bool, true, false, ◌||◌}
use mathlib.Core.List.{List, [], ◌∷◌, ◌++◌, map}
use mathlib.Core.Option.{Option, none, some}
use Prim.Native.Nat.{ℕ, zero, suc, ◌+◌, ◌≤◌, ◌<◌}
use native.Mathlib.Omega.{arith}
use lib.ListN.{length, get_or, replicate}
use lib.Seq.{get_or-set_same, get_or-set_other}
use borrow.Author.Tests.{eqb-true}
use Rattle.laws.specs.Below.{all_below, any_below, count_below, sum_below, list_below}
use Rattle.laws.proofs.Bools.{eq?, clash, some-none, either, or-none}
use Rattle.laws.proofs.Below.{all-at}
use Rattle.railway.specs.declared.Railway.{Railway}
use Rattle.railway.specs.declared.Refusal.{Refusal}
use Rattle.railway.specs.declared.Refusal.TheVariants.{Space, Report}
use Rattle.railway.specs.Bounds.{most_trains}
use Rattle.railway.specs.Ends.{end_at}
use Rattle.railway.specs.Refusals.{first}
use Rattle.railway.specs.Record.{is_closed, joined_by, joined, has_signal, legs_of, train_of, weight_of, with_join, with_signal, with_legs, with_train}
use Rattle.railway.specs.Passing.{follow, passes, entered}
use Rattle.railway.specs.Rows.{weight_row, unknown_row, join_row, loose_row, longer, chain_row, place_row}
use Rattle.railway.specs.Yards.{yard_one, head_on}
use Rattle.game.specs.Game.{Outcome, lost, at, Game, Turn, Strategy, Adversary, Position, lost_by_move, standing, following, may, mover, over, play, spent, IsFigure}
use Rattle.game.specs.Claim.{Keeps}
use Rattle.game.specs.Local.{keeps_test}
use Rattle.game.specs.Placement.{code_of, sections_in, stands_on, names_none, placements, start_code, arrived, at_home, shared}
use Rattle.game.specs.Setting.{Setting, heads_for, held, free, signal_open, may_move}
use Rattle.game.specs.Moves.{occupied, move_of, game_of}
use Rattle.game.proofs.Local.{may-train, mover-cases, test-keeps}
use Rattle.game.proofs.Figures.{figure-one}
use Rattle.game_tables.specs.SolverAnswer.{SolverAnswer}
use Rattle.game_tables.specs.Entries.{setting_at}
use Rattle.game_tables.specs.Tables.{no_figure, figure_in, setting_in, case_refusal, tables_short}
use Rattle.game_tables.specs.Solver.{SolverPost}
use Rattle.game_tables.proofs.Refusals.{case-none}
use Rattle.game_tables.proofs.Examples.{weighed, figs_w, sets_w}
use Rattle.game_tables.proofs.WeighedYards.{weighed-accepted, weighed-filled}
use Rattle.game_tables.proofs.KnownYards.{one-filled, head_on-filled}
use Rattle.game_placement.specs.declared.Placement.{Placement}
use Rattle.game_placement.specs.ByValue.{section_in}
use Rattle.desk.specs.OpenAnswer.{OpenAnswer, Opened, NoFigure, Refused as OpenRefused}
use Rattle.desk.specs.SettingAnswer.{SettingAnswer, Given, Refused as SettingRefused}
use Rattle.desk.specs.ReportAnswer.{ReportAnswer, Counted, Refused}
use Rattle.desk.specs.Desk.{Desk, desk_code, misplaced, arrivals, miscarries, desk_row, no_desk, Opening, open_desk}
use Rattle.desk.specs.Desk.{give_setting, present, allows, report_row, moved_desk, Reply, report, desk_given}
use Rattle.desk.specs.Desk.{setting_given, number_opening, number_setting, number_reported, OpenPost, SettingPost}
use Rattle.desk.specs.Desk.{ReportPost}
use Rattle.desk.specs.Following.{moved_by, Reporting, begun, call, refused, total, Movers, Played, MoveCounts}
use Rattle.desk.specs.Following.{Carries, AfterReports, RunsFrom, Followable, DeskRuns, Countable, Apart, AnyDesk}
use Rattle.desk.specs.Following.{DeskHolds}
use Rattle.desk.proofs.Examples.{on}
use Rattle.desk.proofs.Carrying.{sound-exactly}
use Rattle.desk.proofs.Placing.{placed-exactly}
use Rattle.desk.proofs.Following.{desk-holds}
use Rattle.desk.proofs.Inhabited.{Brought, brought, Homes, home-reached}

-- THE PROMISES. An opening with the solver's tables answers that the desk stands at the start, and has it there; with a figure table of 8 entries 9, and no desk.
opens : (x : Opening) → OpenPost weighed figs_w sets_w x → (number_opening x.answer ≡ none) × (x.answer ≡ Opened) × (x.desk ≡ on 2 3)
unfolding open_desk start_code code_of list_below sum_below tables_short first weight_row weight_of unknown_row join_row loose_row
    chain_row longer place_row end_at joined_by joined has_signal legs_of train_of with_join with_signal with_legs
    with_train any_below is_closed
opens x post = (post.numbered, ap (λ (w : Opening). w.answer) post.answers, ap (λ (w : Opening). w.desk) post.answers)

opens-short : (x : Opening) → OpenPost weighed (replicate 8 0) sets_w x → (number_opening x.answer ≡ some 9) × (x ≡ record { answer = OpenRefused Space; desk = no_desk })
unfolding open_desk start_code code_of list_below sum_below tables_short first weight_row weight_of unknown_row join_row loose_row
    chain_row longer place_row end_at joined_by joined has_signal legs_of train_of with_join with_signal with_legs
    with_train any_below is_closed
opens-short x post = (post.numbered, post.answers)

-- at (2, 1) the setting given is that train 1's signal is open; at (2, 2), where no two trains can be, 12, and 9 where a table is too short besides
gives : (a : SettingAnswer) → SettingPost weighed (on 2 1) figs_w sets_w a → (number_setting a ≡ none) × (a ≡ Given 65536)
unfolding give_setting misplaced miscarries arrivals count_below names_none shared stands_on sections_in code_of list_below
    sum_below tables_short first weight_row weight_of unknown_row join_row loose_row chain_row longer place_row end_at joined_by
    joined has_signal legs_of train_of with_join with_signal with_legs with_train any_below is_closed
gives a post = (post.numbered, post.answers)

gives_none : (a b : SettingAnswer) → SettingPost weighed (on 2 2) figs_w sets_w a → SettingPost weighed (on 2 2) (replicate 8 0) sets_w b
    → (number_setting a ≡ some 12) × (a ≡ SettingRefused Report) × (number_setting b ≡ some 9) × (b ≡ SettingRefused Space)
unfolding give_setting misplaced miscarries arrivals count_below names_none shared stands_on sections_in code_of list_below
    sum_below tables_short first weight_row weight_of unknown_row join_row loose_row chain_row longer place_row end_at joined_by
    joined has_signal legs_of train_of with_join with_signal with_legs with_train any_below is_closed
gives_none a b p q = (p.numbered, p.answers, q.numbered, q.answers)

-- at (2, 3) the report that train 2 has come to 1 counts, and the desk then has (2, 1); that train 1 has come to 3 gives 12, and leaves the desk
reports : (y z : Reply) → ReportPost weighed (on 2 3) figs_w sets_w 1 0 y → ReportPost weighed (on 2 3) figs_w sets_w 0 2 z
    → (number_reported y.answer ≡ none) × (y ≡ record { answer = Counted; desk = on 2 1 })
    × (number_reported z.answer ≡ some 12) × (z ≡ record { answer = Refused Report; desk = on 2 3 })
unfolding report report_row allows misplaced miscarries arrivals count_below names_none shared at_home occupied passes
    follow setting_at may_move free held signal_open heads_for stands_on sections_in code_of list_below sum_below tables_short
    first weight_row weight_of unknown_row join_row loose_row chain_row longer place_row end_at joined_by joined has_signal legs_of
    train_of with_join with_signal with_legs with_train any_below all_below is_closed
reports y z p q = (p.numbered, p.answers, q.numbered, q.answers)

-- What is computed of Yard A with weights: its counts, and what its plan does at (2, 3), where train 1 is held and train 2 comes to 1.
pub record Yard : Type 0 where
  pub two : weighed.trains ≡ 2
  pub three : weighed.sections ≡ 3
  pub nine : placements weighed ≡ 9
  five : weight_of weighed 0 ≡ 5
  weight-two : weight_of weighed 1 ≡ 2
  start : start_code weighed ≡ 7
  apart : shared weighed 7 ≡ false
  away : at_home weighed 7 ≡ false
  pub home : at_home weighed 2 ≡ true
  first-held : may (game_of weighed) 7 (setting_in weighed sets_w 7) 0 ≡ false
  second-may : may (game_of weighed) 7 (setting_in weighed sets_w 7) 1 ≡ true
  second-moves : move_of weighed 7 (setting_in weighed sets_w 7) 1 ≡ at 1

pub yard : Yard
unfolding start_code weight_of shared at_home move_of passes follow entered is_closed occupied setting_at may_move free held
    signal_open heads_for stands_on sections_in code_of list_below sum_below end_at joined_by joined has_signal train_of with_join
    with_signal with_legs with_train any_below all_below
yard =
    record {
      two = refl;
      three = refl;
      nine = refl;
      five = refl;
      weight-two = refl;
      start = refl;
      apart = refl;
      away = refl;
      home = refl;
      first-held = refl;
      second-may = refl;
      second-moves = refl;
    }

-- home, train 1 is on section 3
pub home-on-three : (p : ℕ) → at_home weighed p ≡ true → stands_on weighed p 0 ≡ 2
unfolding at_home train_of with_join with_signal with_legs with_train
home-on-three p e = eqb-true _ _ (all-at (arrived weighed p) 2 e 0 (omega arith))

-- where an outcome and a position are
abbrev placed : Outcome → ℕ
placed (lost l) = 99
placed (at q) = q

abbrev stand : Position Setting → ℕ
stand lost_by_move = 99
stand (standing h q) = q

-- the train that moved in a turn of a list
abbrev moved_in : List (Turn Setting) → ℕ → Option ℕ
moved_in h i = get_or (map (λ (x : Turn Setting). x.moved) h) i none

-- A PLAY. From (2, 3) train 2 alone may move, so whoever chooses, one turn ends in (2, 1).
one-turn : (g : Game Setting) (w : Strategy Setting) (c : Adversary Setting) (p t q : ℕ) → over g p ≡ false → ((u : ℕ) → may g p (w [] p) u ≡ true → u ≡ t) → may g p (w [] p) t ≡ true
    → g.next p (w [] p) t ≡ at q → stand (play g w c p 1) ≡ q
unfolding play
one-turn g w c p t q o only here e = elim (mover-cases g p (w [] p) (c [] p (w [] p))) [
  | inl r ↦ let u : mover g p (w [] p) (c [] p (w [] p)) ≡ some t = r.1 ∙ ap (λ (v : ℕ). some v) (only r.0 r.2) in rw (o, u, e) refl
  | inr r ↦ clash here (r.1 t)
]

second-alone : (u : ℕ) → may (game_of weighed) 7 (setting_in weighed sets_w 7) u ≡ true → u ≡ 1
second-alone u m = elim (eq? u 0) [
  | inl e ↦ clash (rw e at m) yard.first-held
  | inr e ↦ omega (arith, may-train (game_of weighed) 7 (setting_in weighed sets_w 7) u m, yard.two, e)
]

module _ (q : ℕ) where
  ends_at : Played weighed sets_w 7 (1 ∷ []) q → q ≡ 1
  ends_at x =
      sym (ap stand x.plays)
      ∙ one-turn (game_of weighed) (following (setting_in weighed sets_w)) x.choice 7 1 1 (or-none (shared weighed 7) (at_home weighed 7) yard.apart yard.away)
      second-alone yard.second-may yard.second-moves

  -- a list of two trains makes two turns, of which train 2 moved in the first and train 1 in the second, and they have cost 7
  in_order : (h : List (Turn Setting)) → Movers h (1 ∷ 0 ∷ []) → (length h ≡ 2) × (moved_in h 0 ≡ some 1) × (moved_in h 1 ≡ some 0)
  unfolding Movers
  in_order [] m = absurd m
  in_order (x ∷ []) m = absurd m.1
  in_order (x ∷ y ∷ []) m = (refl, m.0, m.1.0)
  in_order (x ∷ y ∷ z ∷ h) m = absurd m.1.1

  two-turns : (p : ℕ) (x : Played weighed sets_w p (1 ∷ 0 ∷ []) q) → (length x.turns ≡ 2) × (moved_in x.turns 0 ≡ some 1) × (moved_in x.turns 1 ≡ some 0)
  two-turns p x = in_order x.turns x.moved

  seven-spent : (p : ℕ) (x : Played weighed sets_w p (1 ∷ 0 ∷ []) q) → spent (game_of weighed) x.turns ≡ 7
  unfolding total
  seven-spent p x = x.costs ∙ omega (arith, yard.five, yard.weight-two)

-- A TRAIN THAT MAY MOVE: at any desk with (2, 3) the report of train 2 on that section, one of the three, counts, and the desk then has (2, 1)
module _ (d : Desk) (c : desk_code weighed d ≡ 7) (x : MoveCounts weighed figs_w sets_w d 1) (y : Reply) (post : ReportPost weighed d figs_w sets_w 1 x.section y) where
  one_of_three : x.section < 3
  one_of_three = omega (arith, x.there, yard.three)

  is-counted : number_reported y.answer ≡ none
  is-counted = ap number_reported (x.counts y post)

  comes-there : desk_code weighed y.desk ≡ 1
  comes-there = sym (ap placed (sym (ap (λ (p : ℕ). move_of weighed p (setting_in weighed sets_w p) 1) c ∙ yard.second-moves) ∙ x.arrives y post))

-- AFTER REPORTS of trains ts, from a desk at a placement of figure 7
module _ (d : Desk) (ts : List ℕ) (e : Desk) (x : AfterReports weighed figs_w sets_w d 7 ts e) where
  -- never at (1, 3), which has no figure, and behind no more than seven reports
  not_there : desk_code weighed e ≡ 6 → ⊥
  not_there c = some-none x.has (ap (figure_in figs_w) c)

  no-eight : length ts ≡ 8 → ⊥
  no-eight l = omega (arith, x.at-most, l)

  -- each train on one of the three sections
  on-sections : (t : ℕ) → t < 2 → section_in e.at t < 3
  on-sections t l = omega (arith, ((placed-exactly weighed e.at).0 ((sound-exactly weighed e).0 x.sound).0).there t (omega (arith, yard.two)), yard.three)

  -- at (2, 1) the setting given opens train 1's signal; anywhere, one is given
  gives-65536 : desk_code weighed e ≡ 1 → (a : SettingAnswer) → SettingPost weighed e figs_w sets_w a → setting_given a ≡ some 65536
  gives-65536 c a post = x.gives a post ∙ ap (λ (p : ℕ). some (get_or sets_w p 0)) c

  not-refused : (a : SettingAnswer) → SettingPost weighed e figs_w sets_w a → (f : Refusal) → a ≡ SettingRefused f → ⊥
  not-refused a post f q = some-none (x.gives a post) (ap setting_given q)

  -- away from home one of the two trains may move, and its report counts somewhere
  one-may : at_home weighed (desk_code weighed e) ≡ false → (t : ℕ) × (t < 2)
  one-may away = (let t = x.goes_on away in (t.0, omega (arith, may-train (game_of weighed) (desk_code weighed e) (present weighed e sets_w) t.0 t.1, yard.two)))

  one-counts : may (game_of weighed) (desk_code weighed e) (present weighed e sets_w) 1 ≡ true
      → (s : ℕ) × ((y : Reply) → ReportPost weighed e figs_w sets_w 1 s y → number_reported y.answer ≡ none)
  one-counts go = (let m = x.each 1 go in (m.section, λ y post. ap number_reported (m.counts y post)))

  -- at home every report gives 12
  twelve-at-home : desk_code weighed e ≡ 2 → (t s : ℕ) (y : Reply) → ReportPost weighed e figs_w sets_w t s y → number_reported y.answer ≡ some 12
  twelve-at-home c t s y post = ap number_reported (x.home_ends (ap (at_home weighed) c ∙ yard.home) t s y post)

  -- one of train 2 that counts leads to a figure that is less by 2
  less-by-two : (s : ℕ) (y : Reply) → ReportPost weighed e figs_w sets_w 1 s y → y.answer ≡ Counted
      → (m : ℕ) × (figure_in figs_w (desk_code weighed y.desk) ≡ some m) × (m + 2 ≤ x.figure)
  less-by-two s y post q =
      let l : (m : ℕ) × (figure_in figs_w (desk_code weighed y.desk) ≡ some m) × (m + weight_of weighed 1 ≤ x.figure) = x.lowers 1 s y post q in
      (l.0, l.1, omega (arith, l.2, yard.weight-two))

-- behind reports of both trains nothing is left, and their moves make a play that has cost 7
nothing_left : (d e : Desk) (x : AfterReports weighed figs_w sets_w d 7 (1 ∷ 0 ∷ []) e) → x.figure ≡ 0
unfolding total
nothing_left d e x = omega (arith, x.lowered, yard.five, yard.weight-two)

played-seven : (d e : Desk) (x : AfterReports weighed figs_w sets_w d 7 (1 ∷ 0 ∷ []) e) → spent (game_of weighed) x.played.turns ≡ 7
played-seven d e x = seven-spent (desk_code weighed e) (desk_code weighed d) x.played

-- and they are home: train 1 is on section 3
home-by-seven : (d e : Desk) → AfterReports weighed figs_w sets_w d 7 (1 ∷ 0 ∷ []) e → stands_on weighed (desk_code weighed e) 0 ≡ 2
unfolding total
home-by-seven d e x = home-on-three (desk_code weighed e) (x.home_by (omega (arith, yard.five, yard.weight-two)))

-- FROM THE OPENING ON, with any tables of which it is said
start-seven : IsFigure (game_of weighed) (start_code weighed) (some 7)
start-seven = rw yard.start (weighed-filled.figures 7 (omega (arith, yard.nine)))

module _ (figs sets : List ℕ) (x : Opening) (post : OpenPost weighed figs sets x) (h : DeskRuns weighed figs sets) where
  is-opened : x.answer ≡ Opened
  is-opened = (h.opened-exactly x post).1 (7, start-seven)

  not_none : x.answer ≡ NoFigure → ⊥
  not_none q = some-none {o = some 7} refl (figure-one (game_of weighed) (start_code weighed) (some 7) none start-seven ((h.none-exactly x post).0 q))

  -- train 1 stands on 2, and the code is 7
  stands_at : (desk_code weighed x.desk ≡ 7) × (section_in x.desk.at 0 ≡ 1)
  unfolding train_of with_join with_signal with_legs with_train
  stands_at = ((h.at-start x post is-opened).0 ∙ yard.start, (h.at-start x post is-opened).1 0 (omega arith))

  -- whatever is reported, no more than 7 reports count
  seven-count : (ts : List ℕ) (e : Desk) → Reporting weighed figs sets x.desk ts e → length ts ≤ 7
  seven-count ts e calls = (h.runs x post 7 start-seven ts e calls).at-most

-- head on there is no figure, and so none is answered and no desk is opened
module _ (figs sets : List ℕ) (x : Opening) (post : OpenPost head_on figs sets x) (h : DeskRuns head_on figs sets) where
  none-head-on : IsFigure (game_of head_on) (start_code head_on) none
  unfolding start_code code_of list_below sum_below train_of with_join with_signal with_legs with_train
  none-head-on = head_on-filled.1.figures 2 (omega arith)

  is-none : x.answer ≡ NoFigure
  is-none = (h.none-exactly x post).1 none-head-on

  not_opened : x.answer ≡ Opened → ⊥
  not_opened q =
      let i : (n : ℕ) × IsFigure (game_of head_on) (start_code head_on) (some n) = (h.opened-exactly x post).0 q in
      some-none {o = some i.0} refl (figure-one (game_of head_on) (start_code head_on) (some i.0) none i.1 none-head-on)

-- WHOLE LISTS OF REPORTS. A report that counts, and one that is refused whatever record and tables are lent with it.
counted-on : {r : Railway} {figs sets : List ℕ} {d e : Desk} {ts : List ℕ} (t x : ℕ) (y : Reply) → Reporting r figs sets d ts e → ReportPost r e figs sets t x y → y.answer ≡ Counted
    → Reporting r figs sets d (ts ++ (t ∷ [])) y.desk
counted-on {r} {figs} {sets} {d} {e} {ts} t x y calls post q = subst (λ (a : ReportAnswer). Reporting r figs sets d (ts ++ moved_by a t) y.desk) q (call t x y calls post)

module _ (says : DeskHolds) (a : SolverAnswer) (f s : List ℕ) (post : SolverPost weighed a (replicate 9 0) (replicate 12 1) f s) where
  both-said : DeskRuns weighed f s × Followable weighed f s
  both-said = says.solved weighed a (replicate 9 0) (replicate 12 1) f s weighed-accepted (omega (arith, yard.nine)) (omega (arith, yard.nine)) post

  -- at (2, 3), whatever its figure, the setting lets one of the two trains move, and where it lets train 2 move the figure behind is less by 2
  module _ (n : ℕ) (e : figure_in f 7 ≡ some n) where
    kept : Keeps (game_of weighed) (figure_in f) 7 (setting_in weighed s 7) n
    kept = both-said.1 7 n (omega (arith, yard.nine)) e yard.away

    one-moves : (t : ℕ) × (t < 2)
    one-moves = (kept.one-may.0, omega (arith, may-train (game_of weighed) 7 (setting_in weighed s 7) kept.one-may.0 kept.one-may.1, yard.two))

    two-less : (q m : ℕ) → may (game_of weighed) 7 (setting_in weighed s 7) 1 ≡ true → move_of weighed 7 (setting_in weighed s 7) 1 ≡ at q → figure_in f q ≡ some m → m + 2 ≤ n
    two-less q m go ends has = let l : m + weight_of weighed 1 ≤ n = rw (ends, has) at (kept.all-within 1 go) in omega (arith, l, yard.weight-two)

module _ (says : DeskHolds) (a : SolverAnswer) (f s : List ℕ) (post : SolverPost weighed a (replicate 9 0) (replicate 12 1) f s) (x : Opening) (opened : OpenPost weighed f s x) where
  so : DeskRuns weighed f s
  so = (both-said says a f s post).0

  starts-at : (x.answer ≡ Opened) × (desk_code weighed x.desk ≡ 7)
  starts-at = (is-opened f s x opened so, (stands_at f s x opened so).0)

  -- train 2, a report refused with another case's record and tables, train 1: nothing is left of the figure
  both : (t u : ℕ) (o : Railway) (figs sets : List ℕ) (v k : ℕ) (g : Refusal) (y w z : Reply) → ReportPost weighed x.desk f s 1 t y → y.answer ≡ Counted
      → ReportPost o y.desk figs sets v k w → w.answer ≡ Refused g → ReportPost weighed w.desk f s 0 u z → z.answer ≡ Counted → figure_in f (desk_code weighed z.desk) ≡ some 0
  unfolding total
  both t u o figs sets v k g y w z p₁ c₁ p₂ c₂ p₃ c₃ =
      let l : Reporting weighed f s x.desk (1 ∷ 0 ∷ []) z.desk = counted-on 0 u z (refused o figs sets v k g w (counted-on 1 t y begun p₁ c₁) p₂ c₂) p₃ c₃ in
      let b : AfterReports weighed f s x.desk 7 (1 ∷ 0 ∷ []) z.desk = so.runs x opened 7 start-seven (1 ∷ 0 ∷ []) z.desk l in
      let n : b.figure ≡ 0 = omega (arith, b.lowered, yard.five, yard.weight-two) in
      b.has ∙ ap (λ (m : ℕ). some m) n

-- OF ANY DESK, whatever is lent. When a report counts in Yard A the figure table has nine entries, the trains stand apart and are not both where they belong, and train and section
-- are there.
module _ (figs sets : List ℕ) (d : Desk) (t x : ℕ) (c : Countable weighed figs sets d t x) where
  nine-entries : 9 ≤ length figs
  nine-entries = omega (arith, ((case-none weighed figs sets).0 c.accepted).1.figures, yard.nine)

  not-on-one : section_in d.at 0 ≡ section_in d.at 1 → ⊥
  not-on-one e =
      let a : Apart weighed d.at = (placed-exactly weighed d.at).0 ((sound-exactly weighed d).0 c.placed).0 in
      let z : ◌≡◌ {A = ℕ} 0 1 = a.alone 0 1 (omega (arith, yard.two)) (omega (arith, yard.two)) e in
      omega arith

  not_home : desk_code weighed d ≡ 2 → ⊥
  not_home e = clash (ap (at_home weighed) e ∙ yard.home) c.away

  first-or-second : t < 2
  first-or-second = omega (arith, may-train (game_of weighed) (desk_code weighed d) (present weighed d sets) t c.allowed, yard.two)

  on-a-section : x < 3
  on-a-section = omega (arith, c.there, yard.three)

-- at (2, 3) with the solver's settings it is one of train 2, and ends in (2, 1)
is-second : (figs : List ℕ) (d : Desk) (t x : ℕ) → Countable weighed figs sets_w d t x → desk_code weighed d ≡ 7 → t ≡ 1
is-second figs d t x c e = second-alone t (sym (ap (λ (p : ℕ). may (game_of weighed) p (setting_in weighed sets_w p) t) e) ∙ c.allowed)

ends_there : (figs : List ℕ) (d : Desk) (x : ℕ) → Countable weighed figs sets_w d 1 x → desk_code weighed d ≡ 7 → desk_code weighed (moved_desk weighed d 1 x) ≡ 1
ends_there figs d x c e = sym (ap placed (sym (ap (λ (p : ℕ). move_of weighed p (setting_in weighed sets_w p) 1) e ∙ yard.second-moves) ∙ c.ends))

-- tables of nine entries are long enough
pub long-enough : (figs sets : List ℕ) → 9 ≤ length figs → 9 ≤ length sets → case_refusal weighed figs sets ≡ none
long-enough figs sets lf ls = (case-none weighed figs sets).1 (weighed-accepted, record { figures = omega (arith, lf, yard.nine); settings = omega (arith, ls, yard.nine) })

-- what holds of trains 1 and 2 holds of each of two; the yard of one train has one section
two-of : (P : ℕ → Type 0) → P 0 → P 1 → (t : ℕ) → t < 2 → P t
two-of P a b zero l = a
two-of P a b (suc zero) l = b
two-of P a b (suc (suc t)) l = absurd (omega arith)

lone : (yard_one.trains ≡ 1) × (yard_one.sections ≡ 1)
unfolding with_train
lone = (refl, refl)

module _ (says : AnyDesk) where
  -- 12 does not stop a placement of Yard A: then the trains are on different sections of the three; and on 2 and 3 it does not
  pub stand-apart : (q : Placement) → misplaced weighed q ≡ false → (section_in q 1 < 3) × (section_in q 0 ≡ section_in q 1 → ⊥)
  stand-apart q e =
      let a : Apart weighed q = (says.placed weighed q).0 e in (
        omega (arith, a.there 1 (omega (arith, yard.two)), yard.three),
        λ s. (let z : ◌≡◌ {A = ℕ} 0 1 = a.alone 0 1 (omega (arith, yard.two)) (omega (arith, yard.two)) s in omega arith),
      )

  on-two-and-three : (q : Placement) → section_in q 0 ≡ 1 → section_in q 1 ≡ 2 → misplaced weighed q ≡ false
  on-two-and-three q a b =
      (says.placed weighed q).1
      (record {
        there = λ t l. two-of (λ u. section_in q u < weighed.sections) (omega (arith, a, yard.three)) (omega (arith, b, yard.three)) t (omega (arith, l, yard.two));
        alone = λ t u l k. two-of (λ v. section_in q v ≡ section_in q u → v ≡ u)
            (two-of (λ w. section_in q 0 ≡ section_in q w → 0 ≡ w) (λ s. refl) (λ s. absurd (omega (arith, a, b, s))) u (omega (arith, k, yard.two)))
            (two-of (λ w. section_in q 1 ≡ section_in q w → 1 ≡ w) (λ s. absurd (omega (arith, a, b, s))) (λ s. refl) u (omega (arith, k, yard.two)))
            t (omega (arith, l, yard.two));
      })

  -- on 2 and 3, with the code and the count of that placement, 12 does not stop a desk
  not_stopped : (d : Desk) → section_in d.at 0 ≡ 1 → section_in d.at 1 ≡ 2 → Carries weighed d → desk_row weighed d ≡ false
  not_stopped d a b c = (says.sound weighed d).1 (on-two-and-three d.at a b, c)

  -- of the yard of one train and one section exactly those are not stopped that have it there
  one-there : (q : Placement) → (misplaced yard_one q ≡ false) ↔ (section_in q 0 ≡ 0)
  one-there q = (
    (λ e. omega (arith, ((says.placed yard_one q).0 e).there 0 (omega (arith, lone.0)), lone.1)),
    (λ e.
        (says.placed yard_one q).1
        (record {
          there = λ t l. let z : t ≡ 0 = omega (arith, l, lone.0) in rw (z, e) (omega (arith, lone.1));
          alone = λ t u l k s. omega (arith, l, k, lone.0);
        })),
  )

  module _ (figs sets : List ℕ) (d : Desk) (t x : ℕ) (y : Reply) (post : ReportPost weighed d figs sets t x y) where
    -- a report that counts has its train on the section reported, and the others where they were; one that does not leaves every train where it was
    on-section : length d.at.sections ≡ most_trains → t < 4 → y.answer ≡ Counted
        → (section_in y.desk.at t ≡ x) × ((u : ℕ) → (u ≡ t → ⊥) → section_in y.desk.at u ≡ section_in d.at u)
    on-section sized l q =
        let e : y.desk ≡ moved_desk weighed d t x = says.next weighed figs sets d t x y post q in (
          ap (λ (k : Desk). section_in k.at t) e ∙ get_or-set_same d.at.sections t x 0 (rw sized l),
          λ u n. ap (λ (k : Desk). section_in k.at u) e ∙ get_or-set_other d.at.sections t u x 0 n,
        )

    stays : (f : Refusal) → y.answer ≡ Refused f → (u : ℕ) → section_in y.desk.at u ≡ section_in d.at u
    stays f q u = ap (λ (k : Desk). section_in k.at u) (says.leaves weighed figs sets d t x y f post q)

  -- at (2, 3) with the solver's settings no report of train 1 counts; that train 2 has come to 1 does, whatever the desk has for trains that are not there, and with any figures
  held-there : (figs : List ℕ) (d : Desk) (x : ℕ) (y : Reply) → length d.at.sections ≡ most_trains → desk_code weighed d ≡ 7 → ReportPost weighed d figs sets_w 0 x y
      → y.answer ≡ Counted → ⊥
  held-there figs d x y sized e post q = let z : ◌≡◌ {A = ℕ} 0 1 = is-second figs d 0 x ((says.counted weighed figs sets_w d sized 0 x y post).0 q) e in omega arith

  that-counts : (figs : List ℕ) → 9 ≤ length figs → (a b : ℕ) (y : Reply)
      → ReportPost weighed (record { at = record { sections = 1 ∷ 2 ∷ a ∷ b ∷ [] }; code = 7; arrived = 0 }) figs sets_w 1 0 y
      → number_reported y.answer ≡ none
  unfolding misplaced miscarries arrivals count_below names_none shared stands_on sections_in code_of list_below sum_below train_of with_join with_signal with_legs with_train any_below
  that-counts figs l a b y post =
      ap number_reported ((says.counted weighed figs sets_w _ refl 1 0 y post).1
      (record {
        accepted = long-enough figs sets_w l (omega arith);
        placed = refl;
        away = yard.away;
        allowed = yard.second-may;
        there = omega (arith, yard.three);
        ends = yard.second-moves;
      }))

  -- at home no setting allows a move, whatever table is lent
  none_allowed : (d : Desk) (sets : List ℕ) (t x : ℕ) → desk_code weighed d ≡ 2 → allows weighed d sets t x ≡ false
  none_allowed d sets t x c = says.home-parks weighed d sets t x (ap (at_home weighed) c ∙ yard.home)

  -- a desk that was not opened: after a refusal it has not the trains of Yard A on 2 and 3, or carries what is wrong there; where the start has no figure, so with the one train of the
  -- other yard on 1
  module _ (r : Railway) (figs sets : List ℕ) (x : Opening) (post : OpenPost r figs sets x) where
    not-at-start : (f : Refusal) → x.answer ≡ OpenRefused f → section_in x.desk.at 0 ≡ 1 → section_in x.desk.at 1 ≡ 2 → Carries weighed x.desk → ⊥
    not-at-start f q a b c =
        clash (says.unopened r figs sets x post (ap (λ (k : OpenAnswer). desk_given k x.desk) q) weighed weighed-accepted) (not_stopped x.desk a b c)

    not-on-the-one : x.answer ≡ NoFigure → section_in x.desk.at 0 ≡ 0 → Carries yard_one x.desk → ⊥
    not-on-the-one q a c =
        clash (says.unopened r figs sets x post (ap (λ (k : OpenAnswer). desk_given k x.desk) q) yard_one one-filled.0)
        ((says.sound yard_one x.desk).1 ((one-there x.desk.at).1 a, c))

-- all of this is said of every desk
not-opened-nowhere : DeskHolds → (r : Railway) (figs sets : List ℕ) (x : Opening) → OpenPost r figs sets x → x.answer ≡ NoFigure
    → section_in x.desk.at 0 ≡ 0 → Carries yard_one x.desk → ⊥
not-opened-nowhere says r figs sets x post q a c = not-on-the-one says.any-desk r figs sets x post q a c

-- TABLES that no solver left: a figure at (2, 1) and at home alone, and 9 for 5. They can be followed, since every setting keeps what they have.
abbrev figs_f : List ℕ
figs_f = no_figure ∷ 9 ∷ 0 ∷ replicate 6 no_figure

abbrev fits : Option ℕ → ℕ → Bool
fits none p = true
fits (some n) p = at_home weighed p || keeps_test (game_of weighed) (figure_in figs_f) p (setting_in weighed sets_w p) n

all_fit : all_below (λ p. fits (figure_in figs_f p) p) 9 ≡ true
unfolding keeps_test weight_of shared at_home move_of passes follow entered is_closed occupied setting_at may_move free held
    signal_open heads_for stands_on sections_in code_of list_below sum_below end_at joined_by joined has_signal train_of with_join
    with_signal with_legs with_train any_below all_below
all_fit = refl

one-of : (a b : Bool) → (a || b) ≡ true → a ≡ false → b ≡ true
one-of a b e q = elim (either a b e) [ inl z ↦ clash z q | inr z ↦ z ]

followable : Followable weighed figs_f sets_w
followable p n l e away =
    test-keeps (game_of weighed) (figure_in figs_f) p (setting_in weighed sets_w p) n
    (one-of (at_home weighed p) _ (sym (ap (λ (f : Option ℕ). fits f p) e) ∙ all-at (λ q. fits (figure_in figs_f q) q) 9 all_fit p (omega (arith, l, yard.nine))) away)

-- from a desk with (2, 1) at most 9 reports count with them, and behind one of train 1 the figure is 4 or less
module _ (says : DeskHolds) where
  from-there : RunsFrom weighed figs_f sets_w (on 2 1) 9
  unfolding misplaced miscarries arrivals count_below names_none shared stands_on sections_in code_of list_below sum_below train_of with_join with_signal with_legs with_train any_below
  from-there = says.descent weighed figs_f sets_w weighed-accepted (omega (arith, yard.nine)) (omega (arith, yard.nine)) followable (on 2 1) refl refl 9 refl

  nine-count : (ts : List ℕ) (e : Desk) → Reporting weighed figs_f sets_w (on 2 1) ts e → length ts ≤ 9
  nine-count ts e calls = (from-there ts e calls).at-most

  four-left : (x : ℕ) (y : Reply) → ReportPost weighed (on 2 1) figs_f sets_w 0 x y → y.answer ≡ Counted → (m : ℕ) × (figure_in figs_f (desk_code weighed y.desk) ≡ some m) × (m ≤ 4)
  unfolding total
  four-left x y post q =
      let b : AfterReports weighed figs_f sets_w (on 2 1) 9 (0 ∷ []) y.desk = from-there (0 ∷ []) y.desk (counted-on 0 x y begun post q) in
      (b.figure, b.has, omega (arith, b.lowered, yard.five))

-- AND SO IT IS: of what is said all holds, and there are lists of reports that bring the trains of this yard home, from this desk and from an opened one.
opened-at-seven : (a : SolverAnswer) (f s : List ℕ) → SolverPost weighed a (replicate 9 0) (replicate 12 1) f s → (x : Opening) → OpenPost weighed f s x
    → (x.answer ≡ Opened) × (desk_code weighed x.desk ≡ 7)
opened-at-seven = starts-at desk-holds

there-is : (e : Desk) × (at_home weighed (desk_code weighed e) ≡ true)
there-is = let b : Brought weighed figs_f sets_w (on 2 1) = brought weighed weighed-accepted figs_f sets_w (on 2 1) 9 (from-there desk-holds) in (b.desk, b.home)

there-is-opened : Homes weighed (replicate 9 0) (replicate 12 1)
there-is-opened = home-reached weighed weighed-accepted (replicate 9 0) (replicate 12 1) (omega (arith, yard.nine)) (omega (arith, yard.nine)) 7 start-seven
