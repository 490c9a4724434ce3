-- What is said of the code and the count that a desk carries, at work in Yard A with weights: at (2, 3), code 7, no train is on its destination, at (2, 1), code 1, one is, and home,
-- at (3, 1), code 2, both are. Desks, replies, tables and lists of reports are any of which it holds. Assumes nothing.
use mathlib.Core.Path.{◌≡◌, refl, sym, ◌∙◌, ap}
use mathlib.Core.Bool.{true, false}
use mathlib.Core.List.{List}
use mathlib.Core.Option.{some}
use Prim.Native.Nat.{ℕ, ◌≤◌}
use lib.ListN.{length}
use Rattle.laws.specs.Below.{count_below, list_below}
use Rattle.laws.proofs.Bools.{not-false}
use Rattle.railway.specs.Record.{train_of, with_join, with_signal, with_legs, with_train}
use Rattle.game.specs.Placement.{sections_in, stands_on, at_home}
use Rattle.game_tables.proofs.Examples.{weighed, figs_w, sets_w}
use Rattle.game_placement.specs.ByValue.{section_in}
use Rattle.desk.specs.OpenAnswer.{Opened}
use Rattle.desk.specs.SettingAnswer.{SettingAnswer}
use Rattle.desk.specs.Desk.{Desk, desk_code, arrivals, desk_row, Opening, Reply, number_setting, number_reported, OpenPost, SettingPost, ReportPost}
use Rattle.desk.specs.Following.{Reporting, Carries, AfterReports, AnyDesk}
use Rattle.desk.proofs.Uses.{yard, home-on-three, long-enough, stand-apart}

counts : (arrivals weighed 7 ≡ 0) × (arrivals weighed 1 ≡ 1) × (arrivals weighed 2 ≡ 2)
unfolding arrivals count_below stands_on sections_in list_below train_of with_join with_signal with_legs with_train
counts = (refl, refl, refl)

-- WHAT A DESK CARRIES, if it is right
carries-start : (d : Desk) → Carries weighed d → desk_code weighed d ≡ 7 → (d.code ≡ 7) × (d.arrived ≡ 0)
carries-start d c e = (c.code ∙ e, c.arrived ∙ ap (arrivals weighed) e ∙ counts.0)

carries-home : (d : Desk) → Carries weighed d → desk_code weighed d ≡ 2 → (d.code ≡ 2) × (d.arrived ≡ 2)
carries-home d c e = (c.code ∙ e, c.arrived ∙ ap (arrivals weighed) e ∙ counts.2)

-- AFTER REPORTS, from a desk at a placement of figure 7
module _ (d : Desk) (ts : List ℕ) (e : Desk) (x : AfterReports weighed figs_w sets_w d 7 ts e) where
  -- at (2, 1) the desk carries that code, and that one train has arrived
  carries-there : desk_code weighed e ≡ 1 → (e.code ≡ 1) × (e.arrived ≡ 1)
  carries-there c = (x.carries.code ∙ c, x.carries.arrived ∙ ap (arrivals weighed) c ∙ counts.1)

  -- the lamp: home, the count is 2; and where it is 2 train 1 is on section 3
  lit-at-home : desk_code weighed e ≡ 2 → e.arrived ≡ 2
  lit-at-home c = x.lamp.1 (ap (at_home weighed) c ∙ yard.home) ∙ yard.two

  home-where-lit : e.arrived ≡ 2 → stands_on weighed (desk_code weighed e) 0 ≡ 2
  home-where-lit c = home-on-three (desk_code weighed e) (x.lamp.0 (c ∙ sym yard.two))

-- OF ANY DESK
module _ (says : AnyDesk) where
  -- one at (2, 3) that 12 does not stop has the trains on different sections, code 7 and none counted
  right_there : (d : Desk) → desk_row weighed d ≡ false → desk_code weighed d ≡ 7 → (d.code ≡ 7) × (d.arrived ≡ 0) × (section_in d.at 0 ≡ section_in d.at 1 → ⊥)
  right_there d e c = let s = (says.sound weighed d).0 e in let k = carries-start d s.1 c in (k.0, k.1, (stand-apart says d.at s.0).1)

  -- so one with another code gets 12 for the setting, and one with another count for any report, whatever tables are lent that are long enough
  module _ (figs sets : List ℕ) (lf : 9 ≤ length figs) (ls : 9 ≤ length sets) (d : Desk) (c : desk_code weighed d ≡ 7) where
    no-setting : (d.code ≡ 7 → ⊥) → (a : SettingAnswer) → SettingPost weighed d figs sets a → number_setting a ≡ some 12
    no-setting n a post =
        ap number_setting (says.stopped-setting weighed figs sets d (long-enough figs sets lf ls) (not-false (desk_row weighed d) (λ z. n (right_there d z c).0)) a post)

    no-report : (d.arrived ≡ 0 → ⊥) → (t x : ℕ) (y : Reply) → ReportPost weighed d figs sets t x y → number_reported y.answer ≡ some 12
    no-report n t x y post =
        ap number_reported (says.stopped-report weighed figs sets d (long-enough figs sets lf ls) (not-false (desk_row weighed d) (λ z. n (right_there d z c).1)) t x y post)

  -- opened at (2, 3) with any tables, a desk carries 7 and 0; and after any reports from one that carries what is right, home, 2 and 2
  module _ (figs sets : List ℕ) where
    opened-carries : (x : Opening) → OpenPost weighed figs sets x → x.answer ≡ Opened → desk_code weighed x.desk ≡ 7 → (x.desk.code ≡ 7) × (x.desk.arrived ≡ 0)
    opened-carries x post q c = carries-start x.desk (says.opened-right weighed figs sets x post q) c

    home-carries : (d : Desk) → Carries weighed d → (ts : List ℕ) (e : Desk) → Reporting weighed figs sets d ts e → desk_code weighed e ≡ 2 → (e.code ≡ 2) × (e.arrived ≡ 2)
    home-carries d k ts e calls c = carries-home e (says.stays-right weighed figs sets d k ts e calls) c

  -- the lamp of any desk that carries what is right
  lights : (d : Desk) → Carries weighed d → at_home weighed (desk_code weighed d) ≡ true → d.arrived ≡ 2
  lights d k h = (says.lamp weighed d k).1 h ∙ yard.two

  lit-home : (d : Desk) → Carries weighed d → d.arrived ≡ 2 → stands_on weighed (desk_code weighed d) 0 ≡ 2
  lit-home d k e = home-on-three (desk_code weighed d) ((says.lamp weighed d k).0 (e ∙ sym yard.two))
