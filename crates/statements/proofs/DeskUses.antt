-- The statement on desks that run at work, in Yard A with weights 5 and 2: of any run of the solver, any opening with the tables that it left, and any call for the setting, report
-- or change at that desk something is drawn from what the calls tell. Assumes nothing.
use mathlib.Core.Path.{◌≡◌, refl, ◌∙◌, ap, subst}
use mathlib.Core.Bool.{true}
use mathlib.Core.List.{List, []}
use mathlib.Core.Option.{none, some}
use Prim.Native.Nat.{ℕ, ◌≤◌}
use native.Mathlib.Omega.{arith}
use lib.ListN.{length, get_or}
use denote.Triple.Clauses.{AtExit}
use contract.Lifetimes.{Lfts}
use borrow.Fn.Kinds.{Dens, res_t, ended_of}
use Rattle.laws.specs.Below.{count_below, sum_below, list_below}
use Rattle.laws.proofs.Bools.{not-false}
use Rattle.railway.specs.Bounds.{most_trains}
use Rattle.railway.specs.Record.{train_of, weight_of, with_join, with_signal, with_legs, with_train}
use Rattle.case_file.specs.Given.{AcceptedWith}
use Rattle.game.specs.Game.{IsFigure}
use Rattle.game.specs.Placement.{code_of, code_on, sections_in, stands_on, placements, start_code}
use Rattle.game.specs.Moves.{game_of}
use Rattle.game_placement.specs.declared.Placement.{Placement}
use Rattle.game_placement.specs.ByValue.{section_in}
use Rattle.game_tables.specs.Tables.{figure_in, case_refusal}
use Rattle.game_tables.specs.Solver.{SolverPost}
use Rattle.game_tables.proofs.Refusals.{case-none}
use Rattle.game_tables.proofs.Examples.{weighed}
use Rattle.game_tables.proofs.WeighedYards.{weighed-accepted, weighed-filled}
use Rattle.desk.specs.OpenAnswer.{Opened}
use Rattle.desk.specs.ReportAnswer.{Counted}
use Rattle.desk.specs.ChangeAnswer.{Changed}
use Rattle.desk.specs.Desk.{Desk, desk_code, arrivals, desk_row, setting_given, number_setting, OpenPost, SettingPost, ReportPost}
use Rattle.desk.specs.Following.{begun, AfterReports, DeskRuns}
use Rattle.desk.specs.Change.{number_changed, ChangePost, BothAccepted, Fitting, working_on, beginning_with, Works}
use Rattle.desk_calls.specs.Answers.{desk_at, opening, replied, changing}
use Rattle.solver.proofs.solve.Kinds as solve
use Rattle.solver.proofs.solve.Reads.{Learnt as SolveLearnt}
use Rattle.desk_calls.proofs.Desk.open.Kinds as opened
use Rattle.desk_calls.proofs.Desk.open.Reads.{Asked as OpenAsked, Learnt as OpenLearnt}
use Rattle.desk_calls.proofs.Desk.open.Statement.{statement as OpenMeets}
use Rattle.desk_calls.proofs.Desk.setting.Kinds as setting
use Rattle.desk_calls.proofs.Desk.setting.Reads.{Asked as SettingAsked, Learnt as SettingLearnt}
use Rattle.desk_calls.proofs.Desk.setting.Statement.{statement as SettingMeets}
use Rattle.desk_calls.proofs.Desk.report.Kinds as report
use Rattle.desk_calls.proofs.Desk.report.Reads.{Asked as ReportAsked, Learnt as ReportLearnt}
use Rattle.desk_calls.proofs.Desk.report.Statement.{statement as ReportMeets}
use Rattle.desk_calls.proofs.Desk.change.Kinds as change
use Rattle.desk_calls.proofs.Desk.change.Reads.{Asked as ChangeAsked, Learnt as ChangeLearnt}
use Rattle.desk_calls.proofs.Desk.change.Statement.{statement as ChangeMeets}
use Rattle.statements.proofs.Desks.{desks-run}

same : {A B : Type 0} → A ≡ B → A → B
same e x = rw e at x

-- they ask nothing, and are met
asks_nothing : ((κs : Lfts 2) (a : Dens κs opened.ps) → OpenAsked κs a) × ((κs : Lfts 2) (a : Dens κs setting.ps) → SettingAsked κs a)
    × ((κs : Lfts 2) (a : Dens κs report.ps) → ReportAsked κs a) × ((κs : Lfts 4) (a : Dens κs change.ps) → ChangeAsked κs a)
asks_nothing = (desks-run.opens.asks, desks-run.settings.asks, desks-run.reports.asks, desks-run.changes.asks)

all-met : {M : Type 1} → OpenMeets M × SettingMeets M × ReportMeets M × ChangeMeets M
all-met = (desks-run.opens.meets, desks-run.settings.meets, desks-run.reports.meets, desks-run.changes.meets)

-- the start, (2, 3), has code 7 and figure 7, no train is on its destination there, and a move of train 2 costs 2
yard : (placements weighed ≡ 9) × (start_code weighed ≡ 7) × (weight_of weighed 1 ≡ 2) × (arrivals weighed 7 ≡ 0)
unfolding arrivals count_below stands_on sections_in start_code code_of sum_below list_below train_of weight_of with_join with_signal with_legs with_train
yard = (refl, refl, refl, refl)

seven : IsFigure (game_of weighed) (start_code weighed) (some 7)
seven = rw yard.1 (weighed-filled.figures 7 (omega (arith, yard.0)))

-- a desk at (2, 3) that is handed in with another code than 7 gets 12, whatever tables are lent that are long enough
module _ (κs : Lfts 2) (a : Dens κs setting.ps) (given : (res_t setting.r κs).Denot) (left : AtExit (ended_of 2 setting.ps setting.r) κs) (is-yard : a.1.0 ≡ weighed)
    (lf : 9 ≤ length a.1.1.0.now) (ls : 9 ≤ length a.1.1.1.0.now) (learnt : SettingLearnt κs a given left) where
  wrong-code : desk_code weighed (desk_at a.0) ≡ 7 → (a.0.code ≡ 7 → ⊥) → number_setting given ≡ some 12
  wrong-code at-seven other =
      let figs = a.1.1.0.now in
      let sets = a.1.1.1.0.now in
      let post : SettingPost weighed (desk_at a.0) figs sets given = rw is-yard at (same (desks-run.settings.tells κs a given left) learnt) in
      let fits : case_refusal weighed figs sets ≡ none =
      (case-none weighed figs sets).1 (weighed-accepted, record { figures = omega (arith, lf, yard.0); settings = omega (arith, ls, yard.0) }) in
      let off : desk_row weighed (desk_at a.0) ≡ true = not-false _ (λ z. other (((desks-run.whole.any-desk.sound weighed (desk_at a.0)).0 z).1.code ∙ at-seven)) in
      ap number_setting (desks-run.whole.any-desk.stopped-setting weighed figs sets (desk_at a.0) fits off given post)

module _ (κs : Lfts 2) (a : Dens κs solve.ps) (said : (res_t solve.r κs).Denot) (left : AtExit (ended_of 2 solve.ps solve.r) κs) (is-yard : a.0 ≡ weighed)
    (lf : 9 ≤ length a.1.0.now) (ls : 9 ≤ length a.1.1.0.now) (learnt : SolveLearnt κs a said left) where
  abbrev figs : List ℕ
  figs = left.1.0.now

  abbrev sets : List ℕ
  sets = left.1.1.0.now

  solved : SolverPost weighed said a.1.0.now a.1.1.0.now figs sets
  solved = rw is-yard at (same (desks-run.solver.tells κs a said left) learnt)

  runs : DeskRuns weighed figs sets
  runs = (desks-run.whole.solved weighed said a.1.0.now a.1.1.0.now figs sets weighed-accepted (omega (arith, yard.0)) (omega (arith, yard.0)) solved).0

  module _ (κs₁ : Lfts 2) (b : Dens κs₁ opened.ps) (answer : (res_t opened.r κs₁).Denot) (left₁ : AtExit (ended_of 2 opened.ps opened.r) κs₁)
      (is-yard₁ : b.0 ≡ weighed) (lent-figs : b.1.0.now ≡ figs) (lent-sets : b.1.1.0.now ≡ sets) (learnt₁ : OpenLearnt κs₁ b answer left₁) where
    desk-post : OpenPost weighed figs sets (opening answer)
    desk-post = rw (is-yard₁, lent-figs, lent-sets) at (same (desks-run.opens.tells κs₁ b answer left₁) learnt₁)

    -- a desk is opened, at (2, 3)
    at-start : ((opening answer).answer ≡ Opened) × (desk_code weighed ((opening answer).desk) ≡ 7)
    at-start = let x : (opening answer).answer ≡ Opened = (runs.opened-exactly (opening answer) desk-post).1 (7, seven) in (x, (runs.at-start (opening answer) desk-post x).0 ∙ yard.1)

    stands : AfterReports weighed figs sets ((opening answer).desk) 7 [] ((opening answer).desk)
    stands = runs.runs (opening answer) desk-post 7 seven [] ((opening answer).desk) begun

    -- it carries that code, and that no train has arrived
    carries-start : ((opening answer).desk.code ≡ 7) × ((opening answer).desk.arrived ≡ 0)
    carries-start = (stands.carries.code ∙ at-start.1, stands.carries.arrived ∙ ap (arrivals weighed) at-start.1 ∙ yard.3)

    -- the setting given there is the entry that the solver left at code 7
    gives-entry : (κs₂ : Lfts 2) (c : Dens κs₂ setting.ps) (given : (res_t setting.r κs₂).Denot) (left₂ : AtExit (ended_of 2 setting.ps setting.r) κs₂)
        → desk_at c.0 ≡ (opening answer).desk → c.1.0 ≡ weighed → c.1.1.0.now ≡ figs → c.1.1.1.0.now ≡ sets → SettingLearnt κs₂ c given left₂ → setting_given given ≡ some (get_or sets 7 0)
    gives-entry κs₂ c given left₂ handed is-yard₂ figs₂ sets₂ learnt₂ =
        let x : SettingPost weighed ((opening answer).desk) figs sets given = subst (λ (e : Desk). SettingPost weighed e figs sets given) handed (rw (is-yard₂, figs₂, sets₂) at (same (desks-run.settings.tells κs₂ c given left₂) learnt₂)) in
        stands.gives given x ∙ ap (λ (k : ℕ). some (get_or sets k 0)) at-start.1

    -- wherever train 2 is reported, if that counts its placement then has a figure of 5 at most
    lowers-two : (κs₂ : Lfts 2) (c : Dens κs₂ report.ps) (reply : (res_t report.r κs₂).Denot) (left₂ : AtExit (ended_of 2 report.ps report.r) κs₂)
        → desk_at c.0 ≡ (opening answer).desk → c.1.0 ≡ weighed → c.1.1.0.now ≡ figs → c.1.1.1.0.now ≡ sets → c.1.1.1.1.0 ≡ 1 → ReportLearnt κs₂ c reply left₂ → reply.1 ≡ Counted
        → (m : ℕ) × (figure_in figs (desk_code weighed (desk_at reply.0)) ≡ some m) × (m ≤ 5)
    lowers-two κs₂ c reply left₂ handed is-yard₂ figs₂ sets₂ train learnt₂ counted =
        let section = c.1.1.1.1.1.0 in
        let x : ReportPost weighed ((opening answer).desk) figs sets 1 section (replied reply.1 reply.0) =
        subst (λ (e : Desk). ReportPost weighed e figs sets 1 section (replied reply.1 reply.0)) handed (rw (is-yard₂, figs₂, sets₂, train) at (same (desks-run.reports.tells κs₂ c reply left₂) learnt₂)) in
        let y = stands.lowers 1 section (replied reply.1 reply.0) x counted in
        (y.0, y.1, omega (arith, y.2, stands.lowered, yard.2))

    -- it goes over to a text that is read as this yard, with any tables that are long enough and have a figure at code 7, which is then its code
    goes_over : (κs₂ : Lfts 4) (c : Dens κs₂ change.ps) (reply : (res_t change.r κs₂).Denot) (left₂ : AtExit (ended_of 4 change.ps change.r) κs₂)
        → desk_at c.0.now ≡ (opening answer).desk → c.1.0 ≡ weighed → AcceptedWith c.1.1.0.now weighed → 9 ≤ length c.1.1.1.0.now → 9 ≤ length c.1.1.1.1.0.now
        → (n : ℕ) → figure_in c.1.1.1.0.now 7 ≡ some n → ChangeLearnt κs₂ c reply left₂ → (reply ≡ Changed) × (left₂.0.now.code ≡ 7)
    goes_over κs₂ c reply left₂ handed is-yard₂ read lf₂ ls₂ n has learnt₂ =
        let text = c.1.1.0.now in
        let figs₂ = c.1.1.1.0.now in
        let sets₂ = c.1.1.1.1.0.now in
        let d = (opening answer).desk in
        let x : ChangePost weighed text d figs₂ sets₂ (changing reply left₂.0.now) = subst (λ (e : Desk). ChangePost weighed text e figs₂ sets₂ (changing reply left₂.0.now)) handed (rw is-yard₂ at (same (desks-run.changes.tells κs₂ c reply left₂) learnt₂)) in
        let changed : reply ≡ Changed =
        (desks-run.change.exactly weighed d weighed-accepted stands.sound text figs₂ sets₂ (changing reply left₂.0.now) x).1
        (record {
          railway = weighed;
          read = read;
          shape = record { sections = refl; trains = refl; headings = λ t l. refl };
          figures = omega (arith, yard.0, lf₂);
          settings = omega (arith, yard.0, ls₂);
          figure = n;
          has = ap (figure_in figs₂) at-start.1 ∙ has;
        }) in
        let e = desks-run.change.carries weighed weighed text d figs₂ sets₂ (changing reply left₂.0.now) read x changed in
        (changed, e.1.code ∙ ap (λ (q : Placement). code_on weighed (section_in q)) e.0 ∙ at-start.1)

  -- A CHANGE TO THIS CASE, with the tables that the solver left: any desk that goes over to it from whatever record, with its trains at code 7, comes home within seven reports, whatever is
  -- refused among them
  home-in-seven : (κs₂ : Lfts 4) (c : Dens κs₂ change.ps) (reply : (res_t change.r κs₂).Denot) (left₂ : AtExit (ended_of 4 change.ps change.r) κs₂)
      → length c.0.now.at.sections ≡ most_trains → AcceptedWith c.1.1.0.now weighed → c.1.1.1.0.now ≡ figs → c.1.1.1.1.0.now ≡ sets → desk_code weighed (desk_at c.0.now) ≡ 7
      → ChangeLearnt κs₂ c reply left₂ → reply ≡ Changed → (ts : List ℕ) (e : Desk)
      → Works (beginning_with weighed figs sets (desk_at left₂.0.now)) (working_on weighed figs sets (desk_at left₂.0.now) ts e) → length ts ≤ 7
  home-in-seven κs₂ c reply left₂ sized read figs₂ sets₂ at-seven learnt₂ changed ts e calls =
      let d = desk_at c.0.now in
      let x : ChangePost c.1.0 c.1.1.0.now d figs sets (changing reply left₂.0.now) = rw (figs₂, sets₂) at (same (desks-run.changes.tells κs₂ c reply left₂) learnt₂) in
      let over =
      desks-run.change.solved weighed said a.1.0.now a.1.1.0.now figs sets (omega (arith, yard.0)) (omega (arith, yard.0)) solved
      c.1.0 d sized c.1.1.0.now read in
      let is-seven : IsFigure (game_of weighed) (desk_code weighed d) (some 7) = rw at-seven (rw yard.1 at seven) in
      (over.home (changing reply left₂.0.now) x changed 7 is-seven ts e calls).at-most

-- A CHANGE OF A DESK that carries another code than its placement's gets 12, if the new text is read as this yard and the new tables are long enough
module _ (κs : Lfts 4) (c : Dens κs change.ps) (reply : (res_t change.r κs).Denot) (left : AtExit (ended_of 4 change.ps change.r) κs) (is-yard : c.1.0 ≡ weighed)
    (read : AcceptedWith c.1.1.0.now weighed) (lf : 9 ≤ length c.1.1.1.0.now) (ls : 9 ≤ length c.1.1.1.1.0.now) (learnt : ChangeLearnt κs c reply left) where
  code-not-changed : desk_code weighed (desk_at c.0.now) ≡ 7 → (c.0.now.code ≡ 7 → ⊥) → number_changed reply ≡ some 12
  code-not-changed at-seven other =
      let d = desk_at c.0.now in
      let text = c.1.1.0.now in
      let figs = c.1.1.1.0.now in
      let sets = c.1.1.1.1.0.now in
      let post : ChangePost weighed text d figs sets (changing reply left.0.now) = rw is-yard at (same (desks-run.changes.tells κs c reply left) learnt) in
      let off : desk_row weighed d ≡ true = not-false _ (λ z. other (((desks-run.whole.any-desk.sound weighed d).0 z).1.code ∙ at-seven)) in
      let both : BothAccepted weighed text = record { railway = weighed; old = weighed-accepted; read = read } in
      let fits : Fitting weighed text = record { both = both; shape = record { sections = refl; trains = refl; headings = λ t l. refl } } in
      ap number_changed ((desks-run.change.twelve weighed text d figs sets (changing reply left.0.now) post).1
      (record { fits = fits; figures = omega (arith, lf, yard.0); settings = omega (arith, ls, yard.0) }, off))
