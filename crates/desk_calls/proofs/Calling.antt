-- What the calls answer, by the answer to the case and by what was tested behind it: a law for each return. The rows of
-- a call are those of the case, then 12, so a refusal of the case is given first. Assumes nothing.
use mathlib.Core.Path.{◌≡◌, refl, sym, ◌∙◌, ap, subst}
use mathlib.Core.Bool.{Bool, true, false, not}
use mathlib.Core.List.{List, [], ◌∷◌, ◌++◌}
use mathlib.Core.Option.{Option, none, some}
use Prim.Native.Nat.{ℕ, ◌<◌}
use native.Mathlib.Omega.{arith}
use lib.ListN.{length, get_or}
use borrow.Author.Tests.{ne_eqb}
use Rattle.std.specs.Prelude.{Some, None, Result, Ok, Err}
use Rattle.laws.specs.Below.{or_else}
use Rattle.railway.specs.declared.Railway.{Railway}
use Rattle.railway.specs.declared.Refusal.{Refusal}
use Rattle.railway.specs.declared.Refusal.TheVariants.{Report}
use Rattle.railway.specs.CaseAnswer.{Accepted}
use Rattle.railway.specs.Bounds.{most_trains}
use Rattle.railway.specs.Record.{is_closed}
use Rattle.railway.specs.Refusals.{row, refuse_if, first, number_of}
use Rattle.game.specs.Placement.{start_code}
use Rattle.game_tables.specs.Tables.{no_figure, figure_in, case_rows, case_refusal}
use Rattle.game_tables.proofs.Refusals.{case-then}
use Rattle.railway_routes.specs.Routes.{Laid}
use Rattle.railway_compiled.specs.Table.{Compiled, compilation}
use Rattle.game_placement.specs.declared.Placement.{Placement}
use Rattle.game_placement.specs.ByValue.{section_in}
use Rattle.game_moves.specs.Steps.{On, put_in}
use Rattle.game_moves.proofs.Placing.{table-facts}
use Rattle.game_case.specs.Cases.{CasePost}
use Rattle.game_case.proofs.Cases.{opened-refused, opened-none, opened-table}
use Rattle.desk.specs.OpenAnswer.{Opened}
use Rattle.desk.specs.SettingAnswer.{SettingAnswer, Given, Refused as SettingRefused}
use Rattle.desk.specs.ReportAnswer.{Counted, Refused}
use Rattle.desk.specs.Desk.{Desk as DeskAt, desk_code, desk_row, desk_on, no_desk, Opening, open_by, open_desk, setting_rows}
use Rattle.desk.specs.Desk.{setting_by, give_setting, report_row, report_rows, Reply, report_by, report, number_opening}
use Rattle.desk.specs.Desk.{number_setting, number_reported, OpenPost, SettingPost, ReportPost}
use Rattle.desk.proofs.Carrying.{sound-exactly}
use Rattle.desk_calls.specs.declared.Desk.{Desk}
use Rattle.desk_calls.specs.Answers.{desk_at, opening, replied}
use Rattle.desk_calls.specs.Steps.{counts_at}
use Rattle.desk_calls.proofs.Desks.{start-sections, moved-sections}
use Rattle.desk_calls.proofs.Counting.{counts-train, report-row}

-- THE PROMISES, by what is refused.
open-number : (r : Railway) (o : Option Refusal) (n : Option ℕ) → number_opening (open_by r o n).answer ≡ number_of o
open-number r none none = refl
open-number r none (some n) = refl
open-number r (some f) n = refl

setting-number : (v : ℕ) (o : Option Refusal) → number_setting (setting_by v o) ≡ number_of o
setting-number v none = refl
setting-number v (some f) = refl

report-number : (r : Railway) (d : DeskAt) (t x : ℕ) (o : Option Refusal)
    → number_reported (report_by r d t x o).answer ≡ number_of o
report-number r d t x none = refl
report-number r d t x (some f) = refl

module _ (r : Railway) (figs sets : List ℕ) where
  open-post : (o : Option Refusal) (n : Option ℕ) (x : Opening) → case_refusal r figs sets ≡ o
      → figure_in figs (start_code r) ≡ n → x ≡ open_by r o n
      → OpenPost r figs sets x
  unfolding open_desk case_refusal
  open-post o n x e en ex =
      record {
        numbered = ap (λ (z : Opening). number_opening z.answer) ex ∙ open-number r o n ∙ ap number_of (sym e);
        answers = ex ∙ rw (e, en) refl;
      }

  -- the rows of the case, then 12
  then-report : (b : Bool) (o : Option Refusal) → case_refusal r figs sets ≡ o
      → first (case_rows r figs sets ++ (row Report b ∷ [])) ≡ or_else o (refuse_if b Report none)
  unfolding first
  then-report b o e =
      case-then r figs sets (row Report b ∷ []) ∙ ap (λ (z : Option Refusal). or_else z (refuse_if b Report none)) e

  module _ (d : DeskAt) where
    setting-post : (o : Option Refusal) (a : SettingAnswer) → first (setting_rows r d figs sets) ≡ o
        → a ≡ setting_by (get_or sets (desk_code r d) 0) o
        → SettingPost r d figs sets a
    unfolding give_setting
    setting-post o a e ea =
        let v = get_or sets (desk_code r d) 0 in
        record {
          numbered = ap number_setting ea ∙ setting-number v o ∙ ap number_of (sym e);
          answers = ea ∙ ap (setting_by v) (sym e);
        }

    report-post : (t x : ℕ) (o : Option Refusal) (y : Reply) → first (report_rows r d figs sets t x) ≡ o
        → y ≡ report_by r d t x o → ReportPost r d figs sets t x y
    unfolding report
    report-post t x o y e ey =
        record {
          numbered = ap (λ (z : Reply). number_reported z.answer) ey ∙ report-number r d t x o
              ∙ ap number_of (sym e);
          answers = ey ∙ ap (report_by r d t x) (sym e);
        }

-- A report that has been heard at a desk which is not stopped: its row is refused unless it counts, and then its train
-- is there
pub record Heard (r : Railway) (figs sets table : List ℕ) (d : Desk) (t x : ℕ) (k : Bool) : Type 0 where
  pub tabled : Compiled r table
  pub row : first (report_rows r (desk_at d) figs sets t x) ≡ refuse_if (not k) Report none
  pub moves : k ≡ true → t < most_trains

module _ (r : Railway) (figs sets : List ℕ) (c : Result (List ℕ) Refusal) (p : CasePost r figs sets (compilation c)) where
  -- THE CASE IS REFUSED
  module _ (f : Refusal) (e : c ≡ Err f) where
    not-taken : case_refusal r figs sets ≡ some f
    not-taken = opened-refused p (ap (λ (x : Result (List ℕ) Refusal). (compilation x).tested) e)

    pub open-refused : OpenPost r figs sets (opening (Err f))
    open-refused = open-post r figs sets (some f) (figure_in figs (start_code r)) _ not-taken refl refl

    pub setting-refused : (d : Desk) → SettingPost r (desk_at d) figs sets (SettingRefused f)
    setting-refused d =
        setting-post r figs sets (desk_at d) (some f) (SettingRefused f)
        (then-report r figs sets (desk_row r (desk_at d)) (some f) not-taken) refl

    pub report-refused : (d : Desk) (t x : ℕ) → ReportPost r (desk_at d) figs sets t x (replied (Refused f) d)
    report-refused d t x =
        report-post r figs sets (desk_at d) t x (some f) _
        (then-report r figs sets (report_row r (desk_at d) sets t x) (some f) not-taken) refl

  module _ (table : List ℕ) (e : c ≡ Ok table) where
    taken : (compilation c).tested ≡ Accepted
    taken = ap (λ (x : Result (List ℕ) Refusal). (compilation x).tested) e

    fine : case_refusal r figs sets ≡ none
    fine = opened-none p taken

    tabled : Compiled r table
    tabled = subst (Compiled r) (ap (λ (x : Result (List ℕ) Refusal). (compilation x).table) e) (opened-table p taken)

    -- 12, where nothing of the case is refused
    twelve : (b : Bool) → first (case_rows r figs sets ++ (row Report b ∷ [])) ≡ refuse_if b Report none
    twelve b = then-report r figs sets b none fine

    -- OPENED
    module _ (at v : ℕ) (starts : (o : Railway) → Compiled o table → at ≡ start_code o)
        (read : v ≡ get_or figs at no_figure) where
      entry : get_or figs (start_code r) no_figure ≡ v
      entry = ap (λ (k : ℕ). get_or figs k no_figure) (sym (starts r tabled)) ∙ sym read

      pub open_none : v ≡ no_figure → OpenPost r figs sets (opening (Ok None))
      open_none z = open-post r figs sets none none _ fine (rw (entry, z) refl) refl

      pub open-stands : (v ≡ no_figure → ⊥) → (q : Placement)
          → ((o : Railway) → Compiled o table → On o at table q) → length q.sections ≡ most_trains
          → (d : Desk) → ((o : Railway) → Compiled o table → desk_at d ≡ desk_on o q)
          → OpenPost r figs sets (opening (Ok (Some d)))
      open-stands z q stands sized d made =
          let on : On r (start_code r) table q = rw (starts r tabled) at (stands r tabled) in
          open-post r figs sets none (some v) _ fine (rw (entry, ne_eqb v no_figure z) refl)
          (ap (λ (w : DeskAt). record { answer = Opened; desk = w })
          (made r tabled
          ∙ ap (λ (xs : List ℕ). desk_on r (record { sections = xs })) (start-sections r table q on sized)))

    module _ (d : Desk) (b : Bool) (tests : (o : Railway) → Compiled o table → b ≡ desk_row o (desk_at d)) where
      is-stopped : b ≡ desk_row r (desk_at d)
      is-stopped = tests r tabled

      -- STOPPED
      module _ (y : b ≡ true) where
        pub setting-stopped : SettingPost r (desk_at d) figs sets (SettingRefused Report)
        setting-stopped =
            setting-post r figs sets (desk_at d) (some Report) (SettingRefused Report)
            (twelve (desk_row r (desk_at d)) ∙ rw (sym is-stopped ∙ y) refl) refl

        pub report-stopped : (t x : ℕ) → ReportPost r (desk_at d) figs sets t x (replied (Refused Report) d)
        unfolding report_row
        report-stopped t x =
            let row : first (report_rows r (desk_at d) figs sets t x) ≡ some Report =
            twelve (report_row r (desk_at d) sets t x) ∙ rw (sym is-stopped ∙ y) refl in
            report-post r figs sets (desk_at d) t x (some Report) _ row refl

      -- NOT STOPPED: the entry at the code that the desk carries, which is its placement's
      module _ (n : b ≡ false) (v : ℕ) (read : v ≡ get_or sets d.code 0) where
        sound : desk_row r (desk_at d) ≡ false
        sound = sym is-stopped ∙ n

        code-right : d.code ≡ desk_code r (desk_at d)
        code-right = ((sound-exactly r (desk_at d)).0 sound).1.code

        entry-there : v ≡ get_or sets (desk_code r (desk_at d)) 0
        entry-there = read ∙ ap (λ (k : ℕ). get_or sets k 0) code-right

        pub setting-given : SettingPost r (desk_at d) figs sets (Given v)
        setting-given = setting-post r figs sets (desk_at d) none (Given v)
            (twelve (desk_row r (desk_at d)) ∙ rw sound refl) (ap (λ (k : ℕ). Given k) entry-there)

        -- A REPORT, by whether it counts
        module _ (t x : ℕ) (ways : List ℕ) (laid : Laid r (is_closed r) ways) (q : Placement)
            (stands : (o : Railway) → Compiled o table → On o d.code table q)
            (k : Bool) (counts : (o : Railway) (m : ℕ) → On o m table q → Laid o (is_closed o) ways
            → k ≡ counts_at o m v t x) where
          it-counts : k ≡ counts_at r (desk_code r (desk_at d)) (get_or sets (desk_code r (desk_at d)) 0) t x
          it-counts =
              counts r d.code (stands r tabled) laid
              ∙ ap (λ (m : ℕ). counts_at r m v t x) code-right
              ∙ ap (λ (u : ℕ). counts_at r (desk_code r (desk_at d)) u t x) entry-there

          its-row : first (report_rows r (desk_at d) figs sets t x) ≡ refuse_if (not k) Report none
          its-row = twelve (report_row r (desk_at d) sets t x) ∙ ap (λ (z : Bool). refuse_if z Report none)
              (report-row r (desk_at d) sets t x sound ∙ ap not (sym it-counts))

          pub report-heard : Heard r figs sets table d t x k
          report-heard =
              let few = (table-facts r table tabled).few-trains in
              record {
                tabled = tabled;
                row = its-row;
                moves = λ y. omega (arith, few, counts-train r _ _ t x (sym it-counts ∙ y));
              }

-- THE REPORT, by whether it counts
module _ {r : Railway} {figs sets table : List ℕ} {d : Desk} {t x : ℕ} {k : Bool}
    (h : Heard r figs sets table d t x k) where
  pub report-counts : k ≡ true → (o : Placement) → ((u : ℕ) → section_in o u ≡ put_in d.at t x u)
      → length o.sections ≡ most_trains → length d.at.sections ≡ most_trains
      → (next : Desk) → ((a : Railway) → Compiled a table → desk_at next ≡ desk_on a o)
      → ReportPost r (desk_at d) figs sets t x (replied Counted next)
  report-counts y o put lo ld next made =
      report-post r figs sets (desk_at d) t x none _ (h.row ∙ rw y refl)
      (ap (λ (w : DeskAt). record { answer = Counted; desk = w })
      (made r h.tabled
      ∙ ap (λ (xs : List ℕ). desk_on r (record { sections = xs }))
      (moved-sections d.at o t x ld lo (h.moves y) put)))

  pub report-not : k ≡ false → ReportPost r (desk_at d) figs sets t x (replied (Refused Report) d)
  report-not y = report-post r figs sets (desk_at d) t x (some Report) _ (h.row ∙ rw y refl) refl
