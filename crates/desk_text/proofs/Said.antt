-- What is put for a state, an opening and a line, by what the calls answered: a law for each return. Where a setting is given the record is accepted, so that the state's line is short.
-- Assumes nothing.
use mathlib.Core.Path.{◌≡◌, refl, sym, ◌∙◌, subst}
use mathlib.Core.Bool.{Bool, true, false}
use mathlib.Core.List.{List, [], ◌∷◌}
use mathlib.Core.Option.{Option, none, some}
use Prim.Native.Nat.{ℕ, ◌≤◌}
use native.Mathlib.Omega.{arith}
use lib.ListN.{get_or}
use lib.Dec.{eqb}
use borrow.Author.Tests.{eq-eqb, ne_eqb}
use Rattle.laws.specs.Below.{or_else}
use Rattle.laws.proofs.Bools.{some-none}
use Rattle.text.specs.Text.{line, bytes}
use Rattle.railway.specs.declared.Railway.{Railway}
use Rattle.railway.specs.declared.Refusal.{Refusal}
use Rattle.railway.specs.declared.Refusal.TheVariants.{Report}
use Rattle.railway.specs.Bounds.{most_points, most_trains}
use Rattle.railway.specs.Refusals.{row, first}
use Rattle.railway.specs.Rows.{record_refusal}
use Rattle.case_file.specs.Written.{Written}
use Rattle.game.proofs.Accepted.{facts}
use Rattle.game_tables.specs.Tables.{no_figure, case_refusal}
use Rattle.game_tables.proofs.Refusals.{case-then, case-none}
use Rattle.answer_lines.specs.Lines.{refusal_line, none_line, PutPost}
use Rattle.answer_lines.proofs.Lines.{refusal-short}
use Rattle.desk.specs.OpenAnswer.{OpenAnswer}
use Rattle.desk.specs.SettingAnswer.{SettingAnswer, Given}
use Rattle.desk.specs.ReportAnswer.{ReportAnswer}
use Rattle.desk.specs.Desk.{Desk, desk_row, Opening, setting_rows, setting_by, give_setting, Reply, OpenPost, SettingPost, ReportPost}
use Rattle.desk_lines.specs.Panel.{state_line, home_line}
use Rattle.desk_lines.specs.Reports.{Told, report_in, place_of}
use Rattle.desk_lines.proofs.Panel.{state-short, home-short}
use Rattle.desk_text.specs.Said.{refused_said, given_said, setting_said, state_said, opened_said, opening_said, replied_said, report_said, moved_said, told_said, line_said, SaidPost}

module _ (old new : List ℕ) (w : Written) where
  -- a refusal
  pub refused-said : (f : Refusal) (d : Desk) (g : Bool) → PutPost (refusal_line f) old w new → SaidPost (refused_said f d g) old d w g new
  refused-said f d g p = record { put = p; short = omega (arith, refusal-short f); desk = refl; going = refl }

  -- `none`
  pub none_said : (d : Desk) → PutPost none_line old w new → SaidPost (record { text = none_line; desk = d; going = false }) old d w false new
  unfolding line bytes
  none_said d p = record { put = p; short = omega arith; desk = refl; going = refl }

-- THE STATE
module _ (r : Railway) (figs : List ℕ) (d : Desk) (v : ℕ) (old new : List ℕ) (w : Written) where
  pub given-home : d.arrived ≡ r.trains → PutPost home_line old w new → SaidPost (given_said r figs d v) old d w false new
  given-home e h = let z : eqb d.arrived r.trains ≡ true = eq-eqb d.arrived r.trains e in rw z (record { put = h; short = home-short; desk = refl; going = refl })

  pub given-away : record_refusal r ≡ none → (d.arrived ≡ r.trains → ⊥) → (n : ℕ) → n ≡ get_or figs d.code no_figure
      → (r.trains ≤ most_trains → r.points ≤ most_points → PutPost (state_line r.trains r.points d.at n v) old w new) → SaidPost (given_said r figs d v) old d w true new
  given-away accepted e n entry h =
      let f = facts r accepted in
      let z : eqb d.arrived r.trains ≡ false = ne_eqb d.arrived r.trains e in
      let short = state-short r.trains r.points d.at n v f.few-trains f.few-points in
      rw (z, ← entry) (record { put = h f.few-trains f.few-points; short = short; desk = refl; going = refl })

module _ (r : Railway) (figs sets : List ℕ) where
  module _ (d : Desk) (a : SettingAnswer) (post : SettingPost r d figs sets a) where
    -- a setting is given only where nothing is refused
    given-none : (o : Option Refusal) (v x : ℕ) → setting_by x o ≡ Given v → o ≡ none
    given-none none v x e = refl
    given-none (some f) v x e = let z : ◌≡◌ {A = ℕ} 0 1 = cc in absurd (omega arith)

    rows_none : (o : Option Refusal) (b : Bool) → or_else o (first (row Report b ∷ [])) ≡ none → o ≡ none
    rows_none none b e = refl
    rows_none (some f) b e = some-none refl e

    pub given-accepted : (v : ℕ) → a ≡ Given v → record_refusal r ≡ none
    unfolding give_setting
    given-accepted v e =
        let all = given-none (first (setting_rows r d figs sets)) v _ (sym post.answers ∙ e) in
        ((case-none r figs sets).0 (rows_none (case_refusal r figs sets) (desk_row r d) (sym (case-then r figs sets (row Report (desk_row r d) ∷ [])) ∙ all))).0

    module _ {old new : List ℕ} {w : Written} {e : Desk} {g : Bool} where
      pub setting-said : (x : SettingAnswer) → a ≡ x → SaidPost (setting_said r figs d x) old e w g new → SaidPost (state_said r figs sets d) old e w g new
      setting-said x told p = subst (λ (z : SettingAnswer). SaidPost (setting_said r figs d z) old e w g new) (sym told ∙ post.answers) p

  module _ {old new : List ℕ} {w : Written} {e : Desk} {g : Bool} where
    -- THE OPENING
    pub opening-said : (x : Opening) → OpenPost r figs sets x → (a : OpenAnswer) → x.answer ≡ a → SaidPost (opened_said r figs sets a x.desk) old e w g new
        → SaidPost (opening_said r figs sets) old e w g new
    opening-said x post a told p =
        subst (λ (z : Opening). SaidPost (opened_said r figs sets z.answer z.desk) old e w g new) post.answers
        (subst (λ (z : OpenAnswer). SaidPost (opened_said r figs sets z x.desk) old e w g new) (sym told) p)

    -- where no desk is opened, beside one that stands nowhere
    pub nowhere-said : (x : Opening) → OpenPost r figs sets x → (a : OpenAnswer) → x.answer ≡ a → e ≡ x.desk → SaidPost (opened_said r figs sets a e) old e w g new
        → SaidPost (opening_said r figs sets) old e w g new
    nowhere-said x post a told is p = opening-said x post a told (subst (λ (z : Desk). SaidPost (opened_said r figs sets a z) old e w g new) is p)

    -- A REPORT
    pub reply-said : (d : Desk) (t x : ℕ) (y : Reply) → ReportPost r d figs sets t x y → (a : ReportAnswer) → y.answer ≡ a → SaidPost (replied_said r figs sets a y.desk) old e w g new
        → SaidPost (moved_said r figs sets d t x) old e w g new
    reply-said d t x y post a told p =
        subst (λ (z : Reply). SaidPost (report_said r figs sets z) old e w g new) post.answers
        (subst (λ (z : ReportAnswer). SaidPost (replied_said r figs sets z y.desk) old e w g new) (sym told) p)

    -- A LINE
    pub line-said : (d : Desk) (l : List ℕ) (o : Option Told) → o ≡ report_in l → SaidPost (told_said r figs sets d o) old e w g new → SaidPost (line_said r figs sets d l) old e w g new
    line-said d l o read p = subst (λ (z : Option Told). SaidPost (told_said r figs sets d z) old e w g new) read p

    pub report-said : (d : Desk) (y : Told) (t x : ℕ) → t ≡ place_of y.train → x ≡ place_of y.section → SaidPost (moved_said r figs sets d t x) old e w g new
        → SaidPost (told_said r figs sets d (some y)) old e w g new
    report-said d y t x train section p = rw (← train, ← section) p
