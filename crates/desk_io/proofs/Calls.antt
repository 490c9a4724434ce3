-- Behind every line the panel is the one before it, with the desk that the call handed back, or the new case with its tables and the desk that went over; so behind all of them it is one that
-- calls for reports and changes lead to. The new tables can be followed, since the solver filled them wherever a change is made. Assumes nothing.
use mathlib.Core.Path.{◌≡◌, refl, sym, ◌∙◌, ap, subst}
use mathlib.Core.Logic.{inl, inr}
use mathlib.Core.Bool.{Bool, true, false, cond}
use mathlib.Core.List.Memᴰ
use mathlib.Core.List.{List, [], ◌∷◌}
use mathlib.Core.Option.{Option, none, some}
use Prim.Native.Nat.{ℕ}
use lib.Dec.{eqb}
use Rattle.laws.specs.Lists.{Every}
use Rattle.laws.proofs.Bools.{bool?, option?, some-none}
use Rattle.railway.specs.declared.Railway.{Railway}
use Rattle.railway.specs.CaseAnswer.{CaseAnswer, Accepted, Refused as CaseRefused}
use Rattle.railway.specs.Refusals.{number_given}
use Rattle.railway.specs.Rows.{record_refusal}
use Rattle.case_file.specs.Given.{railway_given, AcceptedWith}
use Rattle.game.specs.Placement.{start_code}
use Rattle.game_tables.specs.SolverAnswer.{SolverAnswer}
use Rattle.game_tables.specs.Tables.{figure_in, tables_short, case_refusal}
use Rattle.game_tables.specs.Solver.{figure_given, SolverTables, SolverPost}
use Rattle.game_tables.proofs.Refusals.{case-accepted}
use Rattle.desk.specs.SettingAnswer.{SettingAnswer, Given, Refused as SettingRefused}
use Rattle.desk.specs.ReportAnswer.{ReportAnswer, Counted, Refused as ReportRefused}
use Rattle.desk.specs.ChangeAnswer.{ChangeAnswer, Changed, Refused}
use Rattle.desk.specs.Desk.{Desk, give_setting, report}
use Rattle.desk.specs.Following.{Followable}
use Rattle.desk.specs.Change.{Changing, change_to, ChangePost, Working, beginning_with, Works, started, reports, changes, change-refused}
use Rattle.desk.proofs.Following.{filled-followable}
use Rattle.desk.proofs.Inhabited.{report-made}
use Rattle.desk.proofs.ChangeRows.{made, read-accepted}
use Rattle.desk.proofs.ChangeInhabited.{read_made, refused-made}
use Rattle.desk_lines.specs.Reports.{Told, report_in, place_of}
use Rattle.desk_lines.specs.Changes.{is_change}
use Rattle.desk_text.specs.Said.{given_said, setting_said, replied_said, told_said}
use Rattle.desk_io.specs.Session.{Panel, panel_of, Input, change_read, changed_heard, heard_for, panel_behind}
use Rattle.desk_io.specs.Followed.{blank, FileRead, Came, ByCalls}

-- THE DESK of what is said
module _ (r : Railway) (figs sets : List ℕ) where
  given-desk : (d : Desk) (v : ℕ) → (given_said r figs d v).desk ≡ d
  given-desk d v = elim (bool? (eqb d.arrived r.trains)) [ inl e ↦ rw e | inr e ↦ rw e ]

  setting-desk : (d : Desk) (a : SettingAnswer) → (setting_said r figs d a).desk ≡ d
  setting-desk d (Given v) = given-desk d v
  setting-desk d (SettingRefused f) = refl

  replied-desk : (a : ReportAnswer) (d : Desk) → (replied_said r figs sets a d).desk ≡ d
  replied-desk Counted d = setting-desk d (give_setting r d figs sets)
  replied-desk (ReportRefused f) d = refl

-- TABLES that the solver was lent blank can be followed wherever they are long enough
follows : (s : Railway) (a : SolverAnswer) (figs sets : List ℕ) → record_refusal s ≡ none → SolverPost s a blank blank figs sets → tables_short s figs sets ≡ false → Followable s figs sets
follows s a figs sets acc post long = elim (option? (case_refusal s blank blank)) [
  | inl ok ↦
      (let t : SolverTables s blank blank figs sets × (figure_given a ≡ figure_in figs (start_code s)) = rw ok at post.leaves in
      filled-followable s acc figs sets t.0.filled)
  | inr q ↦
      (let e : case_refusal s blank blank ≡ some q.0 = q.1 in
      let t : (figs ≡ blank) × (sets ≡ blank) = rw e at post.leaves in
      let short : tables_short s blank blank ≡ false = rw (t.0, t.1) at long in
      let ok : case_refusal s blank blank ≡ none = case-accepted s blank blank acc ∙ rw short refl in
      some-none e ok)
]

-- ONE LINE, then all
module _ (v : Working) where
  -- calls lead to this panel
  record Reached (p : Panel) : Type 0 where
    working : Working
    calls : Works v working
    is : panel_of working.railway working.figs working.sets working.desk ≡ p

  module _ (w : Working) (calls : Works v w) (x : Input) where
    abbrev here : Panel
    here = panel_of w.railway w.figs w.sets w.desk

    abbrev new : Railway
    new = x.read.railway

    -- a report, or none
    told-reached : (o : Option Told) → Reached (panel_of w.railway w.figs w.sets (told_said w.railway w.figs w.sets w.desk o).desk)
    told-reached none = record { working = w; calls = calls; is = refl }
    told-reached (some y) =
        let t = place_of y.train in
        let s = place_of y.section in
        let z = report w.railway w.desk w.figs w.sets t s in
        record {
          working = _;
          calls = reports t s z calls (report-made w.railway w.desk w.figs w.sets t s);
          is = ap (panel_of w.railway w.figs w.sets) (sym (replied-desk w.railway w.figs w.sets z.answer z.desk));
        }

    -- a change, by its answer
    module _ (f : FileRead x) where
      by_answer : (y : Changing) → ChangePost w.railway x.file w.desk x.figs x.sets y → AcceptedWith x.file new → (z : ChangeAnswer) → y.answer ≡ z
          → Reached (changed_heard here x z y.desk).panel
      by_answer y post a Changed e =
          let n = (made w.railway x.file w.desk x.figs x.sets y post new a e).0 in
          record {
            working = beginning_with new x.figs x.sets y.desk;
            calls = changes x.file new x.figs x.sets y calls a (follows new f.answer x.figs x.sets (read-accepted x.file new a) f.solved n.long) post e;
            is = ap (panel_of new x.figs x.sets) (sym (setting-desk new x.figs x.sets y.desk (give_setting new y.desk x.figs x.sets)));
          }
      by_answer y post a (Refused g) e = record { working = _; calls = change-refused w.railway x.file x.figs x.sets g y calls post e; is = refl }

      by_read : (c : CaseAnswer) → x.read.answer ≡ c
          → Reached (changed_heard here x (change_read w.railway w.desk x.figs x.sets c new).answer (change_read w.railway w.desk x.figs x.sets c new).desk).panel
      by_read Accepted e =
          let a : AcceptedWith x.file new = (f.reads.railway new).0 (ap (λ (c : CaseAnswer). railway_given c new) e) in
          by_answer (change_to w.railway new w.desk x.figs x.sets) (read_made w.railway x.file w.desk x.figs x.sets new a) a _ refl
      by_read (CaseRefused g) e =
          record {
            working = _;
            calls =
                change-refused w.railway x.file x.figs x.sets _ _ calls
                (refused-made w.railway x.file w.desk x.figs x.sets g ((f.reads.numbered g).0 (ap number_given e))) refl;
            is = refl;
          }

    line-reached : Came x → Reached (heard_for here x).panel
    line-reached came = elim (bool? (is_change x.line)) [
      | inl e ↦ rw e (by_read (came e) x.read.answer refl)
      | inr e ↦ rw e (told-reached (report_in x.line))
    ]

  next-reached : (p : Panel) (x : Input) → Came x → Reached p → Reached (heard_for p x).panel
  next-reached p x came h = subst (λ (q : Panel). Reached (heard_for q x).panel) h.is (line-reached h.working h.calls x came)

  going-on : (b : Bool) (p q : Panel) → (Reached p → Reached q) → Reached p → Reached (cond b q p)
  going-on true p q on h = on h
  going-on false p q on h = h

  lines-reached : (p : Panel) (xs : List Input) → Every Came xs → Reached p → Reached (panel_behind p xs)
  unfolding panel_behind
  lines-reached p [] came h = h
  lines-reached p (x ∷ xs) came h =
      going-on (heard_for p x).going (heard_for p x).panel _ (lines-reached (heard_for p x).panel xs (λ y m. came y (Memᴰ.tail m)))
      (next-reached p x (came x (Memᴰ.head refl)) h)

pub by-calls : ByCalls
by-calls r figs sets d xs came =
    let h = lines-reached (beginning_with r figs sets d) (panel_of r figs sets d) xs came (record { working = beginning_with r figs sets d; calls = started; is = refl }) in
    (h.working, h.calls, h.is)
