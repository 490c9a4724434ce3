-- What holds of any desk, whatever is lent. A report counts exactly if no row applies; then the way that its train takes ends on the section reported, empty and not closed, so the
-- move ends in the desk's placement with the train put there, and that placement tells the section. What is handed out carries what is right, and what is refused
-- is handed back. Where no desk is opened, 255 stands for each section. Assumes nothing.
use mathlib.Core.Path.{◌≡◌, refl, sym, ◌∙◌, ap}
use mathlib.Core.Logic.{inl, inr}
use mathlib.Core.Bool.{Bool, true, false, not}
use mathlib.Core.List.{List, [], ◌∷◌, ◌++◌}
use mathlib.Core.Option.{Option, none, some}
use Prim.Native.Nat.{ℕ, ◌<◌}
use native.Mathlib.Omega.{arith}
use lib.ListN.{get_or, length, set}
use lib.Seq.{get_or-set_same}
use lib.Dec.{ltb}
use borrow.Author.Tests.{eqb-true, eq-eqb}
use Rattle.laws.specs.Below.{or_else}
use Rattle.laws.proofs.Bools.{bool?, clash, some-none, and-true, and_both, not-true, not_is, or-false, or-none, or_left, or_right}
use Rattle.laws.proofs.Below.{all-at}
use Rattle.railway.specs.declared.Railway.{Railway}
use Rattle.railway.specs.declared.Refusal.{Refusal}
use Rattle.railway.specs.declared.Refusal.TheVariants.{Report}
use Rattle.railway.specs.Bounds.{most_trains}
use Rattle.railway.specs.Refusals.{Row, row, refuse_if, first}
use Rattle.railway.specs.Record.{is_closed}
use Rattle.railway.specs.Passing.{passes, in_use, entered}
use Rattle.railway.specs.Rows.{record_refusal}
use Rattle.game.specs.Game.{Loss, lost, at, may}
use Rattle.game.specs.Placement.{start_code, arrived, at_home, sections_of}
use Rattle.game.specs.Setting.{Setting, heads_for, held, free, signal_open, may_move}
use Rattle.game.specs.Moves.{occupied, code_with, enters, move_of, game_of}
use Rattle.game.proofs.Accepted.{Facts, facts}
use Rattle.game.proofs.Placement.{sections-length}
use Rattle.game.proofs.Moves.{passes-below, sections-with}
use Rattle.game.proofs.Naming.{some-named}
use Rattle.game.proofs.Local.{may-train}
use Rattle.game_tables.specs.Tables.{figure_in, case_rows, case_refusal}
use Rattle.game_tables.proofs.Refusals.{case-none, case-then}
use Rattle.game_placement.specs.ByValue.{section_in}
use Rattle.desk.specs.OpenAnswer.{OpenAnswer, Opened}
use Rattle.desk.specs.SettingAnswer.{Given, Refused as SettingRefused}
use Rattle.desk.specs.ReportAnswer.{ReportAnswer, Counted, Refused}
use Rattle.desk.specs.Desk.{Desk, desk_code, misplaced, desk_row, start_desk, no_desk, Opening, open_by, open_desk}
use Rattle.desk.specs.Desk.{setting_by, give_setting, present, comes_to, allows, report_row, report_rows, moved_desk}
use Rattle.desk.specs.Desk.{Reply, report_by, report, desk_given, OpenPost, ReportPost}
use Rattle.desk.specs.Following.{Reporting, begun, call, refused, Carries, Countable, AnyDesk}
use Rattle.desk.proofs.Carrying.{made-right, sound-exactly, lamp-home}
use Rattle.desk.proofs.Placing.{placed-exactly, Placed, placed-so, moved-placed, moved-code}

-- an outcome is a loss or a placement
lost-at : {A : Type 0} {l : Loss} {q : ℕ} → lost l ≡ at q → A
lost-at e = let z : ◌≡◌ {A = ℕ} 0 1 = cc in absurd (omega arith)

at_one : {p q : ℕ} → at p ≡ at q → p ≡ q
at_one e = cc

-- a way that comes to section x
comes-to : (o : Option ℕ) (x : ℕ) → comes_to o x ≡ true → o ≡ some x
comes-to none x e = clash e refl
comes-to (some y) x e = ap (λ (z : ℕ). some z) (eqb-true y x e)

-- an answer that counts is none that is refused
abbrev counts? : ReportAnswer → Bool
counts? Counted = true
counts? (Refused f) = false

-- ANY REPORT that is refused, whatever was lent, leaves the desk.
by-refused : (r : Railway) (d : Desk) (t x : ℕ) (o : Option Refusal) (f : Refusal) → (report_by r d t x o).answer ≡ Refused f → (report_by r d t x o).desk ≡ d
by-refused r d t x none f e = clash {b = true} refl (ap counts? e)
by-refused r d t x (some g) f e = refl

pub refused-leaves : (r : Railway) (d : Desk) (figs sets : List ℕ) (t x : ℕ) (y : Reply) (f : Refusal) → ReportPost r d figs sets t x y → y.answer ≡ Refused f → y.desk ≡ d
unfolding report
refused-leaves r d figs sets t x y f post e =
    ap (λ (w : Reply). w.desk) post.answers
    ∙ by-refused r d t x (first (report_rows r d figs sets t x)) f (sym (ap (λ (w : Reply). w.answer) post.answers) ∙ e)

-- and one that counts has its train on the section reported
by-counted : (r : Railway) (d : Desk) (t x : ℕ) (o : Option Refusal) → (report_by r d t x o).answer ≡ Counted → (o ≡ none) × ((report_by r d t x o).desk ≡ moved_desk r d t x)
by-counted r d t x none e = (refl, refl)
by-counted r d t x (some g) e = clash {b = false} (ap counts? e) refl

counted-first : (r : Railway) (d : Desk) (figs sets : List ℕ) (t x : ℕ) (y : Reply) → ReportPost r d figs sets t x y → y.answer ≡ Counted
    → (first (report_rows r d figs sets t x) ≡ none) × (y.desk ≡ moved_desk r d t x)
unfolding report
counted-first r d figs sets t x y post e =
    let b = by-counted r d t x (first (report_rows r d figs sets t x)) (sym (ap (λ (w : Reply). w.answer) post.answers) ∙ e) in
    (b.0, ap (λ (w : Reply). w.desk) post.answers ∙ b.1)

-- the rows of the case come first
case-first : (r : Railway) (figs sets : List ℕ) (rest : List Row) → first (case_rows r figs sets ++ rest) ≡ none → case_refusal r figs sets ≡ none
case-first r figs sets rest e = go (case_refusal r figs sets) (sym (case-then r figs sets rest) ∙ e)
  where
    go : (o : Option Refusal) → or_else o (first rest) ≡ none → o ≡ none
    go none e = refl
    go (some f) e = some-none refl e

-- AT HOME each train has arrived, so none may move.
parked : (r : Railway) (p : ℕ) (s : Setting) (t : ℕ) → arrived r p t ≡ true → may_move r p s t ≡ false
unfolding may_move free signal_open held
parked r p s t e = rw e refl

pub none-may : (r : Railway) (p : ℕ) (s : Setting) (t : ℕ) → at_home r p ≡ true → may (game_of r) p s t ≡ false
unfolding at_home
none-may r p s t e = elim (bool? (may (game_of r) p s t)) [
  | inr z ↦ z
  | inl z ↦ clash (and-true (ltb t r.trains) (may_move r p s t) z).1 (parked r p s t (all-at (arrived r p) r.trains e t (may-train (game_of r) p s t z)))
]

home-parks : (r : Railway) (d : Desk) (sets : List ℕ) (t x : ℕ) → at_home r (desk_code r d) ≡ true → allows r d sets t x ≡ false
unfolding allows
home-parks r d sets t x e = let z : may (game_of r) (desk_code r d) (present r d sets) t ≡ false = none-may r (desk_code r d) (present r d sets) t e in rw z refl

-- THE CALLS, behind the rows of the case
module _ (r : Railway) (figs sets : List ℕ) (fits : case_refusal r figs sets ≡ none) where
  report-is : (d : Desk) (t x : ℕ) → report r d figs sets t x ≡ report_by r d t x (refuse_if (report_row r d sets t x) Report none)
  unfolding report first
  report-is d t x =
      let e : or_else (case_refusal r figs sets) (refuse_if (report_row r d sets t x) Report none) ≡ refuse_if (report_row r d sets t x) Report none = rw fits refl in
      ap (report_by r d t x) (case-then r figs sets (row Report (report_row r d sets t x) ∷ []) ∙ e)

  pub setting-is : (d : Desk) → desk_row r d ≡ false → give_setting r d figs sets ≡ Given (get_or sets (desk_code r d) 0)
  unfolding give_setting first
  setting-is d well =
      let e : or_else (case_refusal r figs sets) (refuse_if (desk_row r d) Report none) ≡ none = rw (fits, well) refl in
      ap (setting_by (get_or sets (desk_code r d) 0)) (case-then r figs sets (row Report (desk_row r d) ∷ []) ∙ e)

  setting-stopped : (d : Desk) → desk_row r d ≡ true → give_setting r d figs sets ≡ SettingRefused Report
  unfolding give_setting first
  setting-stopped d off =
      let e : or_else (case_refusal r figs sets) (refuse_if (desk_row r d) Report none) ≡ some Report = rw (fits, off) refl in
      ap (setting_by (get_or sets (desk_code r d) 0)) (case-then r figs sets (row Report (desk_row r d) ∷ []) ∙ e)

  pub open_is : open_desk r figs sets ≡ open_by r none (figure_in figs (start_code r))
  unfolding open_desk case_refusal
  open_is = ap (λ (f : Option Refusal). open_by r f (figure_in figs (start_code r))) fits

  module _ (d : Desk) (t x : ℕ) (y : Reply) (post : ReportPost r d figs sets t x y) where
    pub reply-counts : report_row r d sets t x ≡ false → y ≡ record { answer = Counted; desk = moved_desk r d t x }
    reply-counts e = post.answers ∙ report-is d t x ∙ ap (λ (b : Bool). report_by r d t x (refuse_if b Report none)) e

    pub reply-refused : report_row r d sets t x ≡ true → y ≡ record { answer = Refused Report; desk = d }
    reply-refused e = post.answers ∙ report-is d t x ∙ ap (λ (b : Bool). report_by r d t x (refuse_if b Report none)) e

    -- what counts, row 12 did not stop
    pub not_stopped : y.answer ≡ Counted → report_row r d sets t x ≡ false
    not_stopped e = not-true (report_row r d sets t x) (λ z. clash (ap counts? e) (ap (λ (w : Reply). counts? w.answer) (reply-refused z)))

-- A MOVE THAT IS NAMED
module _ (r : Railway) (sets : List ℕ) where
  -- by a report that row 12 does not stop
  pub record Named (d : Desk) (t x : ℕ) : Type 0 where
    pub away : at_home r (desk_code r d) ≡ false
    pub go : may (game_of r) (desk_code r d) (present r d sets) t ≡ true
    pub to : (passes r (present r d sets).plus (heads_for r (desk_code r d) t)).reached ≡ some x
    pub empty : occupied r (desk_code r d) t x ≡ false
    pub in-use : is_closed r x ≡ false

  pub named : (d : Desk) (t x : ℕ) → report_row r d sets t x ≡ false → (desk_row r d ≡ false) × Named d t x
  unfolding report_row allows
  named d t x e =
      let a = or-false (desk_row r d) _ e in
      let b = or-false (at_home r (desk_code r d)) _ a.1 in
      let c = or-false (not (allows r d sets t x)) _ b.1 in
      let f = or-false (occupied r (desk_code r d) t x) (is_closed r x) c.1 in
      let m = and-true (may (game_of r) (desk_code r d) (present r d sets) t) _ (not_is (allows r d sets t x) c.0) in
      (a.0, record { away = b.0; go = m.0; to = comes-to _ x m.1; empty = f.0; in-use = f.1 })

  -- and each such move is named so
  pub row-off : (d : Desk) (t x : ℕ) → desk_row r d ≡ false → Named d t x → report_row r d sets t x ≡ false
  unfolding report_row allows
  row-off d t x well n =
      or-none (desk_row r d) _ well
      (or-none (at_home r (desk_code r d)) _ n.away
      (or-none (not (allows r d sets t x)) _
      (ap not (and_both (may (game_of r) (desk_code r d) (present r d sets) t) _ n.go (ap (λ (o : Option ℕ). comes_to o x) n.to ∙ eq-eqb x x refl)))
      (or-none (occupied r (desk_code r d) t x) (is_closed r x) n.empty n.in-use)))

  moves-to : (d : Desk) (t x : ℕ) → Named d t x → move_of r (desk_code r d) (present r d sets) t ≡ at (code_with r (desk_code r d) t x)
  unfolding move_of entered
  moves-to d t x n = rw (n.to, n.in-use, n.empty) refl

  pub home-refused : (d : Desk) (t x : ℕ) → at_home r (desk_code r d) ≡ true → report_row r d sets t x ≡ true
  unfolding report_row
  home-refused d t x e = or_right (desk_row r d) _ (or_left (at_home r (desk_code r d)) _ e)

  desk-refused : (d : Desk) (t x : ℕ) → desk_row r d ≡ true → report_row r d sets t x ≡ true
  unfolding report_row
  desk-refused d t x e = or_left (desk_row r d) _ e

  module _ (ok : Facts r) (d : Desk) (placed : Placed r d) (t x : ℕ) where
    train-there : may (game_of r) (desk_code r d) (present r d sets) t ≡ true → t < r.trains
    train-there go = may-train (game_of r) (desk_code r d) (present r d sets) t go

    -- it ends in the placement that has its train on that section
    module _ (n : Named d t x) where
      pub section-there : x < r.sections
      section-there = passes-below r ok (present r d sets).plus (heads_for r (desk_code r d) t) x n.to

      pub move-is : move_of r (desk_code r d) (present r d sets) t ≡ at (desk_code r (moved_desk r d t x))
      move-is = moves-to d t x n ∙ ap (λ (c : ℕ). at c) (sym (moved-code r ok d placed t x (train-there n.go)))

      pub next-placed : Placed r (moved_desk r d t x)
      next-placed = moved-placed r ok d placed t x (train-there n.go) section-there n.empty

    -- and a move that ends there is named so: the placement tells the section
    module _ (l : t < r.trains) (b : x < r.sections) where
      put-there : (z : ℕ) → get_or (set (sections_of r (desk_code r d)) t z) t 0 ≡ z
      put-there z =
          let e : length (sections_of r (desk_code r d)) ≡ r.trains = sections-length r.sections r.trains (desk_code r d) in
          get_or-set_same (sections_of r (desk_code r d)) t z 0 (rw e l)

      one-section : (z : ℕ) → z < r.sections → code_with r (desk_code r d) t z ≡ code_with r (desk_code r d) t x → z ≡ x
      one-section z c e =
          sym (put-there z)
          ∙ ap (λ (xs : List ℕ). get_or xs t 0) (sym (sections-with r ok (desk_code r d) t z c) ∙ ap (sections_of r) e ∙ sections-with r ok (desk_code r d) t x b) ∙ put-there x

      comes : (o : Option ℕ) → (passes r (present r d sets).plus (heads_for r (desk_code r d) t)).reached ≡ o
          → enters r (desk_code r d) t (in_use r o) ≡ at (code_with r (desk_code r d) t x) → (o ≡ some x) × (occupied r (desk_code r d) t x ≡ false) × (is_closed r x ≡ false)
      comes none e q = lost-at q
      comes (some z) e q = elim (bool? (is_closed r z)) [
        | inl c ↦ lost-at (rw c at q)
        | inr c ↦ elim (bool? (occupied r (desk_code r d) t z)) [
          | inl o ↦ lost-at (rw (c, o) at q)
          | inr o ↦
              let s : z ≡ x =
              one-section z (passes-below r ok (present r d sets).plus (heads_for r (desk_code r d) t) z e) (at_one (rw (c, o) at q)) in
              (ap (λ (n : ℕ). some n) s, rw s at o, rw s at c)
        ]
      ]

    names : at_home r (desk_code r d) ≡ false → may (game_of r) (desk_code r d) (present r d sets) t ≡ true → x < r.sections
        → move_of r (desk_code r d) (present r d sets) t ≡ at (desk_code r (moved_desk r d t x)) → Named d t x
    unfolding move_of entered
    names away go b e =
        let l : t < r.trains = train-there go in
        let c = comes l b (passes r (present r d sets).plus (heads_for r (desk_code r d) t)).reached refl (e ∙ ap (λ (k : ℕ). at k) (moved-code r ok d placed t x l)) in
        record { away = away; go = go; to = c.0; empty = c.1; in-use = c.2 }

-- WHICH REPORTS COUNT
module _ (r : Railway) (figs sets : List ℕ) (d : Desk) (sized : length d.at.sections ≡ most_trains) (t x : ℕ) (y : Reply) (post : ReportPost r d figs sets t x y) where
  fine : case_refusal r figs sets ≡ none → Facts r
  fine fits = facts r ((case-none r figs sets).0 fits).0

  well : desk_row r d ≡ false → Placed r d
  well e = placed-so r d sized e

  counted-so : y.answer ≡ Counted → Countable r figs sets d t x
  counted-so q =
      let fits : case_refusal r figs sets ≡ none = case-first r figs sets _ (counted-first r d figs sets t x y post q).0 in
      let n : (desk_row r d ≡ false) × Named r sets d t x = named r sets d t x (not_stopped r figs sets fits d t x y post q) in
      record {
        accepted = fits;
        placed = n.0;
        away = n.1.away;
        allowed = n.1.go;
        there = section-there r sets (fine fits) d (well n.0) t x n.1;
        ends = move-is r sets (fine fits) d (well n.0) t x n.1;
      }

  so-counted : Countable r figs sets d t x → y.answer ≡ Counted
  so-counted c =
      ap (λ (w : Reply). w.answer) (reply-counts r figs sets c.accepted d t x y post
      (row-off r sets d t x c.placed (names r sets (fine c.accepted) d (well c.placed) t x c.away c.allowed c.there c.ends)))

-- WHAT IS CARRIED, from the opening on
by-opened : (r : Railway) (o : Option Refusal) (f : Option ℕ) → (open_by r o f).answer ≡ Opened → (open_by r o f).desk ≡ start_desk r
by-opened r (some g) f e = some-none {o = some no_desk} refl (ap (λ (a : OpenAnswer). desk_given a no_desk) (sym e))
by-opened r none none e = some-none {o = some no_desk} refl (ap (λ (a : OpenAnswer). desk_given a no_desk) (sym e))
by-opened r none (some n) e = refl

opened-right : (r : Railway) (figs sets : List ℕ) (x : Opening) → OpenPost r figs sets x → x.answer ≡ Opened → Carries r x.desk
unfolding open_desk
opened-right r figs sets x post e =
    let d : x.desk ≡ start_desk r =
    ap (λ (w : Opening). w.desk) post.answers
    ∙ by-opened r (first (case_rows r figs sets)) (figure_in figs (start_code r)) (sym (ap (λ (w : Opening). w.answer) post.answers) ∙ e) in
    rw d (made-right r _)

module _ (r : Railway) (figs sets : List ℕ) where
  -- one report more, by its answer
  right-on : (d : Desk) (t x : ℕ) (y : Reply) → Carries r d → ReportPost r d figs sets t x y → (a : ReportAnswer) → y.answer ≡ a → Carries r y.desk
  right-on d t x y c post Counted e = let q : y.desk ≡ moved_desk r d t x = (counted-first r d figs sets t x y post e).1 in rw q (made-right r _)
  right-on d t x y c post (Refused f) e = let q : y.desk ≡ d = refused-leaves r d figs sets t x y f post e in rw q c

  stays-right : {d e : Desk} {ts : List ℕ} → Carries r d → Reporting r figs sets d ts e → Carries r e
  stays-right c begun = c
  stays-right c (call {e = e} t x y rest post) = right-on e t x y (stays-right c rest) post y.answer refl
  stays-right c (refused {e = e} o figs₁ sets₁ t x f y rest post shown) = let q : y.desk ≡ e = refused-leaves o e figs₁ sets₁ t x y f post shown in rw q (stays-right c rest)

-- WHERE NO DESK IS OPENED
by-unopened : (r : Railway) (o : Option Refusal) (f : Option ℕ) → desk_given (open_by r o f).answer (open_by r o f).desk ≡ none → (open_by r o f).desk ≡ no_desk
by-unopened r (some g) f e = refl
by-unopened r none none e = refl
by-unopened r none (some n) e = some-none refl e

no-desk : (r : Railway) → record_refusal r ≡ none → desk_row r no_desk ≡ true
unfolding misplaced
no-desk r acc =
    or_left (misplaced r no_desk.at) _ (or_left _ _ (some-named r (section_in no_desk.at) 0 (facts r acc).one-train (omega (arith, (facts r acc).few-sections))))

unopened : (r : Railway) (figs sets : List ℕ) (x : Opening) → OpenPost r figs sets x → desk_given x.answer x.desk ≡ none → x.desk ≡ no_desk
unfolding open_desk
unopened r figs sets x post e =
    ap (λ (w : Opening). w.desk) post.answers
    ∙ by-unopened r (first (case_rows r figs sets)) (figure_in figs (start_code r)) (sym (ap (λ (w : Opening). desk_given w.answer w.desk) post.answers) ∙ e)

pub any-desk : AnyDesk
any-desk =
    record {
      placed = placed-exactly;
      sound = sound-exactly;
      stopped-setting = λ r figs sets d fits off a post. post.answers ∙ setting-stopped r figs sets fits d off;
      stopped-report = λ r figs sets d fits off t x y post. ap (λ (w : Reply). w.answer) (reply-refused r figs sets fits d t x y post (desk-refused r sets d t x off));
      opened-right = opened-right;
      stays-right = λ r figs sets d c ts e calls. stays-right r figs sets c calls;
      lamp = lamp-home;
      counted = λ r figs sets d sized t x y post. (counted-so r figs sets d sized t x y post, so-counted r figs sets d sized t x y post);
      next = λ r figs sets d t x y post q. (counted-first r d figs sets t x y post q).1;
      leaves = λ r figs sets d t x y f post q. refused-leaves r d figs sets t x y f post q;
      home-parks = home-parks;
      unopened = λ r figs sets x post e o acc. ap (desk_row o) (unopened r figs sets x post e) ∙ no-desk o acc;
    }
