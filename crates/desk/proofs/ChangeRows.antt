-- The rows of a change, one by one, in words, and what the call is answered by them: a text is refused or read, and not both; a change is made exactly if no row applies. Assumes nothing.
use mathlib.Core.Path.{◌≡◌, refl, sym, ◌∙◌, ap}
use mathlib.Core.Logic.{inl, inr}
use mathlib.Core.Bool.{Bool, true, false, not}
use mathlib.Core.List.{List, ◌++◌}
use mathlib.Core.Option.{Option, none, some}
use Prim.Native.Nat.{ℕ}
use lib.Dec.{eqb}
use borrow.Author.Tests.{eqb-true, eq-eqb}
use Rattle.laws.specs.Below.{or_else}
use Rattle.laws.proofs.Bools.{clash, some-none, some_one, or-false, or-none, not_is}
use Rattle.laws.proofs.Below.{any_false, none_any}
use Rattle.railway.specs.declared.Side.{Side}
use Rattle.railway.specs.declared.Side.TheVariants.{Up, Down}
use Rattle.railway.specs.declared.Railway.{Railway}
use Rattle.railway.specs.declared.Refusal.{Refusal}
use Rattle.railway.specs.declared.Refusal.TheVariants.{Mismatch, Space, Report, Stranded}
use Rattle.railway.specs.Ends.{side_index}
use Rattle.railway.specs.Refusals.{number, refuse_if, first}
use Rattle.railway.specs.Rows.{record_rows, record_refusal}
use Rattle.railway.proofs.Refusals.{first-append, refuse-none, number-one}
use Rattle.case_file.specs.Given.{RefusedWith, AcceptedWith}
use Rattle.case_file.proofs.Given.{refused-exactly, accepted-exactly, always-answered}
use Rattle.case_file.proofs.Again.{accepted-again}
use Rattle.game_tables.specs.Tables.{figure_in, tables_short}
use Rattle.game_tables.proofs.Refusals.{Enough, case-none, case-accepted}
use Rattle.game_placement.specs.declared.Placement.{Placement}
use Rattle.desk.specs.ChangeAnswer.{ChangeAnswer, Changed, Refused}
use Rattle.desk.specs.Desk.{Desk, desk_code, desk_row, desk_on}
use Rattle.desk.specs.Following.{Carries, Apart}
use Rattle.desk.specs.Change.{heads_other, mismatch, is_none, stranded, change_rows, Changing, change_by, change_to, number_changed, ChangePost, SameShape, CanChange}
-- (ChangeExamples is named so that it is checked before: a wrong definition then shows at a computed value.)
use Rattle.desk.proofs.Carrying.{made-right}

-- THE SHAPE. Headings that agree.
side_same : (a b : Side) → eqb (side_index a) (side_index b) ≡ true → a ≡ b
side_same Up Up e = refl
side_same Up Down e = clash e refl
side_same Down Up e = clash e refl
side_same Down Down e = refl

pub shape_of : (r s : Railway) → mismatch r s ≡ false → SameShape r s
unfolding mismatch
shape_of r s e =
    let a = or-false (not (eqb r.sections s.sections)) _ e in
    let b = or-false (not (eqb r.trains s.trains)) _ a.1 in
    record {
      sections = eqb-true r.sections s.sections (not_is _ a.0);
      trains = eqb-true r.trains s.trains (not_is _ b.0);
      headings = λ t l. side_same _ _ (not_is _ (any_false (heads_other r s) r.trains b.1 t l));
    }

pub of-shape : (r s : Railway) → SameShape r s → mismatch r s ≡ false
unfolding mismatch
of-shape r s h =
    or-none (not (eqb r.sections s.sections)) _ (ap not (eq-eqb r.sections s.sections h.sections))
    (or-none (not (eqb r.trains s.trains)) _ (ap not (eq-eqb r.trains s.trains h.trains))
    (none_any (heads_other r s) r.trains (λ t l. ap not (eq-eqb _ _ (ap side_index (h.headings t l))))))

-- a placement that can be in the one case can be in the other
pub apart-same : (r s : Railway) (q : Placement) → SameShape r s → Apart r q → Apart s q
apart-same r s q h a =
    let k : s.trains ≡ r.trains = sym h.trains in
    let n : s.sections ≡ r.sections = sym h.sections in
    record {
      there = λ t l. rw n (a.there t (rw k at l));
      alone = λ t u l m e. a.alone t u (rw k at l) (rw k at m) e;
    }

-- THE ROWS, one by one
pub or-else : (a b : Option Refusal) → or_else a b ≡ none → (a ≡ none) × (b ≡ none)
or-else none b e = (refl, e)
or-else (some f) b e = some-none refl e

pub is-some : (o : Option ℕ) → is_none o ≡ false → (n : ℕ) × (o ≡ some n)
is-some none e = clash refl e
is-some (some n) e = (n, refl)

-- tables that are long enough, in an accepted case
pub enough : (s : Railway) (figs sets : List ℕ) → record_refusal s ≡ none → tables_short s figs sets ≡ false → Enough s figs sets
enough s figs sets acc e = ((case-none s figs sets).0 (case-accepted s figs sets acc ∙ ap (λ (c : Bool). refuse_if c Space none) e)).1

pub long : (s : Railway) (figs sets : List ℕ) → record_refusal s ≡ none → Enough s figs sets → tables_short s figs sets ≡ false
long s figs sets acc h = (refuse-none (tables_short s figs sets) Space none (sym (case-accepted s figs sets acc) ∙ (case-none s figs sets).1 (acc, h))).0

-- what it means that none applies
pub record NoRow (r s : Railway) (d : Desk) (figs sets : List ℕ) : Type 0 where
  pub shape : SameShape r s
  pub long : tables_short s figs sets ≡ false
  pub sound : desk_row r d ≡ false
  pub figure : ℕ
  pub has : figure_in figs (desk_code s d) ≡ some figure

module _ (r s : Railway) (d : Desk) (figs sets : List ℕ) where
  rows_none : first (record_rows r ++ change_rows r s d figs sets) ≡ none → NoRow r s d figs sets
  unfolding first stranded
  rows_none e =
      let a = or-else (first (record_rows r)) (first (change_rows r s d figs sets)) (sym (first-append (record_rows r) (change_rows r s d figs sets)) ∙ e) in
      let m = refuse-none (mismatch r s) Mismatch _ a.1 in
      let p = refuse-none (tables_short s figs sets) Space _ m.1 in
      let w = refuse-none (desk_row r d) Report _ p.1 in
      let z = refuse-none (stranded s figs d) Stranded none w.1 in
      let f : (n : ℕ) × (figure_in figs (desk_code s d) ≡ some n) = is-some (figure_in figs (desk_code s d)) z.0 in
      record { shape = shape_of r s m.0; long = p.0; sound = w.0; figure = f.0; has = f.1 }

  none_rows : record_refusal r ≡ none → NoRow r s d figs sets → first (record_rows r ++ change_rows r s d figs sets) ≡ none
  unfolding first record_refusal stranded
  none_rows acc c =
      let m : mismatch r s ≡ false = of-shape r s c.shape in
      let t : tables_short s figs sets ≡ false = c.long in
      let w : desk_row r d ≡ false = c.sound in
      let z : is_none (figure_in figs (desk_code s d)) ≡ false = ap is_none c.has in
      first-append (record_rows r) (change_rows r s d figs sets) ∙ rw (acc, m, t, w, z) refl

-- THE CALL. What was changed is not refused.
abbrev pub changed? : ChangeAnswer → Bool
changed? Changed = true
changed? (Refused f) = false

pub by-changed : (s : Railway) (d : Desk) (o : Option Refusal) → (change_by s d o).answer ≡ Changed → (o ≡ none) × ((change_by s d o).desk ≡ desk_on s d.at)
by-changed s d none e = (refl, refl)
by-changed s d (some f) e = clash {b = false} (ap changed? e) refl

pub by-refused : (s : Railway) (d : Desk) (o : Option Refusal) (f : Refusal) → (change_by s d o).answer ≡ Refused f → (change_by s d o).desk ≡ d
by-refused s d none f e = clash {b = true} refl (ap changed? e)
by-refused s d (some g) f e = refl

pub refused-number : (a : ChangeAnswer) (f g : Refusal) → number_changed a ≡ some (number g) → a ≡ Refused f → f ≡ g
refused-number a f g e q = number-one f g (some_one (sym (ap number_changed q) ∙ e))

-- an answer with a number is that refusal
pub number-refused : (a : ChangeAnswer) (f : Refusal) → number_changed a ≡ some (number f) → a ≡ Refused f
number-refused Changed f e = some-none e refl
number-refused (Refused g) f e = ap Refused (number-one g f (some_one e))

-- a text is refused, or read with an accepted record
pub data Judged (text : List ℕ) : Type 0 where
  not-read : (g : Refusal) → RefusedWith text g → Judged text
  is_read : (s : Railway) → AcceptedWith text s → Judged text

pub judged : (text : List ℕ) → Judged text
judged text = elim (always-answered text) [
  | inl a ↦ is_read a.0 ((accepted-exactly text a.0).0 a.1)
  | inr a ↦ not-read a.0 ((refused-exactly text a.0).0 a.1)
]

pub read-accepted : (text : List ℕ) (s : Railway) → AcceptedWith text s → record_refusal s ≡ none
read-accepted text s a = accepted-again text s ((accepted-exactly text s).1 a)

module _ (r : Railway) (text : List ℕ) (d : Desk) (figs sets : List ℕ) (y : Changing) (post : ChangePost r text d figs sets y) where
  module _ (s : Railway) (read : AcceptedWith text s) where
    pub answer-is : y.answer ≡ (change_to r s d figs sets).answer
    answer-is = ap (λ (w : Changing). w.answer) (post.read s read)

    pub desk-is : y.desk ≡ (change_to r s d figs sets).desk
    desk-is = ap (λ (w : Changing). w.desk) (post.read s read)

    -- made: no row applies, and the desk is that of the same placement
    pub made : y.answer ≡ Changed → NoRow r s d figs sets × (y.desk ≡ desk_on s d.at)
    unfolding change_to
    made e =
        let b = by-changed s d (first (record_rows r ++ change_rows r s d figs sets)) (sym answer-is ∙ e) in
        (rows_none r s d figs sets b.0, desk-is ∙ b.1)

    pub makes : record_refusal r ≡ none → NoRow r s d figs sets → y.answer ≡ Changed
    unfolding change_to
    makes acc c = answer-is ∙ ap (λ (o : Option Refusal). (change_by s d o).answer) (none_rows r s d figs sets acc c)

    pub left : (f : Refusal) → y.answer ≡ Refused f → y.desk ≡ d
    unfolding change_to
    left f e = desk-is ∙ by-refused s d (first (record_rows r ++ change_rows r s d figs sets)) f (sym answer-is ∙ e)

  pub can-change : Judged text → y.answer ≡ Changed → CanChange r text d figs sets
  can-change (not-read g w) e = some-none (post.not-read g w).0 (ap number_changed e)
  can-change (is_read s a) e =
      let n = (made s a e).0 in
      let l = enough s figs sets (read-accepted text s a) n.long in
      record { railway = s; read = a; shape = n.shape; figures = l.figures; settings = l.settings; figure = n.figure; has = n.has }

  pub can-so : record_refusal r ≡ none → desk_row r d ≡ false → CanChange r text d figs sets → y.answer ≡ Changed
  can-so acc well c =
      let s = c.railway in
      let l : tables_short s figs sets ≡ false = long s figs sets (read-accepted text s c.read) (record { figures = c.figures; settings = c.settings }) in
      makes s c.read acc (record { shape = c.shape; long = l; sound = well; figure = c.figure; has = c.has })

  pub stays : Judged text → (f : Refusal) → y.answer ≡ Refused f → y.desk ≡ d
  stays (not-read g w) f e = (post.not-read g w).1
  stays (is_read s a) f e = left s a f e

  pub carries : (s : Railway) → AcceptedWith text s → y.answer ≡ Changed → (y.desk.at ≡ d.at) × Carries s y.desk
  carries s a e = let q : y.desk ≡ desk_on s d.at = (made s a e).1 in rw q (refl, made-right s d.at)
