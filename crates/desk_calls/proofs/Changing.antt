-- A change of case, return by return. Between accepted cases its rows are taken one after the other; the new text is
-- refused, or the railway that was read is accepted, so that its test with the tables can only find them too short.
-- Assumes nothing.
use mathlib.Core.Path.{◌≡◌, refl, sym, ◌∙◌, ap, subst}
use mathlib.Core.Bool.{Bool, true, false}
use mathlib.Core.List.{List, [], ◌∷◌}
use mathlib.Core.Option.{Option, none, some}
use Prim.Native.Nat.{ℕ}
use lib.ListN.{get_or}
use borrow.Author.Tests.{ne_eqb}
use Rattle.std.specs.Prelude.{Result, Ok, Err}
use Rattle.laws.specs.Below.{or_else}
use Rattle.laws.proofs.Bools.{some-none}
use Rattle.railway.specs.declared.Railway.{Railway}
use Rattle.railway.specs.declared.Refusal.{Refusal}
use Rattle.railway.specs.declared.Refusal.TheVariants.{Mismatch, Space, Report, Stranded}
use Rattle.railway.specs.Refusals.{number, Row, row, refuse_if, first}
use Rattle.railway.specs.Rows.{record_rows, record_refusal}
use Rattle.railway.proofs.Refusals.{first-append, refuse-none}
use Rattle.railway_acceptance.proofs.Answers.{judged-refused, judged-accepted}
use Rattle.case_file.specs.CaseRead.{CaseRead}
use Rattle.case_file.specs.Given.{ReaderPost, case_read}
use Rattle.case_reader.specs.Answers.{ByCase}
use Rattle.case_reader.proofs.Answers.{by-refused, by-accepted}
use Rattle.case_reader.proofs.Claims.{reader-gives}
use Rattle.game_tables.specs.Tables.{no_figure, figure_entry, tables_short}
use Rattle.game_tables.proofs.Refusals.{case-accepted}
use Rattle.railway_compiled.specs.Table.{Compiled, CompilePost, compilation}
use Rattle.game_case.specs.Cases.{CasePost}
use Rattle.game_case.proofs.Cases.{opened-refused, opened-none}
use Rattle.desk.specs.ChangeAnswer.{ChangeAnswer, Changed, Refused}
use Rattle.desk.specs.Desk.{Desk as DeskAt, desk_code, desk_row, desk_on}
use Rattle.desk.specs.Change.{mismatch, is_none, stranded, change_rows, sooner, Changing, change_by, change_to}
use Rattle.desk.specs.Change.{number_changed, ChangePost}
use Rattle.desk_calls.specs.declared.Desk.{Desk}
use Rattle.desk_calls.specs.Answers.{desk_at, changing}

-- THE ROWS OF A CHANGE, by whether each applies.
abbrev rows : Bool → Bool → Bool → Bool → List Row
rows m t k n = row Mismatch m ∷ row Space t ∷ row Report k ∷ row Stranded n ∷ []

module _ (m t k n : Bool) where
  first-mismatch : m ≡ true → first (rows m t k n) ≡ some Mismatch
  unfolding first
  first-mismatch e = rw e refl

  only-space : (b : Bool) (f : Refusal) (later : Option Refusal) → refuse_if b Space none ≡ some f
      → refuse_if b Space later ≡ some f
  only-space true f later e = e
  only-space false f later e = some-none {o = none} e refl

  first-space : (f : Refusal) → m ≡ false → refuse_if t Space none ≡ some f → first (rows m t k n) ≡ some f
  unfolding first
  first-space f e h = rw e (only-space t f (first (row Report k ∷ row Stranded n ∷ [])) h)

  first-report : m ≡ false → t ≡ false → k ≡ true → first (rows m t k n) ≡ some Report
  unfolding first
  first-report a b c = rw (a, b, c) refl

  first-stranded : m ≡ false → t ≡ false → k ≡ false → n ≡ true → first (rows m t k n) ≡ some Stranded
  unfolding first
  first-stranded a b c d = rw (a, b, c, d) refl

  first-nothing : m ≡ false → t ≡ false → k ≡ false → n ≡ false → first (rows m t k n) ≡ none
  unfolding first
  first-nothing a b c d = rw (a, b, c, d) refl

-- By the refusal: the old record's, else that of the change.
by_rows : (r s : Railway) (d : DeskAt) (figs sets : List ℕ) (o : Option Refusal) (y : Changing)
    → or_else (record_refusal r) (first (change_rows r s d figs sets)) ≡ o
    → y ≡ change_by s d o → y ≡ change_to r s d figs sets
unfolding change_to record_refusal
by_rows r s d figs sets o y e ey =
    ey ∙ ap (change_by s d) (sym (first-append (record_rows r) (change_rows r s d figs sets) ∙ e))

-- BETWEEN ACCEPTED CASES. Of one shape; and then with tables that are long enough, and a desk that its own row does not
-- stop
pub record Alike (r s : Railway) : Type 0 where
  pub old : record_refusal r ≡ none
  pub shape : mismatch r s ≡ false
  pub new : record_refusal s ≡ none

pub alike-of : (r s : Railway) (table : List ℕ) (m : Bool) → Compiled r table → record_refusal s ≡ none → m ≡ mismatch r s → m ≡ false → Alike r s
alike-of r s table m h new is e = record { old = h.accepted; shape = sym is ∙ e; new = new }

-- compiling an accepted record gives its table
pub compiled-as : (s : Railway) (c : Result (List ℕ) Refusal) → CompilePost s (compilation c) → (table : List ℕ) → c ≡ Ok table → record_refusal s ≡ none → Compiled s table
compiled-as s c p table e new = subst (Compiled s) (ap (λ (x : Result (List ℕ) Refusal). (compilation x).table) e) (p.accepted new)

pub compile-takes : (s : Railway) (c : Result (List ℕ) Refusal) → CompilePost s (compilation c) → (f : Refusal) → c ≡ Err f → record_refusal s ≡ none → ⊥
compile-takes s c p f e new = some-none (judged-refused s p.judged (ap (λ (x : Result (List ℕ) Refusal). (compilation x).tested) e)) new

pub record Sound (r s : Railway) (d : Desk) (figs sets : List ℕ) : Type 0 where
  pub alike : Alike r s
  pub long : tables_short s figs sets ≡ false
  pub stands : desk_row r (desk_at d) ≡ false

module _ (r s : Railway) (d : Desk) (figs sets : List ℕ) where
  abbrev Due : ChangeAnswer → Desk → Type 0
  Due a e = changing a e ≡ change_to r s (desk_at d) figs sets

  between : record_refusal r ≡ none → (o : Option Refusal) (a : ChangeAnswer) (e : Desk)
      → first (change_rows r s (desk_at d) figs sets) ≡ o → changing a e ≡ change_by s (desk_at d) o → Due a e
  between old o a e is =
      let rest = first (change_rows r s (desk_at d) figs sets) in
      by_rows r s (desk_at d) figs sets o (changing a e) (ap (λ (z : Option Refusal). or_else z rest) old ∙ is)

  pub over-mismatch : record_refusal r ≡ none → mismatch r s ≡ true → Due (Refused Mismatch) d
  over-mismatch old e = between old (some Mismatch) _ d (first-mismatch _ _ _ _ e) refl

  module _ (h : Alike r s) (c : Result (List ℕ) Refusal) (p : CasePost s figs sets (compilation c)) where
    pub over-short : (f : Refusal) → c ≡ Err f → Due (Refused f) d
    over-short f t =
        let short = opened-refused p (ap (λ (x : Result (List ℕ) Refusal). (compilation x).tested) t) in
        between h.old (some f) _ d
        (first-space _ _ _ _ f h.shape (sym (case-accepted s figs sets h.new) ∙ short)) refl

    module _ (table : List ℕ) (t : c ≡ Ok table) where
      enough : tables_short s figs sets ≡ false
      enough =
          (refuse-none (tables_short s figs sets) Space none
          (sym (case-accepted s figs sets h.new)
          ∙ opened-none p (ap (λ (x : Result (List ℕ) Refusal). (compilation x).tested) t))).0

      pub over-stopped : desk_row r (desk_at d) ≡ true → Due (Refused Report) d
      over-stopped k = between h.old (some Report) _ d (first-report _ _ _ _ h.shape enough k) refl

      pub over-sound : desk_row r (desk_at d) ≡ false → Sound r s d figs sets
      over-sound k = record { alike = h; long = enough; stands = k }

  module _ (h : Sound r s d figs sets) (at v : ℕ) (codes : at ≡ desk_code s (desk_at d))
      (read : v ≡ get_or figs at no_figure)
    where
      entry : get_or figs (desk_code s (desk_at d)) no_figure ≡ v
      entry = ap (λ (i : ℕ). get_or figs i no_figure) (sym codes) ∙ sym read

      pub over-stranded : v ≡ no_figure → Due (Refused Stranded) d
      unfolding stranded
      over-stranded z =
          let none-there = ap (λ (x : ℕ). is_none (figure_entry x)) (entry ∙ z) in
          between h.alike.old (some Stranded) _ d
          (first-stranded _ _ _ _ h.alike.shape h.long h.stands none-there) refl

      pub over-made : (v ≡ no_figure → ⊥) → (o : Desk) → desk_at o ≡ desk_on s d.at
          → Due Changed o
      unfolding stranded
      over-made z o made =
          let there : stranded s figs (desk_at d) ≡ false =
          ap (λ (x : ℕ). is_none (figure_entry x)) entry ∙ rw (ne_eqb v no_figure z) refl in
          between h.alike.old none _ o (first-nothing _ _ _ _ h.alike.shape h.long h.stands there)
          (ap (λ (x : DeskAt). record { answer = Changed; desk = x }) made)

-- THE CALL, by what compiling the old record and reading the text answer.
module _ (r : Railway) (text figs sets : List ℕ) (d : Desk) (c : Result (List ℕ) Refusal) (old : CompilePost r (compilation c))
    (a : Result Railway Refusal) (read : ReaderPost text (case_read a)) where
  -- what holds of its answer, with the desk behind it, where the text is refused, and where it is read
  abbrev NotRead : ChangeAnswer → Desk → Refusal → Type 0
  NotRead y e g = (number_changed y ≡ some (number (sooner (record_refusal r) g))) × (desk_at e ≡ desk_at d)

  abbrev Read : ChangeAnswer → Desk → Railway → Type 0
  Read y e s = changing y e ≡ change_to r s (desk_at d) figs sets

  abbrev Promised : ChangeAnswer → Desk → Type 0
  Promised y e = ChangePost r text (desk_at d) figs sets (changing y e)

  by-text : (y : ChangeAnswer) (e : Desk) → ByCase text (NotRead y e) (Read y e) → Promised y e
  by-text y e h = record { not-read = h.refused; read = h.accepted }

  old-refused : (f : Refusal) → c ≡ Err f → record_refusal r ≡ some f
  old-refused f t = judged-refused r old.judged (ap (λ (x : Result (List ℕ) Refusal). (compilation x).tested) t)

  old-accepted : (table : List ℕ) → c ≡ Ok table → record_refusal r ≡ none
  old-accepted table t = judged-accepted r old.judged (ap (λ (x : Result (List ℕ) Refusal). (compilation x).tested) t)

  old-table : (table : List ℕ) → c ≡ Ok table → Compiled r table
  old-table table t =
      subst (Compiled r) (ap (λ (x : Result (List ℕ) Refusal). (compilation x).table) t) (old.accepted (old-accepted table t))

  -- THE TEXT IS REFUSED, and the old record accepted or refused
  module _ (g : Refusal) (e : a ≡ Err g) where
    not-read : (f : Refusal) → f ≡ sooner (record_refusal r) g → Promised (Refused f) d
    not-read f is =
        by-text (Refused f) d
        (by-refused (NotRead (Refused f) d) (Read (Refused f) d) text _ read g
        (ap (λ (x : Result Railway Refusal). (case_read x).answer) e) (ap (λ (h : Refusal). some (number h)) is, refl))

    pub change-not-read : (table : List ℕ) → c ≡ Ok table → Promised (Refused g) d
    change-not-read table t = not-read g (ap (λ (o : Option Refusal). sooner o g) (sym (old-accepted table t)))

    pub change-neither : (f h : Refusal) → c ≡ Err f → h ≡ sooner (some f) g → Promised (Refused h) d
    change-neither f h t is = not-read h (is ∙ ap (λ (o : Option Refusal). sooner o g) (sym (old-refused f t)))

  -- IT IS READ
  module _ (s : Railway) (e : a ≡ Ok s) where
    gives : case_read a ≡ case_read (Ok s)
    gives = ap case_read e

    read-as : (y : ChangeAnswer) (o : Desk) → Read y o s → Promised y o
    read-as y o h =
        by-text y o
        (by-accepted (NotRead y o) (Read y o) text _ read (ap (λ (x : CaseRead). x.answer) gives)
        (subst (Read y o) (sym (ap (λ (x : CaseRead). x.railway) gives)) h))

    -- the old record is refused
    pub change-not-left : (f : Refusal) → c ≡ Err f → Promised (Refused f) d
    change-not-left f t =
        let rest = first (change_rows r s (desk_at d) figs sets) in
        read-as (Refused f) d
        (by_rows r s (desk_at d) figs sets (some f) (changing (Refused f) d)
        (ap (λ (o : Option Refusal). or_else o rest) (old-refused f t)) refl)

    -- both are accepted
    pub change-over : (table : List ℕ) → c ≡ Ok table → (y : ChangeAnswer) (o : Desk)
        → ((w : Railway) → Compiled w table → record_refusal s ≡ none
        → changing y o ≡ change_to w s (desk_at d) figs sets)
        → Promised y o
    change-over table t y o over = read-as y o (over r (old-table table t) (reader-gives text _ read s gives))
