-- Which of its own numbers a change is refused with: they come behind those of a case, so both cases are accepted, and then the first of four rows is given. Where the text is refused, or
-- the old record, the number is one of a case, and of a lower rank. Assumes nothing.
use mathlib.Core.Path.{◌≡◌, refl, sym, ◌∙◌, ap}
use mathlib.Core.Logic.{◌⊎◌, inl, inr, ◌↔◌}
use mathlib.Core.Bool.{Bool, true, false, ◌||◌, ◌&&◌}
use mathlib.Core.List.{List, [], ◌∷◌, ◌++◌, Memᴰ}
use mathlib.Core.Option.{Option, none, some}
use Prim.Native.Nat.{ℕ, ◌≤◌, ◌<◌}
use native.Mathlib.Omega.{arith}
use lib.ListN.{length}
use lib.Dec.{ltb, leb, eqb}
use borrow.Author.Tests.{ltb-true, lt-ltb, leb-true}
use Rattle.laws.specs.Below.{or_else}
use Rattle.laws.proofs.Bools.{option?, clash, and-true, not-false, or_left, or_right}
use Rattle.railway.specs.declared.Railway.{Railway}
use Rattle.railway.specs.declared.Refusal.{Refusal}
use Rattle.railway.specs.declared.Refusal.TheVariants.{Mismatch, Space, Report, Stranded}
use Rattle.railway.specs.Refusals.{number, rank, row, refuse_if, first}
use Rattle.railway.specs.Rows.{record_rows, record_refusal}
use Rattle.railway.proofs.Refusals.{first-append, first-is}
use Rattle.case_file.specs.Given.{case_table, AcceptedWith}
use Rattle.game.specs.Placement.{placements}
use Rattle.game_tables.specs.Tables.{figure_in, tables_short}
use Rattle.desk.specs.ChangeAnswer.{Refused}
use Rattle.desk.specs.Desk.{Desk, desk_code, desk_row}
use Rattle.desk.specs.Change.{mismatch, is_none, stranded, change_rows, sooner, Changing, change_by, change_to, number_changed, ChangePost, SameShape, BothAccepted, Fitting, Furnished}
use Rattle.desk.proofs.Sooner.{first-in, in_table, sooner-first}
use Rattle.desk.proofs.ChangeRows.{shape_of, of-shape, enough, long, changed?, refused-number, Judged, not-read, is_read, judged, read-accepted, answer-is}

-- FOUR ROWS, by whether each applies
abbrev four : Bool → Bool → Bool → Bool → Option Refusal
four m p w z = refuse_if m Mismatch (refuse_if p Space (refuse_if w Report (refuse_if z Stranded none)))

-- a refusal with this number
abbrev with : ℕ → Option Refusal → Bool
with n none = false
with n (some f) = eqb (number f) n

is-fourteen : (m p w z : Bool) → with 14 (four m p w z) ≡ true → m ≡ true
is-fourteen true p w z e = refl
is-fourteen false true w z e = clash e refl
is-fourteen false false true z e = clash e refl
is-fourteen false false false true e = clash e refl
is-fourteen false false false false e = clash e refl

is-nine : (m p w z : Bool) → with 9 (four m p w z) ≡ true → (m ≡ false) × (p ≡ true)
is-nine true p w z e = clash e refl
is-nine false true w z e = (refl, refl)
is-nine false false true z e = clash e refl
is-nine false false false true e = clash e refl
is-nine false false false false e = clash e refl

is-twelve : (m p w z : Bool) → with 12 (four m p w z) ≡ true → (m ≡ false) × (p ≡ false) × (w ≡ true)
is-twelve true p w z e = clash e refl
is-twelve false true w z e = clash e refl
is-twelve false false true z e = (refl, refl, refl)
is-twelve false false false true e = clash e refl
is-twelve false false false false e = clash e refl

is-fifteen : (m p w z : Bool) → with 15 (four m p w z) ≡ true → (m ≡ false) × (p ≡ false) × (w ≡ false) × (z ≡ true)
is-fifteen true p w z e = clash e refl
is-fifteen false true w z e = clash e refl
is-fifteen false false true z e = clash e refl
is-fifteen false false false true e = (refl, refl, refl, refl)
is-fifteen false false false false e = clash e refl

-- THE NUMBERS OF A CASE have lower ranks
unfoldable lows : List Refusal → Bool
lows [] = true
lows (x ∷ l) = leb (rank x) 9 && lows l

in-lows : (l : List Refusal) (f : Refusal) → lows l ≡ true → Memᴰ f l → rank f ≤ 9
unfolding lows
in-lows [] f e x'' = elim x'' [ ]
in-lows (x ∷ l) f e (Memᴰ.head p) = let k = and-true (leb (rank x) 9) (lows l) e in rw p (leb-true (rank x) 9 k.0)
in-lows (x ∷ l) f e (Memᴰ.tail m) = in-lows l f (and-true (leb (rank x) 9) (lows l) e).1 m

case-low : (f : Refusal) → Memᴰ f case_table → rank f ≤ 9
unfolding lows
case-low f m = in-lows case_table f refl m

record-low : (r : Railway) (f : Refusal) → record_refusal r ≡ some f → rank f ≤ 9
unfolding record_refusal
record-low r f e = case-low f (in_table r (row f true) (first-in _ (record_rows r) (row f true) (first-is (record_rows r) f e)))

-- what a row says
none-there : (o : Option ℕ) → is_none o ≡ true → o ≡ none
none-there none e = refl
none-there (some n) e = clash e refl

or-either : (a b : Bool) → (a || b) ≡ true → (a ≡ true) ⊎ (b ≡ true)
or-either true b e = inl refl
or-either false b e = inr e

module _ (s : Railway) (figs sets : List ℕ) where
  abbrev Short : Type 0
  Short = (length figs < placements s) ⊎ (length sets < placements s)

  short-so : tables_short s figs sets ≡ true → Short
  unfolding tables_short
  short-so e = elim (or-either (ltb (length figs) (placements s)) (ltb (length sets) (placements s)) e) [ inl a ↦ inl (ltb-true _ _ a) | inr a ↦ inr (ltb-true _ _ a) ]

  so-short : Short → tables_short s figs sets ≡ true
  unfolding tables_short
  so-short (inl a) = or_left (ltb (length figs) (placements s)) _ (lt-ltb _ _ a)
  so-short (inr a) = or_right (ltb (length figs) (placements s)) _ (lt-ltb _ _ a)

-- THE CALL
by-number : (s : Railway) (d : Desk) (o : Option Refusal) (f : Refusal) → (change_by s d o).answer ≡ Refused f → o ≡ some f
by-number s d none f e = clash {b = true} refl (ap changed? e)
by-number s d (some g) f e = ap (λ (x : Refusal). some x) (sym (refused-number (Refused g) f g refl e))

module _ (r : Railway) (text : List ℕ) (d : Desk) (figs sets : List ℕ) (y : Changing) (post : ChangePost r text d figs sets y) where
  module _ (s : Railway) (read : AcceptedWith text s) where
    -- the four rows of this change
    abbrev fourth : Option Refusal
    fourth = four (mismatch r s) (tables_short s figs sets) (desk_row r d) (stranded s figs d)

    rows_are : first (record_rows r ++ change_rows r s d figs sets) ≡ or_else (record_refusal r) fourth
    unfolding first record_refusal
    rows_are = first-append (record_rows r) (change_rows r s d figs sets)

    answered : (o : Option Refusal) → or_else (record_refusal r) fourth ≡ o → y.answer ≡ (change_by s d o).answer
    unfolding change_to
    answered o e = answer-is r text d figs sets y post s read ∙ ap (λ (x : Option Refusal). (change_by s d x).answer) (rows_are ∙ e)

  -- the old record's number
  pub old-record : (s : Railway) → AcceptedWith text s → (f : Refusal) → record_refusal r ≡ some f → y.answer ≡ Refused f
  old-record s a f e = answered s a (some f) (rw e refl)

  -- a number behind those of a case: both are accepted, and it is that of the four rows
  record Beyond (f : Refusal) : Type 0 where
    both : BothAccepted r text
    given : fourth both.railway both.read ≡ some f

  beyond : Judged text → (f : Refusal) → 9 < rank f → y.answer ≡ Refused f → Beyond f
  beyond (not-read g w) f l e =
      let z : f ≡ sooner (record_refusal r) g = refused-number y.answer f (sooner (record_refusal r) g) (post.not-read g w).0 e in
      absurd (let k : rank f ≤ 9 = rw z (case-low _ (first-in _ case_table _ (sooner-first r text g w (record_refusal r) refl))) in omega arith)
  beyond (is_read s a) f l e = elim (option? (record_refusal r)) [
    | inl q ↦ record { both = record { railway = s; old = q; read = a }; given = by-number s d (fourth s a) f (sym (answered s a (fourth s a) (rw q refl)) ∙ e) }
    | inr q ↦
        let z : f ≡ q.0 = refused-number y.answer f q.0 (ap number_changed (old-record s a q.0 q.1)) e in
        absurd (let k : rank q.0 ≤ 9 = record-low r q.0 q.1 in let m : rank f ≤ 9 = rw z k in omega arith)
  ]

  gives : (b : BothAccepted r text) (f : Refusal) → fourth b.railway b.read ≡ some f → y.answer ≡ Refused f
  gives b f e = answered b.railway b.read (some f) (let q : record_refusal r ≡ none = b.old in rw q e)

  -- 14
  pub fourteen : (y.answer ≡ Refused Mismatch) ↔ ((b : BothAccepted r text) × (SameShape r b.railway → ⊥))
  fourteen = (there, back)
    where
      there : y.answer ≡ Refused Mismatch → (b : BothAccepted r text) × (SameShape r b.railway → ⊥)
      there e =
          let x = beyond (judged text) Mismatch (omega arith) e in (
            x.both,
            λ h. clash (is-fourteen (mismatch r x.both.railway) (tables_short x.both.railway figs sets)
                (desk_row r d) (stranded x.both.railway figs d) (ap (with 14) x.given))
                (of-shape r x.both.railway h),
          )

      back : (b : BothAccepted r text) × (SameShape r b.railway → ⊥) → y.answer ≡ Refused Mismatch
      back b = gives b.0 Mismatch (let m : mismatch r b.0.railway ≡ true = not-false _ (λ z. b.1 (shape_of r b.0.railway z)) in rw m refl)

  -- 9
  pub nine : (y.answer ≡ Refused Space) ↔ ((b : Fitting r text) × ((length figs < placements b.both.railway) ⊎ (length sets < placements b.both.railway)))
  nine = (there, back)
    where
      there : y.answer ≡ Refused Space → (b : Fitting r text) × Short b.both.railway figs sets
      there e =
          let x = beyond (judged text) Space (omega arith) e in
          let n = is-nine (mismatch r x.both.railway) (tables_short x.both.railway figs sets) (desk_row r d) (stranded x.both.railway figs d) (ap (with 9) x.given) in
          (record { both = x.both; shape = shape_of r x.both.railway n.0 }, short-so x.both.railway figs sets n.1)

      back : (b : Fitting r text) × Short b.both.railway figs sets → y.answer ≡ Refused Space
      back b =
          let s = b.0.both.railway in
          gives b.0.both Space
          (let m : mismatch r s ≡ false = of-shape r s b.0.shape in let p : tables_short s figs sets ≡ true = so-short s figs sets b.1 in rw (m, p) refl)

  -- the tables are long enough
  abbrev furnished : (b : BothAccepted r text) → mismatch r b.railway ≡ false → tables_short b.railway figs sets ≡ false → Furnished r text figs sets
  furnished b m p =
      let l = enough b.railway figs sets (read-accepted text b.railway b.read) p in
      record { fits = record { both = b; shape = shape_of r b.railway m }; figures = l.figures; settings = l.settings }

  module _ (b : Furnished r text figs sets) where
    abbrev new : Railway
    new = b.fits.both.railway

    same_shape : mismatch r new ≡ false
    same_shape = of-shape r new b.fits.shape

    long-enough : tables_short new figs sets ≡ false
    long-enough = long new figs sets (read-accepted text new b.fits.both.read) (record { figures = b.figures; settings = b.settings })

  -- 12
  pub twelve : (y.answer ≡ Refused Report) ↔ (Furnished r text figs sets × (desk_row r d ≡ true))
  twelve = (there, back)
    where
      there : y.answer ≡ Refused Report → Furnished r text figs sets × (desk_row r d ≡ true)
      there e =
          let x = beyond (judged text) Report (omega arith) e in
          let n = is-twelve (mismatch r x.both.railway) (tables_short x.both.railway figs sets) (desk_row r d) (stranded x.both.railway figs d) (ap (with 12) x.given) in
          (furnished x.both n.0 n.1, n.2)

      back : Furnished r text figs sets × (desk_row r d ≡ true) → y.answer ≡ Refused Report
      back b =
          gives b.0.fits.both Report
          (let m : mismatch r (new b.0) ≡ false = same_shape b.0 in
          let p : tables_short (new b.0) figs sets ≡ false = long-enough b.0 in
          let w : desk_row r d ≡ true = b.1 in
          rw (m, p, w) refl)

  -- 15
  abbrev Figureless : Type 0
  Figureless = (b : Furnished r text figs sets) × (desk_row r d ≡ false) × (figure_in figs (desk_code b.fits.both.railway d) ≡ none)

  stranded-so : y.answer ≡ Refused Stranded → Figureless
  unfolding stranded
  stranded-so e =
      let x = beyond (judged text) Stranded (omega arith) e in
      let n = is-fifteen (mismatch r x.both.railway) (tables_short x.both.railway figs sets) (desk_row r d) (stranded x.both.railway figs d) (ap (with 15) x.given) in
      (furnished x.both n.0 n.1, n.2, none-there (figure_in figs (desk_code x.both.railway d)) n.3)

  so-stranded : Figureless → y.answer ≡ Refused Stranded
  unfolding stranded
  so-stranded b =
      gives b.0.fits.both Stranded
      (let m : mismatch r (new b.0) ≡ false = same_shape b.0 in
      let p : tables_short (new b.0) figs sets ≡ false = long-enough b.0 in
      let w : desk_row r d ≡ false = b.1 in
      let z : is_none (figure_in figs (desk_code (new b.0) d)) ≡ true = ap is_none b.2 in
      rw (m, p, w, z) refl)

  pub fifteen : (y.answer ≡ Refused Stranded) ↔ ((b : Furnished r text figs sets) × (desk_row r d ≡ false) × (figure_in figs (desk_code b.fits.both.railway d) ≡ none))
  fifteen = (stranded-so, so-stranded)
