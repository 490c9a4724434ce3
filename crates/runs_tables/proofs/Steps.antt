-- The steps of the loops, for a record whose ways are lent: a section is left or passed by, a level is finished, a row, a table. Each is a law of Filling, with the numbers as code has them.
-- Assumes nothing.
use mathlib.Core.Path.{◌≡◌, refl, sym, ◌∙◌, ap, subst}
use mathlib.Core.Logic.{inl, inr}
use mathlib.Core.List.{List, []}
use mathlib.Core.Option.{none}
use Prim.Native.Nat.{ℕ, suc, ◌+◌, ◌≤◌, ◌<◌}
use native.Mathlib.Omega.{arith}
use native.Mathlib.Numerals.{add-one}
use lib.ListN.{length, get_or, set, length-set, replicate}
use lib.Seq.{get_or-set_same, get_or-set_other}
use mir.Val.{Val}
use mir.Syntax.{w8}
use denote.Laws.{Is}
use denote.Array.{Array}
use denote.Plain.{UInt}
use Rattle.laws.proofs.Bools.{eq?}
use Rattle.railway.specs.declared.Side.{Side}
use Rattle.railway.specs.declared.End.TheVariants.{Section}
use Rattle.railway.specs.declared.Railway.{Railway}
use Rattle.railway.specs.declared.Refusal.{Refusal}
use Rattle.railway.specs.CaseAnswer.{Accepted, Refused}
use Rattle.railway.specs.Bounds.{most_sections, section_ends}
use Rattle.railway.specs.Ends.{end_index, end_at}
use Rattle.railway.specs.Record.{is_closed}
use Rattle.railway.specs.Rows.{record_refusal}
use Rattle.railway.proofs.Ends.{end-index, section-below}
use Rattle.game.proofs.Accepted.{facts}
use Rattle.std.specs.Prelude.{Ok, Err}
use Rattle.railway_acceptance.specs.Answers.{Judged}
use Rattle.railway_acceptance.proofs.Answers.{judged-refused, judged-accepted}
use Rattle.railway_routes.specs.Routes.{routes_from, most_ways, Laid}
use Rattle.runs.specs.Runs.{no_run, RunTable, replied, TableLeft, RunPost}
use Rattle.runs_tables.specs.Filling.{Lent, RowTo, LevelTo, IsRow, Reached}
use Rattle.runs_tables.proofs.Filling.{first-row, none_left, passed, left-by-all, all_left, last_row, no_row}

-- there are no more sections than there can be
pub few : {r : Railway} {ways : List ℕ} {s : ℕ} → Lent r ways s → s ≤ most_sections
few {r} h = omega (arith, h.count, (facts r h.accepted).few-sections)

module _ (r : Railway) (heading : Side) (x s : ℕ) (ways : List ℕ) (h : Lent r ways s) where
  -- A SECTION
  module _ (n : ℕ) (short : n < s) where
    small : suc n < no_run
    small = omega (arith, short, few h)

    pub section-left : (y e : ℕ) (row new : List ℕ) → y < most_sections → get_or row y 0 ≡ n → e ≡ end_index (Section (record { 0 = y }) heading)
        → ((r : Railway) → Laid r (is_closed r) ways → e < section_ends → Reached (routes_from r (is_closed r) (end_at e)) most_ways (n + 1) row new)
        → LevelTo r heading x n y row → LevelTo r heading x n (suc y) new
    section-left y e row new l at is gone k =
        let there : end_at e ≡ Section (record { 0 = y }) heading = ap end_at is ∙ end-index (Section (record { 0 = y }) heading) l in
        let inside : e < section_ends = omega (arith, is, section-below (record { 0 = y }) heading l) in
        let one : n + 1 ≡ suc n = add-one n in
        left-by-all r h.accepted heading x n small y row new l at (rw (there, one) at (gone r h.laid inside)) k

    pub section-passed : (y : ℕ) (row : List ℕ) → y < most_sections → (get_or row y 0 ≡ n → ⊥) → LevelTo r heading x n y row → LevelTo r heading x n (suc y) row
    section-passed y row l other k = passed r h.accepted heading x n small y row l other k

    -- A LEVEL
    pub level-begun : (row : List ℕ) → RowTo r heading x n row → LevelTo r heading x n 0 row
    level-begun row k = none_left r h.accepted heading x n small row k

    pub level-done : (y : ℕ) (row : List ℕ) → most_sections ≤ y → LevelTo r heading x n y row → RowTo r heading x (suc n) row
    level-done y row l k = all_left r h.accepted heading x n small y row l k

  -- A ROW
  pub row-begun : (row : List ℕ) → x < s → row ≡ replicate most_sections no_run → RowTo r heading x 0 (set row x 0)
  row-begun row l e = first-row r h.accepted heading x (omega (arith, h.count)) row e

  pub row_done : (row : List ℕ) → RowTo r heading x s row → IsRow r heading x row
  row_done row k = last_row r h.accepted heading x row (subst (λ (n : ℕ). RowTo r heading x n row) (sym h.count) k)

  pub row-none : (row : List ℕ) → s ≤ x → row ≡ replicate most_sections no_run → IsRow r heading x row
  row-none row l e = no_row r h.accepted heading x (omega (arith, h.count)) row e

-- A TABLE, up to row i
pub record TableTo (r : Railway) (heading : Side) (i : ℕ) (g : List (List ℕ)) : Type 0 where
  pub sized : length g ≡ most_sections
  pub each : (x : ℕ) → x < i → IsRow r heading x (get_or g x [])

-- what holding a square table tells is how many rows it has
pub no_rows : (r : Railway) (heading : Side) (g : List (List ℕ)) (vs : List Val) → Is (Array (Array (UInt w8) 48) 48) g vs → TableTo r heading 0 g
no_rows r heading g vs p = record { sized = p.1.0.1; each = λ x l. absurd (omega (arith, l)) }

pub one-row : (r : Railway) (heading : Side) (i : ℕ) (g : List (List ℕ)) (row : List ℕ) → i < most_sections → IsRow r heading i row → TableTo r heading i g → TableTo r heading (i + 1) (set g i row)
one-row r heading i g row l is h =
    record {
      sized = length-set g i row ∙ h.sized;
      each = λ x m. elim (eq? x i) [
        | inl e ↦ (let d : get_or (set g i row) i [] ≡ row = get_or-set_same g i row [] (let k : length g ≡ most_sections = h.sized in rw k l) in rw (e, d) is)
        | inr e ↦ (let d : get_or (set g i row) x [] ≡ get_or g x [] = get_or-set_other g i x row [] e in rw d (h.each x (omega arith)))
      ];
    }

pub all-rows : (r : Railway) (heading : Side) (i : ℕ) (g : List (List ℕ)) → most_sections ≤ i → TableTo r heading i g → RunTable r heading g
all-rows r heading i g l h =
    record {
      square = record { rows = h.sized; columns = λ x m. (h.each x (omega arith)).sized };
      entries = λ x y lx ly. (h.each x (omega arith)).each y ly;
    }

-- THE CALL: by what the test of the record answers
module _ (r : Railway) (heading : Side) (old : List (List ℕ)) where
  pub refused : (f : Refusal) → Judged r (Refused f) → RunPost r heading old (replied old (Err f))
  refused f judged =
      record { numbered = judged; leaves = subst (TableLeft r heading old old) (sym (judged-refused r judged {f = f} refl)) refl }

  pub filled : (ways : List ℕ) (new : List (List ℕ)) → Judged r Accepted → Laid r (is_closed r) ways
      → ((q : Railway) → Lent q ways r.sections → RunTable q heading new) → RunPost r heading old (replied old (Ok new))
  filled ways new judged laid fills =
      let accepted : record_refusal r ≡ none = judged-accepted r judged refl in
      record {
        numbered = judged;
        leaves = subst (TableLeft r heading old new) (sym accepted) (fills r (record { accepted = accepted; laid = laid; count = refl }));
      }
