-- When a record with two lent tables is refused: the rows of the record come first and row 9 last, so nothing is refused exactly if the
-- record is accepted and both tables are long enough. Assumes nothing.
use mathlib.Core.Path.{◌≡◌, ◌∙◌}
use mathlib.Core.Logic.{◌↔◌, inl, inr}
use mathlib.Core.Bool.{false}
use mathlib.Core.List.{List, [], ◌∷◌, ◌++◌}
use mathlib.Core.Option.{none, some}
use Prim.Native.Nat.{ℕ, ◌≤◌}
use lib.ListN.{length}
use lib.Dec.{ltb}
use borrow.Author.Tests.{ltb-false, le-ltb}
use Rattle.laws.specs.Below.{or_else}
use Rattle.laws.proofs.Bools.{bool?, option?, some-none, or-false, or-none}
use Rattle.railway.specs.declared.Railway.{Railway}
use Rattle.railway.specs.declared.Refusal.{Refusal}
use Rattle.railway.specs.declared.Refusal.TheVariants.{Space}
use Rattle.railway.specs.Refusals.{Row, row, refuse_if, first}
use Rattle.railway.specs.Rows.{record_rows, record_refusal}
use Rattle.railway.proofs.Refusals.{first-append}
use Rattle.game.specs.Placement.{placements}
use Rattle.game_tables.specs.Tables.{tables_short, case_rows, case_refusal}

-- (Examples is named so that it is checked before: a wrong definition then shows at a computed value.)

module _ (r : Railway) (figs sets : List ℕ) where
  -- the record's rows, else row 9
  pub case-rows : case_refusal r figs sets ≡ or_else (record_refusal r) (refuse_if (tables_short r figs sets) Space none)
  unfolding case_refusal record_refusal first
  case-rows = first-append (record_rows r) (row Space (tables_short r figs sets) ∷ [])

  -- the rows of the case, else further ones
  pub case-then : (rest : List Row) → first (case_rows r figs sets ++ rest) ≡ or_else (case_refusal r figs sets) (first rest)
  unfolding case_refusal
  case-then rest = first-append (case_rows r figs sets) rest

  pub case-record : (f : Refusal) → record_refusal r ≡ some f → case_refusal r figs sets ≡ some f
  case-record f e = case-rows ∙ rw e

  pub case-accepted : record_refusal r ≡ none → case_refusal r figs sets ≡ refuse_if (tables_short r figs sets) Space none
  case-accepted e = case-rows ∙ rw e

  -- long enough
  pub record Enough : Type 0 where
    pub figures : placements r ≤ length figs
    pub settings : placements r ≤ length sets

  enough : tables_short r figs sets ≡ false → Enough
  unfolding tables_short
  enough e =
      let b = or-false (ltb (length figs) (placements r)) (ltb (length sets) (placements r)) e in
      record { figures = ltb-false (length figs) (placements r) b.0; settings = ltb-false (length sets) (placements r) b.1 }

  long : Enough → tables_short r figs sets ≡ false
  unfolding tables_short
  long e = or-none (ltb (length figs) (placements r)) (ltb (length sets) (placements r)) (le-ltb (length figs) (placements r) e.figures) (le-ltb (length sets) (placements r) e.settings)

  -- NOTHING IS REFUSED exactly if the record is accepted and the tables are long enough
  pub case-none : (case_refusal r figs sets ≡ none) ↔ ((record_refusal r ≡ none) × Enough)
  case-none = (there, back)
    where
      there : case_refusal r figs sets ≡ none → (record_refusal r ≡ none) × Enough
      there e = elim (option? (record_refusal r)) [
        | inr x ↦ some-none (case-record x.0 x.1) e
        | inl x ↦ (
          x,
          elim (bool? (tables_short r figs sets)) [
            | inl y ↦ let s : case_refusal r figs sets ≡ some Space = case-accepted x ∙ rw y in some-none s e
            | inr y ↦ enough y
          ],
        )
      ]

      back : (record_refusal r ≡ none) × Enough → case_refusal r figs sets ≡ none
      back h = case-accepted h.0 ∙ rw (long h.1)
