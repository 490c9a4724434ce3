-- How long the lines of a plan are together: each is the spelling of a line that fits the case, so it has 45 bytes at most; and there is a first line
-- and at most one for each placement, of which there are no more than entries. Assumes nothing.
use mathlib.Core.Path.{◌≡◌, refl}
use mathlib.Core.Bool.{Bool, true}
use mathlib.Core.List.{List, [], ◌∷◌, map, flatten}
use mathlib.Core.Option.{none}
use Prim.Native.Nat.{ℕ, suc, ◌*◌, ◌≤◌}
use native.Mathlib.Omega.{arith}
use lib.ListN.{length, length-append, length-map}
use lib.Dec.{leb}
use borrow.Author.Tests.{le-leb, leb-true}
use Rattle.laws.specs.Below.{which_below}
use Rattle.laws.specs.Lists.{all}
use Rattle.laws.proofs.Bools.{and-true, and_both}
use Rattle.laws.proofs.Which.{which-length}
use Rattle.railway.specs.declared.Railway.{Railway}
use Rattle.railway.specs.Rows.{record_refusal}
use Rattle.game.specs.Placement.{placements}
use Rattle.game_tables.proofs.Refusals.{case-none}
use Rattle.plan.specs.Lines.{PlacementLine, PlanLine, placement_line, spell, fits, most_line_bytes}
use Rattle.plan.specs.Text.{has_figure, line_for, plan_lines, plan_texts, plan_text}
use Rattle.plan.proofs.Lines.{lines-short}
use Rattle.plan.proofs.Listing.{lines_fit}
use Rattle.plan_text.specs.Listable.{Listable}
use Rattle.plan_text.specs.Written.{text_bytes}

-- A LINE has 45 bytes at most
abbrev sized : List ℕ → Bool
sized l = leb (length l) most_line_bytes

all-sized : (r : Railway) → record_refusal r ≡ none → (ls : List PlanLine) → all (fits r) ls ≡ true → all sized (map spell ls) ≡ true
unfolding all
all-sized r accepted [] e = refl
all-sized r accepted (l ∷ ls) e =
    let h = and-true (fits r l) (all (fits r) ls) e in
    and_both (sized (spell l)) (all sized (map spell ls)) (le-leb (length (spell l)) most_line_bytes (lines-short r accepted l h.0)) (all-sized r accepted ls h.1)

sum-sized : (ls : List (List ℕ)) → all sized ls ≡ true → length (flatten ls) ≤ length ls * most_line_bytes
unfolding all flatten
sum-sized [] e = omega arith
sum-sized (l ∷ ls) e =
    let h = and-true (sized l) (all sized ls) e in
    rw (length-append l (flatten ls)) (omega (arith, leb-true (length l) most_line_bytes h.0, sum-sized ls h.1))

-- THE PLAN
module _ (r : Railway) (figs sets : List ℕ) (s : Listable r figs sets) where
  plan-sized : all sized (plan_texts r figs sets) ≡ true
  unfolding plan_texts
  plan-sized =
      let accepted = ((case-none r figs sets).0 s.unrefused).0 in
      all-sized r accepted (plan_lines r figs sets) (lines_fit r accepted figs sets s.bounded s.figure s.start)

  plan-count : length (plan_texts r figs sets) ≤ suc (placements r)
  unfolding plan_texts plan_lines
  plan-count =
      let codes : List ℕ = which_below (has_figure figs) (placements r) in
      let ds : List PlacementLine = map (line_for r figs sets) codes in
      omega (arith, length-map (map placement_line ds) spell, length-map ds placement_line, length-map codes (line_for r figs sets), which-length (has_figure figs) (placements r))

  -- the placements of a case that is not refused are no more than the entries
  pub plan-short : length (plan_text r figs sets) ≤ text_bytes
  plan-short =
      let few : placements r ≤ length figs = ((case-none r figs sets).0 s.unrefused).1.figures in
      omega (arith, sum-sized (plan_texts r figs sets) plan-sized, plan-count, few, s.long)
