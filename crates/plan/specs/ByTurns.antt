-- WHERE NO TRAIN IS DEARER THAN 1 PLANS ARE THOSE IN TURNS (document 02, Q-12, on weights of 1). Here stands the test of a plan (document 01) with figures in turns, and
-- the statement that a plan then passes exactly if it passes that test, and that the plan made is the one made from tables with figures in turns
-- (game_tables/ByTurns). Assumes nothing.
use Rattle.std.specs.Prelude.{◌≡◌, ◌↔◌, true, false, List, ℕ, ◌<◌}
use Rattle.std.proofs.Math.Option.{none, some}
use Rattle.railway.specs.declared.Railway.{Railway}
use Rattle.railway.specs.Rows.{record_refusal}
use Rattle.game.specs.Placement.{placements, start_code, at_home, shared}
use Rattle.game.specs.Setting.{held}
use Rattle.game.specs.Moves.{game_of}
use Rattle.game.specs.ByTurns.{KeepsInTurns}
use Rattle.game_tables.specs.Tables.{Filled}
use Rattle.game_tables.specs.ByTurns.{WeightsOne, FilledInTurns}
use Rattle.plan.specs.Text.{plan_texts}
use Rattle.plan.specs.Test.{Listing, listed_setting, Test}

-- A plan with figure m in its first line passes that test: a field for each of its sentences, as in Test.
pub record TestInTurns (r : Railway) (m : ℕ) (L : Listing) : Type 0 where
  -- the trains' start has a line, and its figure is that of the first line
  pub start : L.figure (start_code r) ≡ some m
  -- where trains share a section nothing is listed
  pub apart : (p n : ℕ) → p < placements r → L.figure p ≡ some n → shared r p ≡ false
  -- a train is opened only where it has a signal to open
  pub signalled : (p n t : ℕ) → p < placements r → L.figure p ≡ some n → t < r.trains → L.opens p t ≡ true → held r p t ≡ true
  -- each setting but home's keeps its figure, in turns
  pub kept : (p n : ℕ) → p < placements r → L.figure p ≡ some n → at_home r p ≡ false → KeepsInTurns (game_of r) L.figure p (listed_setting r L p) n

-- As before.
pub record PlanAsBefore (r : Railway) : Type 0 where
  -- the same plans pass
  pub tested : (m : ℕ) (L : Listing) → Test r m L ↔ TestInTurns r m L
  -- and the plan made is the same, text by text
  pub texts : (figs sets figs' sets' : List ℕ) → Filled r figs sets → FilledInTurns r figs' sets' → plan_texts r figs sets ≡ plan_texts r figs' sets'

-- So it is in every accepted case in which all weights are 1.
abbrev pub PlansAsBefore : Type 0
PlansAsBefore = (r : Railway) → record_refusal r ≡ none → WeightsOne r → PlanAsBefore r
