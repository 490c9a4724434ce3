-- How far a search has come: how many placements have a figure in the figure table and which is the largest, and the line that program `searchrun`
-- writes for a round (document 02, Q-7: figures early). Assumes nothing.
use Rattle.std.specs.Prelude.{◌≡◌, Bool, not, List, [], ◌∷◌, ℕ, ◌≤◌, ◌<◌, get_or, eqb}
use Rattle.std.proofs.Math.Option.{some}
use Rattle.laws.specs.Below.{count_below}
use Rattle.text.specs.Text.{decimal, line, bytes}
use Rattle.game_tables.specs.Tables.{no_figure, figure_in}
use Rattle.search_progress.specs.declared.Progress.{Progress}

-- The table has a figure at a code.
abbrev pub bears : List ℕ → ℕ → Bool
bears figs p = not (eqb (get_or figs p no_figure) no_figure)

-- How many of the n lowest codes have a figure.
abbrev pub figures_below : List ℕ → ℕ → ℕ
figures_below figs n = count_below (bears figs) n

-- Some code below n has this figure.
pub record Has (figs : List ℕ) (n figure : ℕ) : Type 0 where
  pub code : ℕ
  pub below : code < n
  pub has : figure_in figs code ≡ some figure

-- HOW FAR a search has come, of which the table has the figures and there are n placements: how many have a figure; the largest, which is at least
-- every figure, and is one if there is any, else 0.
pub record Tells (figs : List ℕ) (n : ℕ) (a : Progress) : Type 0 where
  pub count : a.count ≡ figures_below figs n
  pub most : (p : ℕ) → p < n → (j : ℕ) → figure_in figs p ≡ some j → j ≤ a.largest
  pub reached : 0 < a.count → Has figs n a.largest
  pub without : a.count ≡ 0 → a.largest ≡ 0

-- THE LINE of a round: its word, its number, how many placements have a figure, the largest figure.
abbrev pub round_line : ℕ → Progress → List ℕ
round_line n a = line (bytes "round" ∷ decimal n ∷ decimal a.count ∷ decimal a.largest ∷ [])
