-- The plan that two tables make, and its text (document 01, "The two tables and the plan": plan text).
-- Assumes nothing.
use Rattle.std.specs.Prelude.{Bool, true, false, ℕ, get_or}
use mathlib.Core.List.{List, map, flatten}
use Rattle.std.proofs.Math.Option.{Option, none, some}
use Rattle.laws.specs.Below.{which_below, list_below}
use Rattle.laws.specs.Bits.{bit}
use Rattle.railway.specs.declared.Railway.{Railway}
use Rattle.game.specs.Placement.{placements, sections_of, start_code}
use Rattle.game_tables.specs.Entries.{opens_in}
use Rattle.game_tables.specs.Tables.{no_figure, figure_in}
use Rattle.plan.specs.Lines.{PlacementLine, PlanLine, spell, plan_of}

-- There is one.
abbrev pub is_some : Option ℕ → Bool
is_some none = false
is_some (some n) = true

-- A placement has a figure in the table.
abbrev pub has_figure : List ℕ → ℕ → Bool
has_figure figs p = is_some (figure_in figs p)

-- The line for placement p.
unfoldable pub line_for : Railway → List ℕ → List ℕ → ℕ → PlacementLine
line_for r figs sets p =
    record {
      sections = sections_of r p;
      figure = get_or figs p no_figure;
      opens = list_below (opens_in (get_or sets p 0)) r.trains;
      plus = list_below (bit (get_or sets p 0)) r.points;
    }

-- The plan: a first line with the figure of the start and behind it, lowest code first, one for every placement that has a figure.
unfoldable pub plan_lines : Railway → List ℕ → List ℕ → List PlanLine
plan_lines r figs sets = plan_of (get_or figs (start_code r) no_figure) (map (line_for r figs sets) (which_below (has_figure figs) (placements r)))

-- Its text, line by line.
unfoldable pub plan_texts : Railway → List ℕ → List ℕ → List (List ℕ)
plan_texts r figs sets = map spell (plan_lines r figs sets)

-- Its text as a whole.
abbrev pub plan_text : Railway → List ℕ → List ℕ → List ℕ
plan_text r figs sets = flatten (plan_texts r figs sets)
