-- What document 01, "Yards to try", says of its yards, with parking (document 02, Q-2), as one statement over one table (game_tables/KnownYards
-- `known_figures`): the known figures, and the plan texts that are written out. Assumes nothing.
use Rattle.std.specs.Prelude.{◌≡◌, List, [], ◌∷◌, ℕ}
use Rattle.std.proofs.Math.Option.{Option, none, some}
use Prim.Native.String.{String}
use Rattle.text.specs.Text.{bytes}
use Rattle.railway.specs.declared.Railway.{Railway}
use Rattle.game_tables.specs.Tables.{Filled}
use Rattle.game_tables.specs.KnownYards.{KnownFigure, known_figures, AllHold}
use Rattle.plan.specs.Text.{plan_text}

-- Where a yard's plan is written out, this is its text by any two tables that have every placement's figure and the plan's setting.
abbrev pub Writes : Railway → Option String → Type 0
Writes r none = Unit {0}
Writes r (some s) = (figs sets : List ℕ) → Filled r figs sets → plan_text r figs sets ≡ bytes s

-- So with each line of a table.
abbrev pub AllWrite : List KnownFigure → Type 0
AllWrite [] = Unit {0}
AllWrite (x ∷ xs) = Writes x.yard x.text × AllWrite xs

-- THE STATEMENT FOR THE WHOLE: every known figure holds, and every text is the plan's.
pub record KnownYardsHold : Type 0 where
  pub figures : AllHold known_figures
  pub texts : AllWrite known_figures
