-- WHERE NO TRAIN IS DEARER THAN 1 THE TABLES ARE THOSE IN TURNS (document 02, Q-12, on weights of 1). Here stands what the tables have to hold (document 01, "The two
-- tables and the plan") with figures in turns (game/ByTurns), and the statement that Tables, where weights count, then asks for the same. Assumes nothing.
use Rattle.std.specs.Prelude.{◌≡◌, ◌↔◌, true, List, ℕ, zero, suc, ◌<◌, get_or}
use Rattle.std.proofs.Math.Option.{Option, none, some}
use Rattle.railway.specs.declared.Railway.{Railway}
use Rattle.railway.specs.Record.{weight_of}
use Rattle.game.specs.Placement.{placements}
use Rattle.game.specs.Setting.{Setting}
use Rattle.game.specs.Moves.{game_of}
use Rattle.game.specs.ByTurns.{IsTurns, KeepsInTurns}
use Rattle.game_tables.specs.Entries.{setting_at, entry_of}
use Rattle.game_tables.specs.Tables.{figure_in, no_later, Filled}

-- Every train of the railway has weight 1.
abbrev pub WeightsOne : Railway → Type 0
WeightsOne r = (t : ℕ) → t < r.trains → weight_of r t ≡ 1

-- The plan's setting, in turns: of all settings that keep the figure none comes before it.
pub record IsSettingInTurns (r : Railway) (F : ℕ → Option ℕ) (p n : ℕ) (s : Setting) : Type 0 where
  pub keeps : KeepsInTurns (game_of r) F p s n
  pub earliest : (o : Setting) → KeepsInTurns (game_of r) F p o n → no_later r p s o ≡ true

-- Entry v is that of the plan's setting, with no bit besides.
abbrev pub PlannedInTurns : Railway → (ℕ → Option ℕ) → ℕ → ℕ → ℕ → Type 0
PlannedInTurns r F p n v = IsSettingInTurns r F p n (setting_at r p v) × (entry_of r p (setting_at r p v) ≡ v)

-- Entry v of the setting table at a placement of figure f: zero at home and without a figure, else that of the plan's setting.
abbrev pub IsEntryInTurns : Railway → (ℕ → Option ℕ) → ℕ → Option ℕ → ℕ → Type 0
IsEntryInTurns r F p none v = v ≡ 0
IsEntryInTurns r F p (some zero) v = v ≡ 0
IsEntryInTurns r F p (some (suc n)) v = PlannedInTurns r F p (suc n) v

-- At every code the two tables have the figure in turns and the plan's setting by it.
pub record FilledInTurns (r : Railway) (figs sets : List ℕ) : Type 0 where
  pub figures : (p : ℕ) → p < placements r → IsTurns (game_of r) p (figure_in figs p)
  pub settings : (p : ℕ) → p < placements r → IsEntryInTurns r (figure_in figs) p (figure_in figs p) (get_or sets p 0)

-- With all weights 1 the tables wanted are those in turns.
abbrev pub TablesAsBefore : Type 0
TablesAsBefore = (r : Railway) → WeightsOne r → (figs sets : List ℕ) → Filled r figs sets ↔ FilledInTurns r figs sets
