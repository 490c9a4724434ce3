-- The two tables: figures, and the plan's setting by its rule over all whole settings (document 01, "The two tables and the plan"; figures are
-- totals of weights, document 02, Q-12); row 9 for tables.
-- Assumes nothing.
use Rattle.std.specs.Prelude.{◌≡◌, ◌↔◌, Bool, true, cond, ◌&&◌, ◌||◌, List, [], ◌∷◌, ◌++◌, ℕ, zero, suc, ◌<◌, length, get_or, eqb, ltb, leb}
use Rattle.std.proofs.Math.Option
use Rattle.std.proofs.Math.Option.{Option, none, some}
use Rattle.laws.specs.Below.{count_below, lowest}
use Rattle.laws.specs.Bits.{from_bits}
use Rattle.railway.specs.declared.Railway.{Railway}
use Rattle.railway.specs.declared.Refusal.{Refusal}
use Rattle.railway.specs.declared.Refusal.TheVariants.{Space}
use Rattle.railway.specs.Bounds.{section_ends}
use Rattle.railway.specs.Refusals.{Row, row, first}
use Rattle.railway.specs.Record.{flag_at}
use Rattle.railway.specs.Rows.{record_rows}
use Rattle.game.specs.Game.{IsFigure}
use Rattle.game.specs.Claim.{Keeps}
use Rattle.game.specs.Placement.{placements}
use Rattle.game.specs.Setting.{Setting, signal_open}
use Rattle.game.specs.Moves.{game_of}
use Rattle.game_tables.specs.Entries.{setting_at, entry_of}

-- What the figure table has for none.
abbrev pub no_figure : ℕ
no_figure = 4294967295

-- The figure that an entry stands for, if it is one.
abbrev pub figure_entry : ℕ → Option ℕ
figure_entry x = cond (eqb x no_figure) none (some x)

-- The figure that the table has at a code; past its end there is none.
abbrev pub figure_in : List ℕ → ℕ → Option ℕ
figure_in figs p = figure_entry (get_or figs p no_figure)

-- The setting that the setting table has at a code.
abbrev pub setting_in : Railway → List ℕ → ℕ → Setting
setting_in r sets p = setting_at r p (get_or sets p 0)

-- 9, space, for tables: one of the two lent tables has fewer entries than there are placements.
unfoldable pub tables_short : Railway → List ℕ → List ℕ → Bool
tables_short r figs sets = ltb (length figs) (placements r) || ltb (length sets) (placements r)

-- The rows of a case, which is a record and two lent tables: those of the record, then 9.
abbrev pub case_rows : Railway → List ℕ → List ℕ → List Row
case_rows r figs sets = record_rows r ++ (row Space (tables_short r figs sets) ∷ [])

-- The first of them that applies.
unfoldable pub case_refusal : Railway → List ℕ → List ℕ → Option Refusal
case_refusal r figs sets = first (case_rows r figs sets)

-- THE PLAN'S RULE. A signal stands at the section end of index i, and is open.
abbrev pub opens_signal : Railway → Setting → ℕ → Bool
opens_signal r s i = flag_at r i && s.is_open i

-- How many signals of the yard a setting opens.
unfoldable pub open_signals : Railway → Setting → ℕ
open_signals r s = count_below (opens_signal r s) section_ends

-- The lowest train whose signal is open; past the last train if no train's is.
unfoldable pub lowest_open : Railway → ℕ → Setting → ℕ
lowest_open r p s = Option.get_or (lowest (signal_open r p s) r.trains) r.trains

-- The point bits of a setting.
abbrev pub point_bits : Railway → Setting → ℕ
point_bits r s = from_bits s.plus r.points

-- The first key decides, and the rest where it is equal.
abbrev pub then_by : ℕ → ℕ → Bool → Bool
then_by a b rest = ltb a b || eqb a b && rest

-- The plan's order of settings at placement p, by three keys, less being better: how many signals are open, the lowest open train, the
-- point bits as a number.
unfoldable pub no_later : Railway → ℕ → Setting → Setting → Bool
no_later r p a b = then_by (open_signals r a) (open_signals r b) (then_by (lowest_open r p a) (lowest_open r p b) (leb (point_bits r a) (point_bits r b)))

-- The plan's setting at placement p of figure n: it keeps the figure, and of all whole settings that do none comes before it.
pub record IsPlanSetting (r : Railway) (F : ℕ → Option ℕ) (p n : ℕ) (s : Setting) : Type 0 where
  pub keeps : Keeps (game_of r) F p s n
  pub earliest : (o : Setting) → Keeps (game_of r) F p o n → no_later r p s o ≡ true

-- Entry v is that of the plan's setting, with no bit besides.
abbrev pub Planned : Railway → (ℕ → Option ℕ) → ℕ → ℕ → ℕ → Type 0
Planned r F p n v = IsPlanSetting r F p n (setting_at r p v) × (entry_of r p (setting_at r p v) ≡ v)

-- What a search for it gives: an entry exactly if it is that one, and nothing exactly if no whole setting keeps the figure.
pub record Exact (r : Railway) (F : ℕ → Option ℕ) (p n : ℕ) (found : Option ℕ) : Type 0 where
  pub finds : (v : ℕ) → (found ≡ some v) ↔ Planned r F p n v
  pub finds-nothing : (found ≡ none) ↔ ((o : Setting) → ¬ (Keeps (game_of r) F p o n))

-- Entry v of the setting table at a placement of figure f: zero at home and without a figure, else that of the plan's setting.
abbrev pub IsPlanEntry : Railway → (ℕ → Option ℕ) → ℕ → Option ℕ → ℕ → Type 0
IsPlanEntry r F p none v = v ≡ 0
IsPlanEntry r F p (some zero) v = v ≡ 0
IsPlanEntry r F p (some (suc n)) v = Planned r F p (suc n) v

-- At every code the two tables have the placement's figure and the plan's setting.
pub record Filled (r : Railway) (figs sets : List ℕ) : Type 0 where
  pub figures : (p : ℕ) → p < placements r → IsFigure (game_of r) p (figure_in figs p)
  pub settings : (p : ℕ) → p < placements r → IsPlanEntry r (figure_in figs) p (figure_in figs p) (get_or sets p 0)
