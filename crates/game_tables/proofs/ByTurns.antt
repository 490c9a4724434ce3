-- With all weights 1 the tables are as before: a figure is that in turns, the same settings keep it, and so the same one of them comes first. Assumes nothing.
use mathlib.Core.Option.{Option, none, some}
use Prim.Native.Nat.{ℕ, zero, suc}
use lib.ListN.{get_or}
use Rattle.railway.specs.declared.Railway.{Railway}
use Rattle.game.specs.Setting.{Setting}
use Rattle.game.specs.Moves.{game_of}
use Rattle.game.specs.ByTurns.{AsBefore}
use Rattle.game.proofs.ByTurns.{one-as-before}
use Rattle.game_tables.specs.Tables.{figure_in, IsPlanSetting, IsPlanEntry}
use Rattle.game_tables.specs.ByTurns.{WeightsOne, IsSettingInTurns, IsEntryInTurns, TablesAsBefore}

module _ (r : Railway) (one : WeightsOne r) where
  abbrev same : AsBefore (game_of r)
  same = one-as-before Setting (game_of r) one

  module _ (F : ℕ → Option ℕ) (p : ℕ) where
    setting-turns : (n : ℕ) (s : Setting) → IsPlanSetting r F p n s → IsSettingInTurns r F p n s
    setting-turns n s x = record { keeps = (same.keeps F p s n).0 x.keeps; earliest = λ o k. x.earliest o ((same.keeps F p o n).1 k) }

    turns-setting : (n : ℕ) (s : Setting) → IsSettingInTurns r F p n s → IsPlanSetting r F p n s
    turns-setting n s x = record { keeps = (same.keeps F p s n).1 x.keeps; earliest = λ o k. x.earliest o ((same.keeps F p o n).0 k) }

    entry-turns : (f : Option ℕ) (v : ℕ) → IsPlanEntry r F p f v → IsEntryInTurns r F p f v
    entry-turns none v e = e
    entry-turns (some zero) v e = e
    entry-turns (some (suc n)) v e = (setting-turns (suc n) _ e.0, e.1)

    turns-entry : (f : Option ℕ) (v : ℕ) → IsEntryInTurns r F p f v → IsPlanEntry r F p f v
    turns-entry none v e = e
    turns-entry (some zero) v e = e
    turns-entry (some (suc n)) v e = (turns-setting (suc n) _ e.0, e.1)

-- THE TABLES ARE AS BEFORE
pub tables-as-before : TablesAsBefore
tables-as-before r one figs sets = (
  λ x. record {
    figures = λ p l. ((same r one).figures p (figure_in figs p)).0 (x.figures p l);
    settings = λ p l. entry-turns r one (figure_in figs) p (figure_in figs p) (get_or sets p 0) (x.settings p l);
  },
  λ x. record {
    figures = λ p l. ((same r one).figures p (figure_in figs p)).1 (x.figures p l);
    settings = λ p l. turns-entry r one (figure_in figs) p (figure_in figs p) (get_or sets p 0) (x.settings p l);
  },
)
