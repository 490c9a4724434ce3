-- Thinning a plan in the checker's tables (document 02, Q-14): which train stays open at a placement, what becomes of an entry and of the setting table, and the call, which makes the
-- test of the plan itself. It is total: any record, state and tables. Assumes nothing.
use Rattle.std.specs.Prelude.{◌≡◌, Bool, cond, List, ◌++◌, ℕ, ◌+◌, ◌%◌, ◌^◌, get_or, drop}
use Rattle.std.proofs.Math.Option.{Option, none, some}
use Rattle.laws.specs.Below.{any_below, lowest, list_below}
use Rattle.railway.specs.declared.Railway.{Railway}
use Rattle.railway.specs.declared.Refusal.{Refusal}
use Rattle.railway.specs.Refusals.{number, first, number_of}
use Rattle.game.specs.Game.{may}
use Rattle.game.specs.Placement.{placements, at_home}
use Rattle.game.specs.Setting.{Setting, free}
use Rattle.game.specs.Moves.{game_of}
use Rattle.game_tables.specs.Entries.{train_bits, setting_at}
use Rattle.game_tables.specs.Tables.{figure_in}
use Rattle.plan.specs.Checker.{Checking, Left, left, test_rows}
use Rattle.thin.specs.ThinAnswer.{ThinAnswer, Thinned, Refused}

-- AT A PLACEMENT. Some train may move without a signal: it is not parked, and none stands at the end that it heads for.
unfoldable pub some_free : Railway → ℕ → Bool
some_free r p = any_below (free r p) r.trains

-- The train that stays open under the plan's own setting: none where some train is free, else the lowest that may move.
unfoldable pub stays : Railway → ℕ → Setting → Option ℕ
stays r p s = cond (some_free r p) none (lowest (may (game_of r) p s) r.trains)

-- The bit of the train that is open, behind those of the points.
abbrev pub open_bit : Option ℕ → ℕ
open_bit none = 0
open_bit (some t) = 2 ^ (train_bits + t)

-- An entry with its points as they lie and nobody open but this train.
abbrev pub open_only : ℕ → Option ℕ → ℕ
open_only v o = v % (2 ^ train_bits) + open_bit o

-- IN THE TABLES. The entry v of placement p, by its figure: as it was where the placement is not listed, and at home; else thinned.
abbrev pub thinned_if : Railway → ℕ → ℕ → Option ℕ → ℕ
thinned_if r p v none = v
thinned_if r p v (some n) = cond (at_home r p) v (open_only v (stays r p (setting_at r p v)))

-- The same, by the two tables.
unfoldable pub thinned_entry : Railway → List ℕ → List ℕ → ℕ → ℕ
thinned_entry r figs sets p = thinned_if r p (get_or sets p 0) (figure_in figs p)

-- The setting table, thinned: at every code its entry; past the last code all is as it was.
abbrev pub thinned_table : Railway → List ℕ → List ℕ → List ℕ
thinned_table r figs sets = list_below (thinned_entry r figs sets) (placements r) ++ drop (placements r) sets

-- State and figures stay.
abbrev pub thinned_checking : Railway → Checking → Checking
thinned_checking r c = record { state = c.state; figs = c.figs; sets = thinned_table r c.figs c.sets }

-- THE CALL. The number that its answer gives, if it refuses.
abbrev pub thin_number : ThinAnswer → Option ℕ
thin_number Thinned = none
thin_number (Refused f) = some (number f)

-- By the refusal of the test: a plan that is refused stays as it is.
abbrev pub thin_leaves : Checking → Checking → Option Refusal → Left ThinAnswer
thin_leaves c after (some f) = left (Refused f) c
thin_leaves c after none = left Thinned after

-- It is refused by the first row of the test that applies, else the plan is thinned.
unfoldable pub thin_plan : Railway → Checking → Left ThinAnswer
thin_plan r c = thin_leaves c (thinned_checking r c) (first (test_rows r c))

-- WHAT THE CALL PROMISES: its answer, its number, and state and tables, which come back as `new`.
pub record ThinPost (r : Railway) (old : Checking) (a : ThinAnswer) (new : Checking) : Type 0 where
  pub answer : a ≡ (thin_plan r old).answer
  pub numbered : thin_number a ≡ number_of (first (test_rows r old))
  pub checking : new ≡ (thin_plan r old).checking
