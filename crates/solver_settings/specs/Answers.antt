-- What a search for a setting answers (document 01, "The two tables and the plan"). `find` is read through `KeepingExact`.
-- Assumes nothing.
use Rattle.std.specs.Prelude.{◌≡◌, false, cond, ℕ}
use Rattle.std.proofs.Math.Option.{Option, none, some}
use Rattle.railway.specs.declared.Railway.{Railway}
use Rattle.railway.specs.Rows.{record_refusal}
use Rattle.game.specs.Placement.{shared}
use Rattle.game_tables.specs.Tables.{Exact}
use Rattle.game_tables.specs.Find.{find}
use Rattle.solver_settings.specs.Found.{Found, Nothing, Entry}

-- The entry that was found, if one was.
abbrev pub entry_found : Found → Option ℕ
entry_found Nothing = none
entry_found (Entry v) = some v

-- The entry of the first setting, in the plan's order, under which somebody may move at placement p, and whoever may comes to a figure that is smaller than n
-- by at least the mover's weight.
-- Where trains share a section, nothing is kept.
unfoldable pub first_keeping : Railway → (ℕ → Option ℕ) → ℕ → ℕ → Option ℕ
first_keeping r F p n = cond (shared r p) none (find r F p n)

-- In an accepted case, at a placement that is not lost, it is exactly the plan's entry, by the rule over all whole settings.
abbrev pub KeepingExact : Type 0
KeepingExact = (r : Railway) (F : ℕ → Option ℕ) (p n : ℕ) → record_refusal r ≡ none → shared r p ≡ false → Exact r F p n (first_keeping r F p n)
