-- The test of a plan, computed. Nothing of document 01 rests on this file: `TestComputed`, in Checked, says when it is true. Assumes nothing.
use Rattle.std.specs.Prelude.{Bool, true, false, not, ◌&&◌, ◌||◌, ℕ, eqb}
use Rattle.std.proofs.Math.Option.{Option, none, some}
use Rattle.laws.specs.Below.{all_below}
use Rattle.railway.specs.declared.Railway.{Railway}
use Rattle.game.specs.Placement.{placements, start_code, at_home, shared}
use Rattle.game.specs.Setting.{held}
use Rattle.game.specs.Moves.{game_of}
use Rattle.game.specs.Local.{keeps_test}
use Rattle.plan.specs.Test.{Listing, listed_setting}

-- The first line's figure is that of the start.
abbrev pub is_figure : ℕ → Option ℕ → Bool
is_figure m none = false
is_figure m (some n) = eqb n m

-- Train t is closed at placement p, or has a signal to open there.
abbrev pub train_signalled : Railway → Listing → ℕ → ℕ → Bool
train_signalled r L p t = not (L.opens p t) || held r p t

-- Placement p, listed with figure n, passes: no shared section, every open train's signal there, the figure kept unless the trains are home.
abbrev pub listed_passes : Railway → Listing → ℕ → ℕ → Bool
listed_passes r L p n =
    not (shared r p)
    && (all_below (train_signalled r L p) r.trains
    && (at_home r p || keeps_test (game_of r) L.figure p (listed_setting r L p) n))

-- Placement p, with its figure if it is listed: nothing is asked of one that is not.
abbrev pub passes_if : Railway → Listing → ℕ → Option ℕ → Bool
passes_if r L p none = true
passes_if r L p (some n) = listed_passes r L p n

-- Placement p, with what the plan lists there.
unfoldable pub placement_passes : Railway → Listing → ℕ → Bool
placement_passes r L p = passes_if r L p (L.figure p)

-- The whole test, of a plan with figure m in its first line.
unfoldable pub test_holds : Railway → ℕ → Listing → Bool
test_holds r m L = is_figure m (L.figure (start_code r)) && all_below (placement_passes r L) (placements r)
