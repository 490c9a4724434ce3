-- WHAT IS SHOWN: the runs of the trains are entries of the tables, so each is its train's run, and what runs/Bound says of their sum is said of the number that is written; a plan that passes the test
-- leads home within its figure, so home can be forced within that. Assumes nothing.
use mathlib.Core.Path.{◌≡◌}
use mathlib.Core.List.{List}
use mathlib.Core.Option.{none}
use Prim.Native.Nat.{ℕ}
use native.Mathlib.Omega.{arith}
use Rattle.railway.specs.declared.Railway.{Railway}
use Rattle.railway.specs.Record.{train_of}
use Rattle.railway.specs.Rows.{record_refusal}
use Rattle.case_file.proofs.Given.{accepted-exactly}
use Rattle.case_file.proofs.Again.{accepted-again}
use Rattle.game.specs.Game.{Forced, following}
use Rattle.game.specs.Placement.{start_code}
use Rattle.game.specs.Moves.{game_of}
use Rattle.game.proofs.Accepted.{Facts, facts}
use Rattle.plan.specs.Test.{Listing, listed_setting, Test}
use Rattle.plan.proofs.Test.{plan-works}
use Rattle.runs.specs.Runs.{train_run}
use Rattle.runs.proofs.Bound.{by_side, sum-at-least, none-without}
use Rattle.runs_text.specs.Written.{RailwayRuns, ShownRuns, ShowsRuns}

-- a plan that passes is a way to force home
forced : (r : Railway) → record_refusal r ≡ none → (n : ℕ) (L : Listing) → Test r n L → Forced (game_of r) (start_code r) n
forced r accepted n L t = (following (listed_setting r L), plan-works r accepted n L t)

module _ (r : Railway) (accepted : record_refusal r ≡ none) (text : List ℕ) (h : RailwayRuns r text) where
  ok : Facts r
  ok = facts r accepted

  shown-runs : ShownRuns r text
  shown-runs =
      record {
        run = train_run r h.up h.down;
        each = λ t l. (by_side r ok h.up h.down h.is_up h.is_down (train_of r t).heading).entries (train_of r t).start.0 (train_of r t).destination.0
            (omega (arith, ok.starts t l, ok.few-sections)) (omega (arith, ok.destinations t l, ok.few-sections));
        written = h.written;
        figure = λ n i. sum-at-least r ok h.up h.down h.is_up h.is_down n i.0;
        plan = λ n L t. sum-at-least r ok h.up h.down h.is_up h.is_down n (forced r accepted n L t);
        no-figure = none-without r ok h.up h.down h.is_up h.is_down;
        no-plan = λ t l e n L p. none-without r ok h.up h.down h.is_up h.is_down t l e n (forced r accepted n L p);
      }

pub shows-runs : ShowsRuns
shows-runs case text r w o = shown-runs r (accepted-again case r ((accepted-exactly case r).1 w)) text (o.accepted r w)
