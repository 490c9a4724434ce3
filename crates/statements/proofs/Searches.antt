-- Q-7 of the calls that run: each contract computes to its promise, and asks nothing. Assumes nothing.
use mathlib.Core.Path.{refl}
use Rattle.search_calls.proofs.open.Met as opening
use Rattle.search_calls.proofs.round.Met as round
use Rattle.search_calls.proofs.look_up.Met as looking
use Rattle.search.proofs.Searching.{search-holds}
use Rattle.statements.specs.Searches.{SearchesRun}
use Rattle.statements.proofs.Running.{end-to-end-runs}

pub searches-run : SearchesRun
searches-run =
    record {
      whole = search-holds;
      solver = end-to-end-runs.solver;
      opens = record { asks = λ κs a. tt; tells = λ κs a answer left. refl; meets = opening.met };
      rounds = record { asks = λ κs a. tt; tells = λ κs a answer left. refl; meets = round.met };
      looks = record { asks = λ κs a. tt; tells = λ κs a answer left. refl; meets = looking.met };
    }
