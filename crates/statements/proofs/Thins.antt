-- Q-14 of the calls that run: the contract computes to its promise, and asks nothing. Assumes nothing.
use mathlib.Core.Path.{refl}
use Rattle.thin_call.proofs.thin.Met as thin
use Rattle.thin.proofs.Law.{law-holds}
use Rattle.thin.proofs.Claims.{thins-hold}
use Rattle.thin.proofs.Calls.{plans-thin}
use Rattle.statements.specs.Thins.{ThinsRun}
use Rattle.statements.proofs.Running.{end-to-end-runs}

pub thins-run : ThinsRun
thins-run =
    record {
      law = law-holds;
      whole = thins-hold;
      plans = plans-thin;
      fresh = end-to-end-runs.fresh;
      take = end-to-end-runs.take;
      test = end-to-end-runs.test;
      thin = record { asks = λ κs a. tt; tells = λ κs a answer left. refl; meets = thin.met };
    }
