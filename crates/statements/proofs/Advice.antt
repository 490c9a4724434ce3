-- Q-10 of the call that runs: its contract computes to the promise and asks nothing, and from the promise the claims follow. Assumes nothing.
use mathlib.Core.Path.{refl}
use Rattle.advice.proofs.Advising.{advice-holds}
use Rattle.advice_call.proofs.advise.Met as advise
use Rattle.statements.specs.Advice.{AdviceRuns}

pub advice-runs : AdviceRuns
advice-runs =
    record {
      whole = advice-holds;
      asks = λ κs a. tt;
      tells = λ κs a answer left. refl;
      meets = advise.met;
      claims = λ κs a answer left fine learnt. advice-holds.claims a.0 answer a.1.0.now a.1.1.0.now left.1.0.now left.1.1.0.now fine learnt;
      refuses = λ κs a answer left f e learnt. advice-holds.refused a.0 answer a.1.0.now a.1.1.0.now left.1.0.now left.1.1.0.now f e learnt;
    }
