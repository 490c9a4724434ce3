-- Q-13 of the call that runs: its clauses compute to nothing asked and to the promise, and from the promise the claims follow. Assumes nothing.
use mathlib.Core.Path.{refl}
use contract.Monad.{fact_mono}
use Rattle.logs.proofs.Logs.{logs-hold}
use Rattle.logs_judge.proofs.compare.Met as compare
use Rattle.statements.specs.Logs.{LogsRun}

pub logs-run : LogsRun
logs-run =
    record {
      whole = logs-hold;
      asks = λ 𝓛 mem run κs a. refl;
      tells = λ 𝓛 mem run κs a answer left. refl;
      meets = compare.met;
      claims = λ {𝓤 = 𝓤} 𝓛 mem run κs a answer left. fact_mono 𝓤 _ _ (logs-hold.claims a.0 a.1.0.now a.1.1.0.now answer);
    }
