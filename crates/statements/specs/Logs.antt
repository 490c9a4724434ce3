-- Panel log and axle log (document 02, Q-13), of the call that runs: what logs/Logs claims of an answer is said of the contract of `compare`, which asks nothing and is met. The
-- contract is read off its two clauses, which are assertions of the prover's logic: `emp` asks nothing,
-- `fact` says that something holds and nothing else, `ent` is that one follows from the other. Arguments are written as in Running. Assumes nothing.
use Rattle.std.specs.Prelude.{◌≡◌}
use seplogic.Ra.Ura.{Ura}
use base.Logic.{SProp, ent, emp}
use prog.Memory.{Memory}
use prog.Routine.{Routine}
use types.Logic.{Logic}
use contract.Lifetimes.{Lfts}
use contract.Monad.{Fun, fact}
use denote.Triple.Entry.{Args, Res}
use denote.Triple.Clauses.{AtExit}
use Rattle.logs.specs.Logs.{LogPost, LogClaims, LogsHold}
use Rattle.logs_judge.specs.contracts.compare as compare
use Rattle.logs_judge.proofs.compare.Statement.{statement as CompareMeets}

module _ {M : Type 1} {𝓤 : Ura M} (𝓛 : Logic 𝓤) (mem : Memory → SProp 𝓤) (run : Routine → Fun 𝓤) (κs : Lfts 2) (a : Args compare.signature κs) where
  -- What the contract of `logs_judge::compare` asks: of the record, and the two logs, which it only reads.
  abbrev pub Asks : SProp 𝓤
  Asks = (compare.clauses 𝓛 mem run κs a).requires tt

  -- What it tells of an answer.
  abbrev pub Tells : Res compare.signature κs → AtExit compare.ended κs → SProp 𝓤
  Tells answer left = (compare.clauses 𝓛 mem run κs a).ensures tt answer left

-- Q-13, of the call that runs: it asks nothing, what it tells is the promise, the routine meets it, and of every answer the claims follow.
pub record LogsRun : Type 2 where
  pub whole : LogsHold
  pub asks : {M : Type 1} {𝓤 : Ura M} (𝓛 : Logic 𝓤) (mem : Memory → SProp 𝓤) (run : Routine → Fun 𝓤) (κs : Lfts 2) (a : Args compare.signature κs) → Asks 𝓛 mem run κs a ≡ emp 𝓤
  pub tells : {M : Type 1} {𝓤 : Ura M} (𝓛 : Logic 𝓤) (mem : Memory → SProp 𝓤) (run : Routine → Fun 𝓤) (κs : Lfts 2) (a : Args compare.signature κs)
      → (answer : Res compare.signature κs) (left : AtExit compare.ended κs) → Tells 𝓛 mem run κs a answer left ≡ fact 𝓤 (LogPost a.0 a.1.0.now a.1.1.0.now answer)
  pub meets : {M : Type 1} → CompareMeets M
  pub claims : {M : Type 1} {𝓤 : Ura M} (𝓛 : Logic 𝓤) (mem : Memory → SProp 𝓤) (run : Routine → Fun 𝓤) (κs : Lfts 2) (a : Args compare.signature κs)
      → (answer : Res compare.signature κs) (left : AtExit compare.ended κs) → ent 𝓤 (Tells 𝓛 mem run κs a answer left) (fact 𝓤 (LogClaims a.0 a.1.0.now a.1.1.0.now answer))
