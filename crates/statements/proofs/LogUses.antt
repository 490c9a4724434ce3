-- The statement on the comparison that runs at work, in Yard A: of any call with its record and two logs, in any world of the prover's, something is drawn of the answer from what the
-- contract tells. Assumes nothing.
use mathlib.Core.Path.{◌≡◌}
use mathlib.Core.Logic.{inl, inr}
use mathlib.Core.List.{List}
use mathlib.Core.Option.{some}
use native.Mathlib.Omega.{arith}
use lib.ListN.{length-replicate}
use seplogic.Ra.Ura.{Ura}
use base.Logic.{SProp, ent, emp, via, id⊢}
use prog.Memory.{Memory}
use prog.Routine.{Routine}
use types.Logic.{Logic}
use contract.Lifetimes.{Lfts}
use contract.Monad.{Fun, fact, fact_mono}
use denote.Triple.Entry.{Args, Res}
use denote.Triple.Clauses.{AtExit}
use Rattle.railway.specs.declared.Railway.{Railway}
use Rattle.railway.specs.Yards.{yard_a}
use Rattle.logs.specs.declared.Entry.{Entry}
use Rattle.logs.specs.LogAnswer.{LogAnswer, Agree, Differ}
use Rattle.logs.specs.Logs.{number_said, LogPost, LogClaims}
use Rattle.logs.proofs.Examples.{entered, panel, axles, crossed, many}
use Rattle.logs.proofs.Uses.{accepted, taken, all_same, crossed-lowest}
use Rattle.logs_judge.specs.contracts.compare as compare
use Rattle.logs_judge.proofs.compare.Statement.{statement as CompareMeets}
use Rattle.statements.specs.Logs.{Asks, Tells}
use Rattle.statements.proofs.Logs.{logs-run}

-- it is met
met : {M : Type 1} → CompareMeets M
met = logs-run.meets

-- from the promise, by the claims of logs/Logs
agrees : (r : Railway) (a b : List Entry) → r ≡ yard_a → a ≡ panel → b ≡ axles → (x : LogAnswer) → LogPost r a b x → x ≡ Agree
agrees r a b er ea eb x p = (logs-run.whole.claims yard_a panel axles x (rw (er, ea, eb) at p)).agree.1 (taken.0, all_same)

-- from the claims of an answer
first-named : (r : Railway) (a b : List Entry) → r ≡ yard_a → a ≡ panel → b ≡ crossed → (x : LogAnswer) → LogClaims r a b x → x ≡ Differ 0
first-named r a b er ea eb x c = let k : LogClaims yard_a panel crossed x = rw (er, ea, eb) at c in (k.differ 0).1 (taken.1, crossed-lowest)

too_many : (r : Railway) (a b : List Entry) → r ≡ yard_a → b ≡ many 257 → (x : LogAnswer) → LogClaims r a b x → number_said x ≡ some 17
too_many r a b er eb x c =
    let k : LogClaims yard_a a (many 257) x = rw (er, eb) at c in k.seventeen.1 (accepted, inr (inl (let n = length-replicate 257 (entered 1 2) in omega arith)))

module _ {M : Type 1} {𝓤 : Ura M} (𝓛 : Logic 𝓤) (mem : Memory → SProp 𝓤) (run : Routine → Fun 𝓤) (κs : Lfts 2) (a : Args compare.signature κs) where
  -- anybody may call it
  asks_nothing : ent 𝓤 (emp 𝓤) (Asks 𝓛 mem run κs a)
  asks_nothing = rw (logs-run.asks 𝓛 mem run κs a) (id⊢ 𝓤 (emp 𝓤))

  module _ (answer : Res compare.signature κs) (left : AtExit compare.ended κs) (yard : a.0 ≡ yard_a) where
    -- logs that are a swap apart agree
    one-swap : a.1.0.now ≡ panel → a.1.1.0.now ≡ axles → ent 𝓤 (Tells 𝓛 mem run κs a answer left) (fact 𝓤 (answer ≡ Agree))
    one-swap ea eb = rw (logs-run.tells 𝓛 mem run κs a answer left) (fact_mono 𝓤 _ _ (agrees a.0 a.1.0.now a.1.1.0.now yard ea eb answer))

    -- with the entries of train 1 in another order it is named
    other-order : a.1.0.now ≡ panel → a.1.1.0.now ≡ crossed → ent 𝓤 (Tells 𝓛 mem run κs a answer left) (fact 𝓤 (answer ≡ Differ 0))
    other-order ea eb = via 𝓤 _ (logs-run.claims 𝓛 mem run κs a answer left) (fact_mono 𝓤 _ _ (first-named a.0 a.1.0.now a.1.1.0.now yard ea eb answer))

    -- whatever the panel's log is, 257 entries of the axle counters give 17
    second-too-long : a.1.1.0.now ≡ many 257 → ent 𝓤 (Tells 𝓛 mem run κs a answer left) (fact 𝓤 (number_said answer ≡ some 17))
    second-too-long eb = via 𝓤 _ (logs-run.claims 𝓛 mem run κs a answer left) (fact_mono 𝓤 _ _ (too_many a.0 a.1.0.now a.1.1.0.now yard eb answer))
