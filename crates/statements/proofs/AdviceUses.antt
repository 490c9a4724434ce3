-- The statement on the advice that runs at work: whoever has it, of any call with a record of advice/Yards, or with
-- Yard A's, and any tables something is drawn of the answer, and of the tables as they are left, from what the contract
-- tells. Assumes nothing.
use mathlib.Core.Path.{◌≡◌}
use mathlib.Core.Option.{some}
use Prim.Native.Nat.{◌≤◌}
use lib.ListN.{length, replicate}
use denote.Triple.Clauses.{AtExit}
use contract.Lifetimes.{Lfts}
use borrow.Fn.Kinds.{Dens, res_t, ended_of}
use Rattle.railway.specs.declared.Side.TheVariants.{Up}
use Rattle.railway.specs.declared.Refusal.TheVariants.{Space}
use Rattle.railway.specs.Yards.{yard_a}
use Rattle.game_tables.specs.Tables.{figure_in}
use Rattle.advice.specs.Advice.{NotNeeded, Signal, NoneHelps, Refused}
use Rattle.advice.specs.Advising.{AdvicePost, AdviceClaims}
use Rattle.advice.proofs.Examples.{following, closed_ring}
use Rattle.advice.proofs.Yards.{one}
use Rattle.advice.proofs.Uses.{too_short, following-fine, ring-fine, from-promise, two-at-start, none_here, two-behind, yard_a-figure, yard_a-fine}
use Rattle.advice_call.proofs.advise.Kinds as advise
use Rattle.advice_call.proofs.advise.Reads.{Asked as AdviseAsked, Learnt as AdviseLearnt}
use Rattle.advice_call.proofs.advise.Statement.{statement as AdviseMeets}
use Rattle.statements.specs.Advice.{AdviceRuns}

same : {A B : Type 0} → A ≡ B → A → B
same e x = rw e at x

module _ (runs : AdviceRuns) where
  -- it asks nothing, and is met
  asks_nothing : (κs : Lfts 2) (a : Dens κs advise.ps) → AdviseAsked κs a
  asks_nothing = runs.asks

  is-met : {M : Type 1} → AdviseMeets M
  is-met = runs.meets

  module _ (κs : Lfts 2) (a : Dens κs advise.ps) (answer : (res_t advise.r κs).Denot) (left : AtExit (ended_of 2 advise.ps advise.r) κs) (learnt : AdviseLearnt κs a answer left) where
    -- the contract tells the promise
    told : AdvicePost a.0 answer a.1.0.now a.1.1.0.now left.1.0.now left.1.1.0.now
    told = same (runs.tells κs a answer left) learnt

    module _ (lf : 9 ≤ length a.1.0.now) (ls : 9 ≤ length a.1.1.0.now) where
      -- train 1 has to be held at 1u: from the promise, by the statement
      first-end : a.0 ≡ following → answer ≡ Signal one Up
      first-end yard = from-promise runs.whole answer a.1.0.now a.1.1.0.now left.1.0.now left.1.1.0.now lf ls (rw yard at told)

      -- from the claims of the call: the start has 2 then
      first-figure : a.0 ≡ following → figure_in left.1.0.now 3 ≡ some 2
      first-figure yard =
          two-at-start answer a.1.0.now a.1.1.0.now left.1.0.now left.1.1.0.now
          (rw yard at (runs.claims κs a answer left (rw yard (following-fine a.1.0.now a.1.1.0.now lf ls)) learnt))

      -- no signal helps in the ring, and the tables are those of the last try
      no_end : a.0 ≡ closed_ring → (answer ≡ NoneHelps) × (figure_in left.1.0.now 5 ≡ some 2)
      no_end yard =
          let c : AdviceClaims closed_ring answer a.1.0.now a.1.1.0.now left.1.0.now left.1.1.0.now =
          rw yard at (runs.claims κs a answer left (rw yard (ring-fine a.1.0.now a.1.1.0.now lf ls)) learnt) in (
            none_here answer a.1.0.now a.1.1.0.now left.1.0.now left.1.1.0.now c,
            two-behind answer a.1.0.now a.1.1.0.now left.1.0.now left.1.1.0.now c,
          )

      -- Yard A needs none
      not-needed : a.0 ≡ yard_a → answer ≡ NotNeeded
      not-needed yard = (runs.claims κs a answer left (rw yard (yard_a-fine a.1.0.now a.1.1.0.now lf ls)) learnt).not-needed.1 (rw yard yard_a-figure)

    -- tables of eight entries are refused, and stay
    too_few : a.0 ≡ following → a.1.0.now ≡ replicate 8 5 → a.1.1.0.now ≡ replicate 9 6
        → (answer ≡ Refused Space) × (left.1.0.now ≡ a.1.0.now) × (left.1.1.0.now ≡ a.1.1.0.now)
    too_few yard figs sets = runs.refuses κs a answer left Space (rw (yard, figs, sets) too_short) learnt
