-- The statement on the call that counts at work, in Yard A: of any call of it, and of any behind a call of the solver, something is drawn from what the calls tell. Assumes nothing.
use mathlib.Core.Path.{◌≡◌, subst}
use mathlib.Core.Option.{none, some}
use Prim.Native.Nat.{ℕ, ◌≤◌, ◌<◌}
use native.Mathlib.Omega.{arith}
use lib.ListN.{length, get_or}
use denote.Triple.Clauses.{AtExit}
use contract.Lifetimes.{Lfts}
use borrow.Fn.Kinds.{Dens, res_t, ended_of}
use Rattle.railway.specs.Yards.{yard_a}
use Rattle.game.specs.Game.{IsFigure}
use Rattle.game.specs.Moves.{game_of}
use Rattle.game.specs.Placement.{placements}
use Rattle.game_tables.specs.Solver.{SolverPost}
use Rattle.game_tables.proofs.KnownYards.{yard_a-accepted}
use Rattle.counts.specs.CountAnswer.{Counted}
use Rattle.counts.specs.Counts.{CountReply, count_number, CountPost, Spread, CountClaims, reply_of}
use Rattle.counts.proofs.Uses.{nine, known_two, known-none}
use Rattle.solver.proofs.solve.Kinds as solve
use Rattle.solver.proofs.solve.Reads.{Learnt as SolveLearnt}
use Rattle.counts_call.proofs.count_figures.Kinds as counting
use Rattle.counts_call.proofs.count_figures.Reads.{Asked as CountAsked, Learnt as CountLearnt}
use Rattle.counts_call.proofs.count_figures.Statement.{statement as CountMeets}
use Rattle.statements.specs.Counts.{CountsRun}
use Rattle.statements.proofs.Counts.{counts-run}

same : {A B : Type 0} → A ≡ B → A → B
same e x = rw e at x

-- THE STATEMENT, whoever says it
module _ (run : CountsRun) where
  -- it asks nothing, and is met
  asks_nothing : (κs : Lfts 1) (a : Dens κs counting.ps) → CountAsked κs a
  asks_nothing = run.counts.asks

  met : {M : Type 1} → CountMeets M
  met = run.counts.meets

  -- how many have 2, and how many none, where the figures of Yard A are spread so
  two-and-none : (x : CountReply) → Spread (IsFigure (game_of yard_a)) (placements yard_a) x.counts → (get_or x.counts 2 0 ≡ 1) × (get_or x.counts 256 0 ≡ 6)
  two-and-none x s =
      let t : Spread (IsFigure (game_of yard_a)) 9 x.counts = subst (λ (m : ℕ). Spread (IsFigure (game_of yard_a)) m x.counts) nine s in (
        run.whole.one_number (λ p. IsFigure (game_of yard_a) p (some 2)) 9 (get_or x.counts 2 0) 1 (t.each 2 (omega arith)) known_two,
        run.whole.one_number (λ p. IsFigure (game_of yard_a) p none) 9 (get_or x.counts 256 0) 6 t.without known-none,
      )

  -- ANY CALL with the record of Yard A: with fewer than nine entries it gives 9
  module _ (κs : Lfts 1) (a : Dens κs counting.ps) (answer : (res_t counting.r κs).Denot) (left : AtExit (ended_of 1 counting.ps counting.r) κs) (is-yard : a.0 ≡ yard_a)
      (learnt : CountLearnt κs a answer left) where
    -- by what the call claims
    short-table : length a.1.0.now < 9 → count_number (reply_of answer).answer ≡ some 9
    short-table l =
        let claims : CountClaims yard_a a.1.0.now (reply_of answer) = rw is-yard at (run.claims κs a answer left learnt) in
        claims.nine.1 (yard_a-accepted, omega (arith, nine))

    -- by the promise that it tells: with nine entries there are counts
    long-table : 9 ≤ length a.1.0.now → (reply_of answer).answer ≡ Counted
    long-table l =
        let post : CountPost yard_a a.1.0.now (reply_of answer) = rw is-yard at (same (run.counts.tells κs a answer left) learnt) in
        (run.whole.claims yard_a a.1.0.now (reply_of answer) post).counted.1 (yard_a-accepted, omega (arith, nine))

  -- BEHIND THE SOLVER, with tables of nine entries or more: one placement has figure 2, six have none
  module _ (κs : Lfts 2) (a : Dens κs solve.ps) (said : (res_t solve.r κs).Denot) (left : AtExit (ended_of 2 solve.ps solve.r) κs) (is-yard : a.0 ≡ yard_a)
      (lf : 9 ≤ length a.1.0.now) (ls : 9 ≤ length a.1.1.0.now) (learnt : SolveLearnt κs a said left)
      (κs' : Lfts 1) (b : Dens κs' counting.ps) (answer : (res_t counting.r κs').Denot) (left' : AtExit (ended_of 1 counting.ps counting.r) κs') (counted : CountLearnt κs' b answer left')
      (same-record : b.0 ≡ a.0) (same-table : b.1.0.now ≡ left.1.0.now) where
    spread-there : ((reply_of answer).answer ≡ Counted) × Spread (IsFigure (game_of a.0)) (placements a.0) (reply_of answer).counts
    spread-there =
        run.solved κs a said left learnt (rw is-yard yard_a-accepted) (rw is-yard (omega (arith, nine))) (rw is-yard (omega (arith, nine))) κs' b answer left' counted same-record same-table

    yard-a : (get_or (reply_of answer).counts 2 0 ≡ 1) × (get_or (reply_of answer).counts 256 0 ≡ 6)
    yard-a = two-and-none (reply_of answer) (rw is-yard at spread-there.1)

    -- by the two promises
    by-promises : (reply_of answer).answer ≡ Counted
    by-promises =
        let solved : SolverPost yard_a said a.1.0.now a.1.1.0.now left.1.0.now left.1.1.0.now = rw is-yard at (same (run.solver.tells κs a said left) learnt) in
        let post : CountPost yard_a left.1.0.now (reply_of answer) = rw (same-record, is-yard, same-table) at (same (run.counts.tells κs' b answer left') counted) in
        (run.whole.solved yard_a said a.1.0.now a.1.1.0.now left.1.0.now left.1.1.0.now yard_a-accepted (omega (arith, nine)) (omega (arith, nine)) solved (reply_of answer) post).0

-- and it is said
anybody-may-call : (κs : Lfts 1) (a : Dens κs counting.ps) → CountAsked κs a
anybody-may-call = asks_nothing counts-run
