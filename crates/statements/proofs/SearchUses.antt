-- The statement on searches that run at work, in Yard A with weights 5 and 2: of any opening, any call for a round behind it and any look-up behind that something is drawn from what
-- the calls tell. Assumes nothing.
use mathlib.Core.Path.{◌≡◌, refl, ◌∙◌}
use mathlib.Core.Bool.{true, false}
use mathlib.Core.List.{[], ◌∷◌}
use mathlib.Core.Option.{some}
use Prim.Native.Nat.{◌≤◌}
use native.Mathlib.Omega.{arith}
use lib.ListN.{length, get_or}
use denote.Triple.Clauses.{AtExit}
use contract.Lifetimes.{Lfts}
use borrow.Fn.Kinds.{Dens, res_t, ended_of}
use Rattle.laws.specs.Below.{any_below, sum_below, list_below}
use Rattle.railway.specs.Record.{with_join, with_signal, with_legs, with_train}
use Rattle.game.specs.Game.{IsFigure}
use Rattle.game.specs.Placement.{code_of, code_on, names_none, placements}
use Rattle.game.specs.Moves.{game_of}
use Rattle.game_tables.specs.Tables.{no_figure}
use Rattle.game_tables.specs.Solver.{SolverPost}
use Rattle.game_tables.proofs.Examples.{weighed}
use Rattle.game_tables.proofs.WeighedYards.{weighed-accepted, weighed-filled}
use Rattle.game_placement.specs.declared.Placement.{Placement}
use Rattle.game_placement.specs.ByValue.{section_in}
use Rattle.search.specs.Shown.{NotYet}
use Rattle.search.specs.Searching.{State, OpenPost, SearchPost, LookPost, Searching, begun, call, SearchAt}
use Rattle.search_calls.specs.Steps.{searching, opening_answer, opening_search}
use Rattle.solver.proofs.solve.Kinds as solve
use Rattle.solver.proofs.solve.Reads.{Learnt as SolveLearnt}
use Rattle.search_calls.proofs.open.Kinds as opening
use Rattle.search_calls.proofs.open.Reads.{Asked as OpenAsked, Learnt as OpenLearnt}
use Rattle.search_calls.proofs.open.Statement.{statement as OpenMeets}
use Rattle.search_calls.proofs.round.Kinds as round
use Rattle.search_calls.proofs.round.Reads.{Asked as RoundAsked, Learnt as RoundLearnt}
use Rattle.search_calls.proofs.round.Statement.{statement as RoundMeets}
use Rattle.search_calls.proofs.look_up.Kinds as looking
use Rattle.search_calls.proofs.look_up.Reads.{Asked as LookAsked, Learnt as LookLearnt}
use Rattle.search_calls.proofs.look_up.Statement.{statement as LookMeets}
use Rattle.statements.proofs.Searches.{searches-run}

same : {A B : Type 0} → A ≡ B → A → B
same e x = rw e at x

-- they ask nothing, and are met
asks_nothing : ((κs : Lfts 3) (a : Dens κs opening.ps) → OpenAsked κs a) × ((κs : Lfts 4) (a : Dens κs round.ps) → RoundAsked κs a) × ((κs : Lfts 2) (a : Dens κs looking.ps) → LookAsked κs a)
asks_nothing = (searches-run.opens.asks, searches-run.rounds.asks, searches-run.looks.asks)

all-met : {M : Type 1} → OpenMeets M × RoundMeets M × LookMeets M
all-met = (searches-run.opens.meets, searches-run.rounds.meets, searches-run.looks.meets)

nine : placements weighed ≡ 9
unfolding with_join with_signal with_legs with_train
nine = refl

-- train 1 on section 2, train 2 on section 1: code 1, of figure 5
abbrev p21 : Placement
p21 = record { sections = 1 ∷ 0 ∷ 0 ∷ 0 ∷ [] }

named : (names_none weighed (section_in p21) ≡ false) × (code_on weighed (section_in p21) ≡ 1)
unfolding names_none any_below code_of sum_below list_below with_join with_signal with_legs with_train
named = (refl, refl)

module _ (κs : Lfts 3) (a : Dens κs opening.ps) (answer : (res_t opening.r κs).Denot)
    (left : AtExit (ended_of 3 opening.ps opening.r) κs) (yard : a.0 ≡ weighed) (lf : 9 ≤ length a.1.0.now)
    (ls : 9 ≤ length a.1.1.0.now)
    (learnt : OpenLearnt κs a answer left) where
  abbrev at_first : State
  at_first = searching (opening_search answer) left.1.0.now left.1.1.0.now left.1.1.1.0.now

  opened : OpenPost weighed a.1.0.now a.1.1.0.now a.1.1.1.0.now (opening_answer answer) at_first
  opened = rw yard at (same (searches-run.opens.tells κs a answer left) learnt)

  -- an opening has finished no round
  none-finished : (opening_search answer).rounds ≡ 0
  none-finished =
      let x : SearchAt weighed a.1.0.now a.1.1.0.now 0 at_first =
      searches-run.whole weighed weighed-accepted a.1.0.now a.1.1.0.now (omega (arith, nine))
      (omega (arith, nine)) a.1.1.1.0.now (opening_answer answer) at_first opened 0 at_first begun in
      omega (arith, x.rounds)

  module _ (κs' : Lfts 4) (b : Dens κs' round.ps) (next : (res_t round.r κs').Denot) (left' : AtExit (ended_of 4 round.ps round.r) κs') (handed : b.0.now ≡ opening_search answer) (yard' : b.1.0 ≡ weighed)
      (figs : b.1.1.0.now ≡ left.1.0.now) (sets : b.1.1.1.0.now ≡ left.1.1.0.now)
      (marks : b.1.1.1.1.0.now ≡ left.1.1.1.0.now) (learnt' : RoundLearnt κs' b next left') where
    abbrev at_next : State
    at_next = searching left'.0.now left'.1.1.0.now left'.1.1.1.0.now left'.1.1.1.1.0.now

    rounded : SearchPost weighed at_first next at_next
    rounded = rw (handed, yard', figs, sets, marks) at (same (searches-run.rounds.tells κs' b next left') learnt')

    after_one : SearchAt weighed a.1.0.now a.1.1.0.now 1 at_next
    after_one =
        searches-run.whole weighed weighed-accepted a.1.0.now a.1.1.0.now
        (omega (arith, nine)) (omega (arith, nine)) a.1.1.1.0.now (opening_answer answer) at_first opened 1 at_next
        (call next begun rounded)

    -- behind one round more (2, 1) has not come yet, as a look-up answers
    not_yet : (κs'' : Lfts 2) (c : Dens κs'' looking.ps) (shown : (res_t looking.r κs'').Denot) (left'' : AtExit (ended_of 2 looking.ps looking.r) κs'') → c.0 ≡ left'.0.now → c.1.0 ≡ weighed
        → c.1.1.0.now ≡ left'.1.1.0.now → c.1.1.1.0.now ≡ left'.1.1.1.0.now → c.1.1.1.1.0 ≡ p21 → LookLearnt κs'' c shown left'' → shown ≡ NotYet
    not_yet κs'' c shown left'' handed'' yard'' figs'' sets'' place learnt'' =
        let x : LookPost weighed (section_in p21) left'.0.now left'.1.1.0.now left'.1.1.1.0.now shown =
        rw (handed'', yard'', figs'', sets'', place) at (same (searches-run.looks.tells κs'' c shown left'') learnt'') in
        let i : IsFigure (game_of weighed) (code_on weighed (section_in p21)) (some 5) = rw named.1 (weighed-filled.figures 1 (omega (arith, nine))) in
        x.answers ∙ after_one.not_yet (section_in p21) named.0 5 i (omega (arith, after_one.rounds))

  -- once it has ended the start's entry is that of any run of the solver
  as-solved : (u : State) → Searching weighed at_first 8 u → (κs' : Lfts 2) (b : Dens κs' solve.ps) (said : (res_t solve.r κs').Denot) (left' : AtExit (ended_of 2 solve.ps solve.r) κs') → b.0 ≡ weighed
      → 9 ≤ length b.1.0.now → 9 ≤ length b.1.1.0.now → SolveLearnt κs' b said left' → (u.search.ended ≡ true) → get_or u.figs 7 no_figure ≡ get_or left'.1.0.now 7 no_figure
  as-solved u calls κs' b said left' yard' lf' ls' learnt' ended =
      let x : SearchAt weighed a.1.0.now a.1.1.0.now 8 u =
      searches-run.whole weighed weighed-accepted a.1.0.now a.1.1.0.now (omega (arith, nine)) (omega (arith, nine)) a.1.1.1.0.now (opening_answer answer) at_first opened 8 u calls in
      let p : SolverPost weighed said b.1.0.now b.1.1.0.now left'.1.0.now left'.1.1.0.now = rw yard' at (same (searches-run.solver.tells κs' b said left') learnt') in
      (x.as-solved ended said b.1.0.now b.1.1.0.now left'.1.0.now left'.1.1.0.now (omega (arith, nine)) (omega (arith, nine)) p 7 (omega (arith, nine))).0
