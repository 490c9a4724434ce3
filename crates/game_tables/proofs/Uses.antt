-- The statements on tables at work in Yard A, and in Yard A with weights: from each, and from nothing else, a number or a placement is drawn, so that a
-- statement that were taken away, or that said nothing, would be missed. Answers, tables and settings are any of which the statement holds. Assumes nothing.
use mathlib.Core.Path.{◌≡◌, refl, sym, ◌∙◌}
use mathlib.Core.Logic.{◌⊎◌, inl, inr, ◌↔◌}
use mathlib.Core.Bool.{Bool, true, false}
use mathlib.Core.List.{List}
use mathlib.Core.Option.{Option, none, some}
use Prim.Native.Nat.{ℕ, zero, suc, ◌+◌, ◌≤◌, ◌<◌}
use native.Mathlib.Omega.{arith}
use lib.ListN.{length, get_or, replicate}
use lib.Dec.{leb}
use borrow.Author.Tests.{leb-true}
use Rattle.laws.specs.Below.{all_below, any_below, sum_below}
use Rattle.laws.proofs.Bools.{some-none, some_one}
use Rattle.laws.proofs.Below.{all-at}
use Rattle.railway.specs.Ends.{end_at}
use Rattle.railway.specs.Refusals.{first}
use Rattle.railway.specs.Record.{is_closed, joined_by, joined, has_signal, legs_of, train_of, weight_of, with_join, with_signal, with_legs, with_train}
use Rattle.railway.specs.Passing.{follow, passes, entered}
use Rattle.railway.specs.Rows.{weight_row, unknown_row, join_row, loose_row, longer, chain_row, place_row}
use Rattle.railway.specs.Yards.{yard_a}
use Rattle.game.specs.Game.{at, Turn, Strategy, Adversary, standing, positional, may, play, spent, home_at, HomeWithin, IsFigure}
use Rattle.game.specs.Claim.{Keeps, Alike}
use Rattle.game.specs.Placement.{code_of, sections_in, placements, stands_on, at_home, shared}
use Rattle.game.specs.Setting.{Setting, heads_for, held, may_move, free, signal_open}
use Rattle.game.specs.Moves.{occupied, move_of, game_of}
use Rattle.game.specs.ByTurns.{IsTurns, KeepsInTurns, AsBefore}
use Rattle.game.proofs.Accepted.{facts}
use Rattle.game.proofs.Figures.{figure-one}
use Rattle.game.proofs.ByTurns.{one-as-before}
use Rattle.game.proofs.Inhabited.{yard-ones}
use Rattle.game_tables.specs.SolverAnswer.{SolverAnswer}
use Rattle.game_tables.specs.Entries.{setting_at, entry_of}
use Rattle.game_tables.specs.Tables.{no_figure, figure_in, tables_short, case_refusal, Planned, Exact, Filled}
use Rattle.game_tables.specs.Solver.{number_given, SolverPost}
use Rattle.game_tables.specs.ByTurns.{FilledInTurns}
use Rattle.game_tables.specs.Find.{find}
use Rattle.game_tables.specs.Rounds.{Cleared, Stepped, up_to, RoundTables, Quiet, NoneDue, AllBelow, RoundsGo}
use Rattle.game_tables.proofs.Plays.{filled_apart, filled-solved}
use Rattle.game_tables.proofs.Unique.{entry-one, figs-one, sets-one}
use Rattle.game_tables.proofs.ByTurns.{tables-as-before}
use Rattle.game_tables.proofs.Rounds.{accepted-go}
use Rattle.game_tables.proofs.Entries.{entry-acts}
use Rattle.game_tables.proofs.KnownYards.{figs_a, sets_a, yard_a-accepted, yard_a-filled, known-figures}
use Rattle.game_tables.proofs.Examples.{weighed, figs_w, sets_w}
use Rattle.game_tables.proofs.WeighedYards.{weighed-accepted, weighed-filled}
use Rattle.game_tables.proofs.OneAdversary.{one-adversary-holds}

-- at (2, 3) no two trains share a section, and the plan's entry has the point at plus
apart : shared yard_a 7 ≡ false
unfolding with_join with_signal with_legs with_train
apart = filled_apart yard_a yard_a-accepted figs_a sets_a yard_a-filled 7 2 (omega arith) refl

planned : Planned yard_a (figure_in figs_a) 7 2 1
unfolding with_join with_signal with_legs with_train
planned = yard_a-filled.settings 7 (omega arith)

-- A SEARCH for the plan's entry finds that one at (2, 3), and no other
finds-one : (found : Option ℕ) → Exact yard_a (figure_in figs_a) 7 2 found → found ≡ some 1
finds-one found exact = (exact.finds 1).1 planned

finds-no-other : (found : Option ℕ) → Exact yard_a (figure_in figs_a) 7 2 found → (v : ℕ) → found ≡ some v → v ≡ 1
finds-no-other found exact v e = entry-one yard_a (facts yard_a yard_a-accepted) 7 apart (figure_in figs_a) (some 2) v 1 ((exact.finds v).0 e) planned

-- and nothing at (1, 3), where no setting keeps 9
finds-nothing : (found : Option ℕ) → Exact yard_a (figure_in figs_a) 6 9 found → found ≡ none
unfolding with_join with_signal with_legs with_train train_of sections_in stands_on at_home shared all_below any_below
finds-nothing found exact =
    exact.finds-nothing.1 (λ o k. let x = (filled-solved yard_a yard_a-accepted figs_a sets_a yard_a-filled).least 6 o 9 (omega arith) refl k in some-none x.1 refl)

none-keeps : (found : Option ℕ) → Exact yard_a (figure_in figs_a) 6 9 found → (o : Setting) → ¬ (Keeps (game_of yard_a) (figure_in figs_a) 6 o 9)
none-keeps found exact = exact.finds-nothing.0 (finds-nothing found exact)

-- ALL SETTINGS. Whatever else it says, a setting whose entry at (2, 3) has the point at plus and train 1 open lets train 1 go, and takes train 2 to
-- section 1.
entry-lets : (may (game_of yard_a) 7 (setting_at yard_a 7 65537) 0 ≡ true) × (may (game_of yard_a) 7 (setting_at yard_a 7 65537) 1 ≡ true) × (move_of yard_a 7 (setting_at yard_a 7 65537) 1 ≡ at 1)
unfolding setting_at may_move signal_open free held heads_for stands_on sections_in train_of has_signal with_join with_signal
    with_legs with_train move_of passes follow occupied code_of sum_below end_at joined_by joined any_below entered is_closed
entry-lets = (refl, refl, refl)

acts-so : (s : Setting) → entry_of yard_a 7 s ≡ 65537 → (may (game_of yard_a) 7 s 0 ≡ true) × (move_of yard_a 7 s 1 ≡ at 1)
acts-so s e =
    let like : Alike (game_of yard_a) 7 s (setting_at yard_a 7 65537) = rw e at (entry-acts yard_a yard_a-accepted 7 apart s) in
    (like.same-trains 0 ∙ entry-lets.0, like.same_ends 1 (like.same-trains 1 ∙ entry-lets.1) ∙ entry-lets.2)

-- ONE CHOICE for the case: under it no way comes home from (1, 3)
never-home : (w : Strategy Setting) (m : ℕ) → home_at (game_of yard_a) (play (game_of yard_a) w (positional (one-adversary-holds yard_a yard_a-accepted).named) 6 m) ≡ false
unfolding with_join with_signal with_legs with_train code_of sum_below
never-home w = (one-adversary-holds yard_a yard_a-accepted).beats w 6 (omega arith) known-figures.1.1.1.0.figure

-- A SOLVER that is lent a figure table of 8 entries refuses with 9, and leaves both tables
refuses : (a : SolverAnswer) (figs sets : List ℕ) → SolverPost yard_a a (replicate 8 5) (replicate 9 5) figs sets → (number_given a ≡ some 9) × (figs ≡ replicate 8 5) × (sets ≡ replicate 9 5)
unfolding case_refusal tables_short first weight_row weight_of unknown_row join_row loose_row chain_row longer place_row end_at
    joined_by joined has_signal legs_of train_of with_join with_signal with_legs with_train any_below is_closed
refuses a figs sets post = (post.numbered, post.leaves.0, post.leaves.1)

-- with tables of ten entries it leaves the last, and their length
keeps-last : (a : SolverAnswer) (figs sets : List ℕ) → SolverPost yard_a a (replicate 10 5) (replicate 10 6) figs sets
    → (length figs ≡ 10) × (get_or figs 9 0 ≡ 5) × (length sets ≡ 10) × (get_or sets 9 0 ≡ 6)
unfolding case_refusal tables_short first weight_row weight_of unknown_row join_row loose_row chain_row longer place_row end_at
    joined_by joined has_signal legs_of train_of with_join with_signal with_legs with_train any_below is_closed
keeps-last a figs sets post =
    let x = post.leaves.0 in
    (x.kept-figs.as_long, x.kept-figs.past 9 (omega arith), x.kept_sets.as_long, x.kept_sets.past 9 (omega arith))

-- ROUND BY ROUND, in Yard A with weights, 5 and 2, whose figures are 0 at (3, 1), 5 at (2, 1) and 7 at (2, 3), codes 2, 1 and 7.
nine : placements weighed ≡ 9
unfolding with_join with_signal with_legs with_train
nine = refl

figure-at : (p : ℕ) → p < 9 → IsFigure (game_of weighed) p (figure_in figs_w p)
figure-at p l = weighed-filled.figures p (omega (arith, nine))

-- a figure that any tables have behind a round is one of these
abbrev at_most : ℕ → Option ℕ → Bool
at_most n none = true
at_most n (some j) = leb j n

at-most : (n j : ℕ) (f : Option ℕ) → at_most n f ≡ true → f ≡ some j → j ≤ n
at-most n j none a e = some-none e refl
at-most n j (some i) a e = omega (arith, leb-true i n a, some_one e)

weights : (t : ℕ) → t < weighed.trains → (weight_of weighed t ≡ 5) ⊎ (weight_of weighed t ≡ 2)
unfolding weight_of train_of with_join with_signal with_legs with_train
weights zero l = inl refl
weights (suc zero) l = inr refl
weights (suc (suc t)) l = absurd (omega arith)

module _ (figs sets : List ℕ) where
  has-most : (n m : ℕ) → RoundTables weighed n figs sets → all_below (λ p. at_most m (up_to n (figure_in figs_w p))) 9 ≡ true
      → (p j : ℕ) → p < placements weighed → figure_in figs p ≡ some j → j ≤ m
  has-most n m t c p j l e =
      let k : p < 9 = omega (arith, nine) in
      at-most m j (up_to n (figure_in figs_w p)) (all-at (λ p. at_most m (up_to n (figure_in figs_w p))) 9 c p k) (sym (t.figures p l (figure_in figs_w p) (figure-at p k)) ∙ e)

  module _ (goes : RoundsGo weighed) where
    -- before the first round (2, 3) has no figure
    cleared-none : Cleared weighed figs sets → figure_in figs 7 ≡ none
    cleared-none c = (goes.cleared figs sets c).figures 7 (omega (arith, nine)) (some 7) (figure-at 7 (omega arith))

    -- round 5 brings (2, 1) its figure, by a move that makes 5 with what is behind it
    round-five : (figs' sets' : List ℕ) → RoundTables weighed 4 figs sets → Stepped weighed 5 figs sets figs' sets' → figure_in figs' 1 ≡ some 5
    round-five figs' sets' t s = (goes.next 4 figs sets figs' sets' t (omega arith) s).figures 1 (omega (arith, nine)) (some 5) (figure-at 1 (omega arith))

    gains-five : RoundTables weighed 4 figs sets → (v : ℕ) → find weighed (figure_in figs) 1 5 ≡ some v → (t j : ℕ) × (j + weight_of weighed t ≡ 5)
    unfolding shared at_home stands_on sections_in all_below any_below train_of with_join with_signal with_legs with_train
    gains-five t v e = let d = goes.gained 4 figs sets t 1 v (omega (arith, nine)) (t.figures 1 (omega (arith, nine)) (some 5) (figure-at 1 (omega arith))) refl e in (d.train, d.figure, d.makes)

    -- behind round 2 none is due before 5: the tables are those of round 4 too, and no figure is 3
    quiet-four : RoundTables weighed 2 figs sets → Quiet weighed figs 2 4
    unfolding all_below
    quiet-four t k d b =
        let z : d.figure ≤ 0 = has-most 2 0 t refl d.code d.figure d.there d.has in
        elim (weights d.train d.runs) [ inl w ↦ omega (arith, z, w, d.makes) | inr w ↦ omega (arith, z, w, d.makes) ]

    no-three : RoundTables weighed 2 figs sets → (p : ℕ) → p < 9 → ¬ (IsFigure (game_of weighed) p (some 3))
    no-three t p l i =
        let four : figure_in figs p ≡ some 3 = (goes.quiet 2 4 figs sets t (omega arith) (quiet-four t)).figures p (omega (arith, nine)) (some 3) i in
        some-none four (t.figures p (omega (arith, nine)) (some 3) i)

    -- behind round 12 none is due, for 7 and 5 make 12: every figure is below 13, and the tables are those wanted, with the point at plus at (2, 3)
    none-due : RoundTables weighed 12 figs sets → NoneDue weighed figs 12
    unfolding all_below
    none-due t k d =
        let z : d.figure ≤ 7 = has-most 12 7 t refl d.code d.figure d.there d.has in
        elim (weights d.train d.runs) [ inl w ↦ omega (arith, z, w, d.makes) | inr w ↦ omega (arith, z, w, d.makes) ]

    all_there : RoundTables weighed 12 figs sets → AllBelow weighed 13
    all_there t = goes.ended 12 figs sets t (none-due t)

    entry-one-there : RoundTables weighed 12 figs sets → AllBelow weighed 13 → get_or sets 7 0 ≡ 1
    entry-one-there t b = sets-one weighed weighed-accepted figs sets figs_w sets_w ((goes.filled 12 figs sets t).0 b) weighed-filled 7 (omega (arith, nine))

    -- no figure is over 2,295, and in no yard one over 1,353,646,080, which is less than the number for none
    none_over : (p j : ℕ) → p < 9 → IsFigure (game_of weighed) p (some j) → j ≤ 2295
    none_over p j l i = omega (arith, goes.most p j (omega (arith, nine)) i, nine)

    none-near : (p j : ℕ) → p < 9 → IsFigure (game_of weighed) p (some j) → (j ≤ 1353646080) × (1353646080 < 4294967295)
    none-near p j l i = (goes.small p j (omega (arith, nine)) i, goes.room)

    -- tables of round 6 are not those wanted yet, for the start has 7
    not_yet : RoundTables weighed 6 figs sets → ¬ (Filled weighed figs sets)
    not_yet t f = omega (arith, (goes.filled 6 figs sets t).1 f 7 7 (omega (arith, nine)) (figure-at 7 (omega arith)))

-- and so it goes
no-three-there : (figs sets : List ℕ) → RoundTables weighed 2 figs sets → (p : ℕ) → p < 9 → ¬ (IsFigure (game_of weighed) p (some 3))
no-three-there figs sets = no-three figs sets (accepted-go weighed weighed-accepted)

-- WITH ALL WEIGHTS 1, as Yard A has them, totals are turns. Whoever says so of its game says that three turns have cost 3; that a total of 2 is two turns, both ways;
-- that the figure in turns at (2, 3) is 2 and nothing else, and at (1, 3) none; that the plan's setting keeps it in turns, and none keeps one at (1, 3).
module _ (says : AsBefore (game_of yard_a)) where
  three-turns : (w : Strategy Setting) (c : Adversary Setting) (m : ℕ) (h : List (Turn Setting)) (q : ℕ) → play (game_of yard_a) w c 7 m ≡ standing h q → length h ≡ 3 → spent (game_of yard_a) h ≡ 3
  three-turns w c m h q e l = says.totals w c 7 m h q e ∙ l

  in-two-turns : (w : Strategy Setting) (c : Adversary Setting) → HomeWithin (game_of yard_a) w c 7 2 → (m : ℕ) × (m ≤ 2) × (home_at (game_of yard_a) (play (game_of yard_a) w c 7 m) ≡ true)
  in-two-turns w c h = (says.within w c 7 2).0 h

  in-a-total : (w : Strategy Setting) (c : Adversary Setting) → home_at (game_of yard_a) (play (game_of yard_a) w c 7 2) ≡ true → HomeWithin (game_of yard_a) w c 7 2
  in-a-total w c e = (says.within w c 7 2).1 (2, omega arith, e)

  figures-in-turns : IsTurns (game_of yard_a) 7 (some 2) × IsTurns (game_of yard_a) 6 none
  unfolding with_join with_signal with_legs with_train
  figures-in-turns = ((says.figures 7 (some 2)).0 (yard_a-filled.figures 7 (omega arith)), (says.figures 6 none).0 (yard_a-filled.figures 6 (omega arith)))

  no-other-in-turns : (f : Option ℕ) → IsTurns (game_of yard_a) 7 f → f ≡ some 2
  unfolding with_join with_signal with_legs with_train
  no-other-in-turns f i = figure-one (game_of yard_a) 7 f (some 2) ((says.figures 7 f).1 i) (yard_a-filled.figures 7 (omega arith))

  keeps-in-turns : KeepsInTurns (game_of yard_a) (figure_in figs_a) 7 (setting_at yard_a 7 1) 2
  keeps-in-turns = (says.keeps (figure_in figs_a) 7 (setting_at yard_a 7 1) 2).0 planned.0.keeps

  none-in-turns : (o : Setting) → ¬ (KeepsInTurns (game_of yard_a) (figure_in figs_a) 6 o 9)
  unfolding with_join with_signal with_legs with_train train_of sections_in stands_on at_home shared all_below any_below
  none-in-turns o k =
      let x = (filled-solved yard_a yard_a-accepted figs_a sets_a yard_a-filled).least 6 o 9 (omega arith) refl ((says.keeps (figure_in figs_a) 6 o 9).1 k) in
      some-none x.1 refl

-- and so does the theorem: in two turns, and not in one, can home be forced from (2, 3)
two-turns : IsTurns (game_of yard_a) 7 (some 2)
two-turns = (figures-in-turns (one-as-before Setting (game_of yard_a) yard-ones)).0

-- THE TABLES with figures in turns are those of Yard A, and any such have 2 and the point at plus at (2, 3)
module _ (same : (figs sets : List ℕ) → Filled yard_a figs sets ↔ FilledInTurns yard_a figs sets) where
  filled-in-turns : FilledInTurns yard_a figs_a sets_a
  filled-in-turns = (same figs_a sets_a).0 yard_a-filled

  entries-in-turns : (figs sets : List ℕ) → FilledInTurns yard_a figs sets → (get_or figs 7 no_figure ≡ 2) × (get_or sets 7 0 ≡ 1)
  unfolding with_join with_signal with_legs with_train
  entries-in-turns figs sets f = (
    figs-one yard_a yard_a-accepted figs sets figs_a sets_a ((same figs sets).1 f) yard_a-filled 7 (omega arith),
    sets-one yard_a yard_a-accepted figs sets figs_a sets_a ((same figs sets).1 f) yard_a-filled 7 (omega arith),
  )

as-before-there : FilledInTurns yard_a figs_a sets_a
as-before-there = filled-in-turns (tables-as-before yard_a yard-ones)
