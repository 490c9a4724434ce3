-- From a change on, at work in Yard A with section 2 closed: of any desk of any old case that has gone over to it, with Yard A's tables or with any that a solver filled, no more than two
-- reports count from (2, 3) on; a change from there is made, one from (1, 3) is refused with 15, and to a case with train 1 about neither is so. Assumes nothing.
use mathlib.Core.Path.{◌≡◌, refl, sym, ◌∙◌, ap}
use mathlib.Core.List.{List}
use mathlib.Core.Option.{none, some}
use Prim.Native.Nat.{ℕ, ◌≤◌}
use native.Mathlib.Omega.{arith}
use lib.ListN.{length}
use Rattle.laws.specs.Below.{sum_below, list_below}
use Rattle.laws.proofs.Bools.{some-none, some_one}
use Rattle.railway.specs.declared.Railway.{Railway}
use Rattle.railway.specs.declared.Refusal.TheVariants.{Stranded}
use Rattle.railway.specs.Bounds.{most_trains}
use Rattle.railway.specs.Record.{with_join, with_signal, with_closed, with_legs, with_train}
use Rattle.case_file.specs.Given.{AcceptedWith}
use Rattle.game.specs.Game.{IsFigure}
use Rattle.game.specs.Placement.{code_of, placements}
use Rattle.game.specs.Moves.{game_of}
use Rattle.game.proofs.Figures.{figure-one}
use Rattle.game_tables.specs.SolverAnswer.{SolverAnswer}
use Rattle.game_tables.specs.Tables.{figure_in, Filled}
use Rattle.game_tables.specs.Solver.{SolverPost}
use Rattle.game_tables.proofs.Examples.{weighed}
use Rattle.game_tables.proofs.Certify.{certify}
use Rattle.game_tables.proofs.KnownYards.{figs_a, sets_a}
use Rattle.game_tables.proofs.WeighedYards.{weighed-accepted}
use Rattle.desk.specs.ChangeAnswer.{Changed, Refused}
use Rattle.desk.specs.Desk.{Desk, desk_code}
use Rattle.desk.specs.Change.{Changing, number_changed, ChangePost, working_on, beginning_with, Works, ChangeSolved, ChangeHolds}
use Rattle.desk.proofs.Examples.{on}
use Rattle.desk.proofs.ChangeExamples.{shut, about}
use Rattle.desk.proofs.ChangeUses.{yards, shut-follows}
use Rattle.desk.proofs.ChangeNumberUses.{same_shape, other-shape}

-- Yard A's tables are those of the closed case: figure 2 at code 7, none at 6
shut-filled : Filled shut figs_a sets_a
shut-filled = certify shut yards.shut-accepted figs_a sets_a yards.shut-passes

-- the codes of (2, 3) and (1, 3), with nine placements
codes : (desk_code shut (on 2 3) ≡ 7) × (desk_code shut (on 1 3) ≡ 6) × (placements shut ≡ 9) × (placements about ≡ 9)
unfolding code_of list_below sum_below with_join with_signal with_closed with_legs with_train
codes = (refl, refl, refl, refl)

two-there : IsFigure (game_of shut) (desk_code shut (on 2 3)) (some 2)
two-there = rw codes.0 (shut-filled.figures 7 (omega (arith, codes.2)))

none-there : IsFigure (game_of shut) (desk_code shut (on 1 3)) none
none-there = rw codes.1 (shut-filled.figures 6 (omega (arith, codes.2)))

module _ (says : ChangeHolds) (text : List ℕ) where
  -- FROM A CHANGE ON, whatever the old case and its tables were: no more than two reports count from (2, 3), however many others and whatever changes are refused among them
  two-count : (r : Railway) (d b e : Desk) (y : Changing) (ts : List ℕ) → AcceptedWith text shut → length d.at.sections ≡ most_trains → ChangePost r text d figs_a sets_a y → y.answer ≡ Changed
      → desk_code shut b ≡ 7 → Works (beginning_with shut figs_a sets_a y.desk) (working_on shut figs_a sets_a b ts e) → length ts ≤ 2
  two-count r d b e y ts a sized post made c calls =
      let w = says.from-change r shut text d figs_a sets_a y a shut-follows sized post made (working_on shut figs_a sets_a b ts e) calls in
      let k : w.figure ≡ 2 = some_one (sym w.has ∙ ap (figure_in figs_a) c) in
      omega (arith, k, w.after.at-most)

  -- WITH A SOLVER'S TABLES
  module _ (s : Railway) (a : SolverAnswer) (figs sets figs₁ sets₁ : List ℕ) (post : SolverPost s a figs sets figs₁ sets₁) (lf : 9 ≤ length figs) (ls : 9 ≤ length sets) where
    -- of the closed case
    module _ (is : s ≡ shut) (read : AcceptedWith text shut) where
      at-desk : (d : Desk) → length d.at.sections ≡ most_trains → ChangeSolved weighed d text shut figs₁ sets₁
      at-desk d sized = says.solved shut a figs sets figs₁ sets₁ (omega (arith, lf, codes.2)) (omega (arith, ls, codes.2)) (rw is at post) weighed d sized text read

      module _ (y : Changing) (change : ChangePost weighed text (on 2 3) figs₁ sets₁ y) where
        is_made : y.answer ≡ Changed
        is_made = ((at-desk (on 2 3) refl).made-exactly weighed-accepted yards.sound y change).1 (same_shape, (2, two-there))

        not-stranded : y.answer ≡ Refused Stranded → ⊥
        not-stranded e =
            some-none refl (figure-one (game_of shut) (desk_code shut (on 2 3)) (some 2) none two-there (((at-desk (on 2 3) refl).stranded-exactly weighed-accepted yards.sound y change).0 e).1)

        home-in-two : (ts : List ℕ) (e : Desk) → Works (beginning_with shut figs₁ sets₁ y.desk) (working_on shut figs₁ sets₁ y.desk ts e) → length ts ≤ 2
        home-in-two ts e calls = ((at-desk (on 2 3) refl).home y change is_made 2 two-there ts e calls).at-most

      module _ (y : Changing) (change : ChangePost weighed text (on 1 3) figs₁ sets₁ y) where
        fifteen : number_changed y.answer ≡ some 15
        fifteen = ap number_changed (((at-desk (on 1 3) refl).stranded-exactly weighed-accepted yards.sound-elsewhere y change).1 (same_shape, none-there))

        not_made : y.answer ≡ Changed → ⊥
        not_made e =
            let m = ((at-desk (on 1 3) refl).made-exactly weighed-accepted yards.sound-elsewhere y change).0 e in
            some-none (figure-one (game_of shut) (desk_code shut (on 1 3)) none (some m.1.0) none-there m.1.1) refl

    -- and of one with train 1 about: neither made nor stranded
    module _ (is : s ≡ about) (read : AcceptedWith text about) (y : Changing) (change : ChangePost weighed text (on 2 3) figs₁ sets₁ y) where
      turned : ChangeSolved weighed (on 2 3) text about figs₁ sets₁
      turned = says.solved about a figs sets figs₁ sets₁ (omega (arith, lf, codes.3)) (omega (arith, ls, codes.3)) (rw is at post) weighed (on 2 3) refl text read

      neither-made : y.answer ≡ Changed → ⊥
      neither-made e = other-shape ((turned.made-exactly weighed-accepted yards.sound y change).0 e).0

      nor-stranded : y.answer ≡ Refused Stranded → ⊥
      nor-stranded e = other-shape ((turned.stranded-exactly weighed-accepted yards.sound y change).0 e).0
