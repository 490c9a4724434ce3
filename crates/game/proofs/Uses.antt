-- The claims about whole plays at work: what each of them alone says of figures F and settings f in the smallest game of Inhabited, and
-- what settings that agree have in common in Yard A. A claim that were taken away, or that said nothing, would be missed here. Assumes nothing.
use mathlib.Core.Path.{◌≡◌, refl, sym, ◌∙◌}
use mathlib.Core.Logic.{inl, inr}
use mathlib.Core.Bool.{Bool, true, false}
use mathlib.Core.List.{List, []}
use mathlib.Core.Option.{Option, none, some}
use Prim.Native.Nat.{ℕ, zero, suc, ◌+◌, ◌≤◌}
use native.Mathlib.Omega.{arith}
use lib.Dec.{ltb}
use lib.ListN.{get_or-replicate}
use borrow.Author.Tests.{ltb-true}
use Rattle.laws.specs.Below.{all_below, any_below, sum_below, lowest}
use Rattle.laws.proofs.Bools.{bool?, clash}
use Rattle.railway.specs.Bounds.{most_sections}
use Rattle.railway.specs.Ends.{end_at}
use Rattle.railway.specs.Record.{is_closed, with_closed, joined_by, joined, has_signal, train_of, with_join, with_signal, with_legs, with_train}
use Rattle.railway.specs.Passing.{follow, passes, entered}
use Rattle.railway.specs.Rows.{record_refusal}
use Rattle.railway.specs.Yards.{yard_a}
use Rattle.game.specs.Game.{derailment, lost, at, Strategy, Adversary, following, positional, Turn, standing, may, grown, play, home_at, spent_at, HomeWithin, ComesHome}
use Rattle.game.specs.Claim.{Keeps, Whole}
use Rattle.game.specs.Placement.{code_of, sections_in, stands_on}
use Rattle.game.specs.Setting.{Setting, SameSetting, heads_for, held, may_move, free, signal_open}
use Rattle.game.specs.Moves.{occupied, move_of, game_of, ClosedSections}
use Rattle.game.specs.Local.{keeps_test}
use Rattle.game.proofs.Figures.{figure-one, ended}
use Rattle.game.proofs.Settle.{table, settle}
use Rattle.game.proofs.Setting.{agreeing-alike}
use Rattle.game.proofs.Moves.{closed-lose}
use Rattle.game.proofs.Examples.{shut_line}
use Rattle.game.proofs.Inhabited.{small, small-whole, everywhere}

module _ (F : ℕ → Option ℕ) (f : ℕ → Bool) (claims : Whole small F f) where
  -- the figures: home has 0, the placement on the way the weight of the train, the lost one none
  has-figures : (F 0 ≡ some 0) × (F 1 ≡ some 3) × (F 2 ≡ none)
  unfolding table settle keeps_test any_below all_below lowest
  has-figures = (
    figure-one small 0 (F 0) (some 0) (claims.figures 0 (omega arith)) (small-whole.figures 0 (omega arith)),
    figure-one small 1 (F 1) (some 3) (claims.figures 1 (omega arith)) (small-whole.figures 1 (omega arith)),
    figure-one small 2 (F 2) none (claims.figures 2 (omega arith)) (small-whole.figures 2 (omega arith)),
  )

  -- who follows f comes home, so f lets the train move; and has then spent 3 at most
  lets-move : f 1 ≡ true
  unfolding play lowest
  lets-move = let h = claims.follow 1 3 (omega arith) has-figures.1 (λ h p s. 0) in elim (bool? (f 1)) [
    | inl e ↦ e
    | inr e ↦ clash h.2 (let z = (stands e h.0).1 in rw z refl)
  ]
    where
      stands : f 1 ≡ false → (m : ℕ) → (h : List (Turn Bool)) × (play small (following f) (λ h p s. 0) 1 m ≡ standing h 1)
      stands e zero = ([], refl)
      stands e (suc m) = let r = stands e m in (grown small r.0 1 false none, rw (r.1, e) refl)

  in-time : (c : Adversary Bool) → (m : ℕ) × (spent_at small (play small (following f) c 1 m) ≤ 3) × (home_at small (play small (following f) c 1 m) ≡ true)
  in-time c = claims.follow 1 3 (omega arith) has-figures.1 c

  -- no way is home within a total of 2
  not-at-once : (w : Strategy Bool) → (c : Adversary Bool) × ¬ (HomeWithin small w c 1 2)
  not-at-once w = let x = claims.not-sooner w 1 3 (omega arith) has-figures.1 in (x.0, x.1 2 (omega arith))

  -- what decides the figure is the weight of the move: behind it is home, with 0
  decided : (s : Bool) → Keeps small F 1 s 3 → (figure : ℕ) × (figure + 3 ≡ 3)
  decided s k = let d = claims.decided 1 3 s (omega arith) refl has-figures.1 k in (d.figure, d.makes)

  -- no figure where the trains are lost, for no way comes home from there; and no way comes home where there is no figure
  lost-none : F 2 ≡ none
  lost-none = (claims.none-exactly 2 (omega arith)).1 (λ w home. clash (home (λ h p s. 0)).1 (stays w (home (λ h p s. 0)).0))
    where
      stays : (w : Strategy Bool) (m : ℕ) → home_at small (play small w (λ h p s. 0) 2 m) ≡ false
      stays w m = let e = ended small w (λ h p s. 0) 2 refl m in rw e

  none-home : (w : Strategy Bool) → ¬ ((c : Adversary Bool) → ComesHome small w c 2)
  none-home w = (claims.none-exactly 2 (omega arith)).0 lost-none w

  -- the one choice names the only train, also where it may not move, and one that may; under it no way comes home where there is no figure
  names-there : claims.one-adversary.named 1 false ≡ 0
  names-there = omega (arith, claims.one-adversary.there 1 false (omega arith))

  names-mover : may small 1 true (claims.one-adversary.named 1 true) ≡ true
  names-mover = claims.one-adversary.moves 1 true 0 refl

  never-home : (w : Strategy Bool) (m : ℕ) → home_at small (play small w (positional claims.one-adversary.named) 2 m) ≡ false
  never-home w = claims.one-adversary.beats w 2 (omega arith) lost-none

-- SETTINGS THAT AGREE. Whatever else it says, a setting that has Yard A's point at plus and its signals open lets train 1 go at (2, 3), and from (1, 2)
-- takes it to (3, 2).
agreed : record_refusal yard_a ≡ none → (s : Setting) → SameSetting yard_a everywhere s → (may (game_of yard_a) 7 s 0 ≡ true) × (move_of yard_a 3 s 0 ≡ at 5)
unfolding may_move signal_open free held heads_for stands_on sections_in train_of has_signal with_join with_signal with_legs
    with_train move_of passes follow occupied code_of sum_below end_at joined_by joined any_below entered is_closed
agreed accepted s same =
    (sym ((agreeing-alike yard_a accepted everywhere s same 7).same-trains 0) ∙ lets.0, sym ((agreeing-alike yard_a accepted everywhere s same 3).same_ends 0 lets.1) ∙ lets.2)
  where
    lets : (may (game_of yard_a) 7 everywhere 0 ≡ true) × (may (game_of yard_a) 3 everywhere 0 ≡ true) × (move_of yard_a 3 everywhere 0 ≡ at 5)
    lets = (refl, refl, refl)

none-shut : (x : ℕ) → is_closed yard_a x ≡ false
unfolding is_closed with_join with_signal with_legs with_train
none-shut x = elim (bool? (ltb x most_sections)) [ inl e ↦ rw (e, get_or-replicate most_sections x false false (ltb-true x most_sections e)) refl | inr e ↦ rw e refl ]

-- CLOSED SECTIONS. Whatever says so of the line whose middle section is closed: from 1 train 1 is lost there, and from there it goes on to 3; and in
-- Yard A, where none is closed, train 2 comes from (2, 3) to (2, 1), and train 1 derails on the point, which does not lie for it.
module _ (says : ClosedSections shut_line) (no-shut : ClosedSections yard_a) where
  loses : move_of shut_line 6 everywhere 0 ≡ lost derailment
  unfolding passes follow heads_for stands_on sections_in train_of end_at joined_by joined with_join with_signal with_closed with_legs with_train is_closed
  loses = says.entering 6 everywhere 0 1 refl refl

  leaves : move_of shut_line 1 everywhere 0 ≡ at 2
  unfolding passes follow heads_for stands_on sections_in train_of end_at joined_by joined with_join with_signal with_closed with_legs with_train is_closed occupied any_below code_of sum_below
  leaves = says.other 1 everywhere 0 2 refl refl

  as_before : move_of yard_a 7 everywhere 1 ≡ at 1
  unfolding passes follow heads_for stands_on sections_in train_of end_at joined_by joined with_join with_signal with_legs with_train occupied any_below code_of sum_below
  as_before = no-shut.none-closed none-shut 7 everywhere 1

  derails-as-before : move_of yard_a 7 everywhere 0 ≡ lost derailment
  unfolding passes follow heads_for stands_on sections_in train_of end_at joined_by joined with_join with_signal with_legs with_train
  derails-as-before = no-shut.none-closed none-shut 7 everywhere 0

-- and so it is
lost-there : move_of shut_line 6 everywhere 0 ≡ lost derailment
lost-there = loses (closed-lose shut_line) (closed-lose yard_a)
