-- The test of a plan by the tests that code makes, one law for each return. Assumes nothing.
use mathlib.Core.Path.{◌≡◌, refl, sym, ◌∙◌, ap}
use mathlib.Core.Logic.{inl, inr}
use mathlib.Core.Bool.{Bool, true, false, cond}
use mathlib.Core.List.{List}
use mathlib.Core.Option.{none, some}
use Prim.Native.Nat.{ℕ, ◌<◌}
use lib.Dec.{eqb}
use lib.ListN.{get_or}
use borrow.Author.Tests.{eq-eqb, ne_eqb}
use Rattle.laws.specs.Below.{all_below, any_below}
use Rattle.laws.proofs.Bools.{bool?, some-none, some_one}
use Rattle.laws.proofs.Below.{any-one, all_but}
use Rattle.railway.specs.declared.Railway.{Railway}
use Rattle.railway.specs.Record.{weight_of}
use Rattle.game.specs.Game.{derailment, collision, Outcome, lost, at, may}
use Rattle.game.specs.Claim.{figure_of}
use Rattle.game.specs.Local.{is_within, goes_within, keeps_test}
use Rattle.game.specs.Placement.{placements, start_code, at_home, shared}
use Rattle.game.specs.Setting.{held}
use Rattle.game.specs.Moves.{move_of, game_of}
use Rattle.game_tables.specs.Entries.{opens_in, setting_at}
use Rattle.game_tables.specs.Tables.{no_figure, figure_entry, figure_in}
use Rattle.plan.specs.Test.{by_tables, listed_setting}
use Rattle.plan.specs.Computed.{train_signalled, listed_passes, passes_if, placement_passes, test_holds}
use Rattle.game_moves.specs.Move.{Move, NotAllowed, Derails, Collides, At}
use Rattle.game_moves.specs.Answers.{ended, move_under}
use Rattle.plan_judge.specs.Steps.{signalled_in}

-- LOOPS over n trains or placements, k being the count of them that code has
pub within : {n k : ℕ} → k ≡ n → (i : ℕ) → i < k → i < n
within e i l = rw (← e) l

module _ {n k : ℕ} (e : k ≡ n) (f : ℕ → Bool) (i : ℕ) where
  pub one-of : i < k → f i ≡ true → true ≡ any_below f n
  one-of l h = any-one f n i (rw (← e) l) h

  pub but-one : i < k → f i ≡ false → false ≡ all_below f n
  but-one l h = all_but f n i (rw (← e) l) h

-- ONE TRAIN: open without a signal
module _ (r : Railway) (p v t : ℕ) (o : Bool) (is : o ≡ opens_in v t) where
  pub open-signalled : (h : Bool) → o ≡ true → h ≡ held r p t → h ≡ signalled_in r p v t
  open-signalled h y e = rw (sym is ∙ y) e

  pub closed-signalled : o ≡ false → true ≡ signalled_in r p v t
  closed-signalled y = rw (sym is ∙ y)

-- ONE TRAIN: where its move ends, if it may move
module _ (r : Railway) (figs : List ℕ) (p v n t : ℕ) (o : Move) (is : ended o ≡ move_under r p v t) where
  pub stays_within : o ≡ NotAllowed → true ≡ goes_within (game_of r) (figure_in figs) p (setting_at r p v) n t
  unfolding move_under
  stays_within e = elim (bool? (may (game_of r) p (setting_at r p v) t)) [
    | inl y ↦ let z : move_under r p v t ≡ some (move_of r p (setting_at r p v) t) = rw y in some-none (is ∙ z) (ap ended e)
    | inr y ↦ rw y
  ]

  -- it ends in an outcome, whose figure decides
  moves-within : (x : Outcome) → ended o ≡ some x → (b : Bool) → b ≡ is_within n (weight_of r t) (figure_of (figure_in figs) x)
      → b ≡ goes_within (game_of r) (figure_in figs) p (setting_at r p v) n t
  unfolding move_under
  moves-within x e b h = elim (bool? (may (game_of r) p (setting_at r p v) t)) [
    | inl y ↦ let z : move_under r p v t ≡ some (move_of r p (setting_at r p v) t) = rw y in
        let q : x ≡ move_of r p (setting_at r p v) t = some_one (sym e ∙ is ∙ z) in rw (y, ← q) h
    | inr y ↦ let z : move_under r p v t ≡ none = rw y in some-none e (is ∙ z)
  ]

  pub derailed-within : o ≡ Derails → false ≡ goes_within (game_of r) (figure_in figs) p (setting_at r p v) n t
  derailed-within e = moves-within (lost derailment) (ap ended e) false refl

  pub collided-within : o ≡ Collides → false ≡ goes_within (game_of r) (figure_in figs) p (setting_at r p v) n t
  collided-within e = moves-within (lost collision) (ap ended e) false refl

  pub at-within : (q f : ℕ) → o ≡ At q → f ≡ get_or figs q no_figure → (w : ℕ) → w ≡ weight_of r t → (b : Bool) → b ≡ is_within n w (figure_entry f)
      → b ≡ goes_within (game_of r) (figure_in figs) p (setting_at r p v) n t
  at-within q f e listed w weighs b h = moves-within (at q) (ap ended e) b (rw (← weighs, ← listed) h)

-- A SETTING THAT KEEPS the figure
module _ (r : Railway) (figs : List ℕ) (p v n : ℕ) (s : Bool) (is : s ≡ any_below (may (game_of r) p (setting_at r p v)) r.trains) where
  pub none-keeps : s ≡ false → false ≡ keeps_test (game_of r) (figure_in figs) p (setting_at r p v) n
  unfolding keeps_test
  none-keeps y = rw (sym is ∙ y)

  pub some-keeps : (b : Bool) → s ≡ true → b ≡ all_below (goes_within (game_of r) (figure_in figs) p (setting_at r p v) n) r.trains
      → b ≡ keeps_test (game_of r) (figure_in figs) p (setting_at r p v) n
  unfolding keeps_test
  some-keeps b y e = rw (sym is ∙ y) e

-- A LISTED PLACEMENT
module _ (r : Railway) (figs sets : List ℕ) (p n : ℕ) (lost : Bool) (is-lost : lost ≡ shared r p) where
  pub lost-fails : lost ≡ true → false ≡ listed_passes r (by_tables figs sets) p n
  lost-fails y = rw (sym is-lost ∙ y)

  module _ (apart : lost ≡ false) (v : ℕ) (is-v : v ≡ get_or sets p 0) (o : Bool) (is-o : o ≡ all_below (signalled_in r p v) r.trains) where
    opens : o ≡ all_below (train_signalled r (by_tables figs sets) p) r.trains
    opens = rw is-v at is-o

    pub unsignalled-fails : o ≡ false → false ≡ listed_passes r (by_tables figs sets) p n
    unsignalled-fails y = rw (sym is-lost ∙ apart, sym opens ∙ y)

    module _ (signalled : o ≡ true) (h : Bool) (is-h : h ≡ at_home r p) where
      pub home-passes : h ≡ true → true ≡ listed_passes r (by_tables figs sets) p n
      home-passes y = rw (sym is-lost ∙ apart, sym opens ∙ signalled, sym is-h ∙ y)

      pub kept-passes : (b : Bool) → h ≡ false → b ≡ keeps_test (game_of r) (figure_in figs) p (setting_at r p v) n → b ≡ listed_passes r (by_tables figs sets) p n
      unfolding listed_setting setting_at
      kept-passes b y e = rw (sym is-lost ∙ apart, sym opens ∙ signalled, sym is-h ∙ y) (rw is-v at e)

-- A PLACEMENT
module _ (r : Railway) (figs sets : List ℕ) (p n : ℕ) (is : n ≡ get_or figs p no_figure) where
  pub unlisted-passes : n ≡ no_figure → true ≡ placement_passes r (by_tables figs sets) p
  unfolding placement_passes
  unlisted-passes z = rw (← is, eq-eqb n no_figure z)

  pub listed-decides : (b : Bool) → (n ≡ no_figure → ⊥) → b ≡ listed_passes r (by_tables figs sets) p n → b ≡ placement_passes r (by_tables figs sets) p
  unfolding placement_passes
  listed-decides b z e = go (get_or figs p no_figure) is
    where
      go : (x : ℕ) → n ≡ x → b ≡ passes_if r (by_tables figs sets) p (cond (eqb x no_figure) none (some x))
      go x i = rw (← i, ne_eqb n no_figure z) e

-- THE WHOLE TEST
module _ (r : Railway) (figs sets : List ℕ) (m n s : ℕ) (is-s : s ≡ start_code r) (is : n ≡ get_or figs s no_figure) where
  start_is : n ≡ get_or figs (start_code r) no_figure
  start_is = rw is-s at is

  pub start-unlisted : n ≡ no_figure → false ≡ test_holds r m (by_tables figs sets)
  unfolding test_holds
  start-unlisted z = rw (← start_is, eq-eqb n no_figure z)

  module _ (z : n ≡ no_figure → ⊥) where
    pub start-other : (n ≡ m → ⊥) → false ≡ test_holds r m (by_tables figs sets)
    unfolding test_holds
    start-other d = rw (← start_is, ne_eqb n no_figure z, ne_eqb n m d)

    pub start-same : (b : Bool) → n ≡ m → b ≡ all_below (placement_passes r (by_tables figs sets)) (placements r) → b ≡ test_holds r m (by_tables figs sets)
    unfolding test_holds
    start-same b d e = rw (← start_is, ne_eqb n no_figure z, eq-eqb n m d) e
