-- WHERE NO TRAIN IS DEARER THAN 1 NOTHING CHANGES (document 02, Q-12, on weights of 1). Here stands what document 01 counts, turns ("A turn", and "Test of a plan", last
-- sentence), and the statement that this is then the same as what Game and Claim count, weights. Tables and plans follow in ByTurns of crates game_tables and plan.
-- Assumes nothing.
use Rattle.std.specs.Prelude.{◌≡◌, true, List, ◌↔◌, ℕ, ◌≤◌, ◌<◌, length}
use Rattle.std.proofs.Math.Option.{Option, none, some}
use Rattle.game.specs.Game.{Game, Turn, Strategy, Adversary, standing, may, play, spent, home_at, HomeWithin, IsFigure}
use Rattle.game.specs.Claim.{figure_of, Keeps}

module _ {S : Type 0} (g : Game S) where
  -- Home within n turns: when so many have been played, or fewer, the trains are home.
  abbrev pub HomeInTurns : Strategy S → Adversary S → ℕ → ℕ → Type 0
  HomeInTurns w c p n = (m : ℕ) × (m ≤ n) × (home_at g (play g w c p m) ≡ true)

  -- Forced within n turns: there is a way of working that is home within n, however the trains choose.
  abbrev pub ForcedInTurns : ℕ → ℕ → Type 0
  ForcedInTurns p n = (w : Strategy S) × ((c : Adversary S) → HomeInTurns w c p n)

  -- The figure of a placement, in turns: home is forced within it, and within nothing smaller; none: it is forced within no number.
  abbrev pub IsTurns : ℕ → Option ℕ → Type 0
  IsTurns p none = (n : ℕ) → ¬ (ForcedInTurns p n)
  IsTurns p (some n) = ForcedInTurns p n × ((m : ℕ) → ForcedInTurns p m → n ≤ m)

-- A figure is there and is smaller than n.
abbrev pub Smaller : ℕ → Option ℕ → Type 0
Smaller n none = ⊥
Smaller n (some j) = j < n

-- Setting s keeps figure n at placement p, in turns: somebody can move, and whoever can comes to a figure that is listed and less than n.
pub record KeepsInTurns {S : Type 0} (g : Game S) (F : ℕ → Option ℕ) (p : ℕ) (s : S) (n : ℕ) : Type 0 where
  pub one-may : (t : ℕ) × (may g p s t ≡ true)
  pub all-within : (t : ℕ) → may g p s t ≡ true → Smaller n (figure_of F (g.next p s t))

-- Every train has weight 1.
abbrev pub AllOne : {S : Type 0} → Game S → Type 0
AllOne g = (t : ℕ) → t < g.trains → g.weight t ≡ 1

-- As before.
pub record AsBefore {S : Type 0} (g : Game S) : Type 0 where
  -- what the turns of a play have cost is how many they are
  pub totals : (w : Strategy S) (c : Adversary S) (p m : ℕ) (h : List (Turn S)) (q : ℕ) → play g w c p m ≡ standing h q → spent g h ≡ length h
  -- home within a total of n is home within n turns
  pub within : (w : Strategy S) (c : Adversary S) (p n : ℕ) → HomeWithin g w c p n ↔ HomeInTurns g w c p n
  -- the figure of a placement is that in turns
  pub figures : (p : ℕ) (f : Option ℕ) → IsFigure g p f ↔ IsTurns g p f
  -- and the same settings keep it
  pub keeps : (F : ℕ → Option ℕ) (p : ℕ) (s : S) (n : ℕ) → Keeps g F p s n ↔ KeepsInTurns g F p s n

-- So it is in every game whose trains all have weight 1.
abbrev pub OneAsBefore : Type 1
OneAsBefore = (S : Type 0) (g : Game S) → AllOne g → AsBefore g
