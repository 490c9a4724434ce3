-- What proofs and contracts use of single turns. Nothing of document 01 rests on this file: the theorem on whole plays and the laws in
-- proofs/ tie it to Claim.
-- Assumes nothing.
use Rattle.std.specs.Prelude.{◌≡◌, Bool, true, false, not, ◌&&◌, ◌||◌, ℕ, ◌+◌, ◌≤◌, ◌<◌, leb}
use Rattle.std.proofs.Math.Option.{Option, none, some}
use Rattle.laws.specs.Below.{all_below, any_below}
use Rattle.game.specs.Game.{at, Game, may, home, over}
use Rattle.game.specs.Claim.{figure_of, Keeps}

-- A figure is there and, with weight w, is at most n, computed.
abbrev pub is_within : ℕ → ℕ → Option ℕ → Bool
is_within n w none = false
is_within n w (some j) = leb (j + w) n

-- Train t may not move, or comes to a figure that with its weight is at most n.
abbrev pub goes_within : {S : Type 0} → Game S → (ℕ → Option ℕ) → ℕ → S → ℕ → ℕ → Bool
goes_within g F p s n t = not (may g p s t) || is_within n (g.weight t) (figure_of F (g.next p s t))

-- That a setting keeps a figure, computed.
unfoldable pub keeps_test : {S : Type 0} → Game S → (ℕ → Option ℕ) → ℕ → S → ℕ → Bool
keeps_test g F p s n = any_below (may g p s) g.trains && all_below (goes_within g F p s n) g.trains

-- Every move costs something.
abbrev pub Costs : {S : Type 0} → Game S → Type 0
Costs g = (t : ℕ) → t < g.trains → 1 ≤ g.weight t

-- The moves of a game stay among its placements.
abbrev pub Inside : {S : Type 0} → Game S → Type 0
Inside {S} g = (p : ℕ) (s : S) (t q : ℕ) → p < g.placements → may g p s t ≡ true → g.next p s t ≡ at q → q < g.placements

-- Figures F and settings f agree with every single turn: the local property, from which the claim about whole plays follows.
pub record Solved {S : Type 0} (g : Game S) (F : ℕ → Option ℕ) (f : ℕ → S) : Type 0 where
  pub lost-none : (p : ℕ) → p < g.placements → g.is_lost p ≡ true → F p ≡ none
  pub home-zero : (p : ℕ) → p < g.placements → home g p ≡ true → F p ≡ some 0
  pub kept : (p n : ℕ) → p < g.placements → F p ≡ some n → home g p ≡ false → Keeps g F p (f p) n
  pub least : (p : ℕ) (s : S) (n : ℕ) → p < g.placements → over g p ≡ false → Keeps g F p s n → (j : ℕ) × (F p ≡ some j) × (j ≤ n)
