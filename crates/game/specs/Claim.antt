-- What a table of figures and a table of settings claim of whole plays (document 01, "Agreement": demand 3, in the words of "A turn"), and
-- when a setting keeps a placement's figure ("The two tables and the plan"). Figures are totals of weights (document 02, Q-12). Assumes nothing.
use Rattle.std.specs.Prelude.{◌≡◌, true, false, ◌↔◌, ℕ, ◌+◌, ◌≤◌, ◌<◌}
use Rattle.std.proofs.Math.Option.{Option, none, some}
use Rattle.game.specs.Game.{Outcome, lost, at, Game, Strategy, Adversary, following, positional, may, over, HomeWithin, ComesHome, Beats, IsFigure}

-- A figure is there and, with the weight w of the move that leads to it, is at most n.
abbrev pub Within : ℕ → ℕ → Option ℕ → Type 0
Within n w none = ⊥
Within n w (some j) = j + w ≤ n

-- The figure of what a move ends in; a loss has none.
abbrev pub figure_of : (ℕ → Option ℕ) → Outcome → Option ℕ
figure_of F (lost l) = none
figure_of F (at q) = F q

-- Setting s keeps figure n at placement p, the listed placements being those to which F gives a figure: somebody can move, and nobody who
-- can comes to a loss, to a placement not listed, or to a figure that is not smaller than n by at least its weight (document 01, "Test of a
-- plan", last sentence; document 02, Q-12).
pub record Keeps {S : Type 0} (g : Game S) (F : ℕ → Option ℕ) (p : ℕ) (s : S) (n : ℕ) : Type 0 where
  pub one-may : (t : ℕ) × (may g p s t ≡ true)
  pub all-within : (t : ℕ) → may g p s t ≡ true → Within n (g.weight t) (figure_of F (g.next p s t))

-- The move that decides a figure: train t may make it, and its weight and the figure that it comes to make n.
pub record Decides {S : Type 0} (g : Game S) (F : ℕ → Option ℕ) (p : ℕ) (s : S) (n : ℕ) : Type 0 where
  pub train : ℕ
  pub moves : may g p s train ≡ true
  pub figure : ℕ
  pub ends : figure_of F (g.next p s train) ≡ some figure
  pub makes : figure + g.weight train ≡ n

-- Two settings alike at placement p: they let the same trains move, and to the same end.
pub record Alike {S : Type 0} (g : Game S) (p : ℕ) (s o : S) : Type 0 where
  pub same-trains : (t : ℕ) → may g p s t ≡ may g p o t
  pub same_ends : (t : ℕ) → may g p s t ≡ true → g.next p s t ≡ g.next p o t

-- One choice of trains, without memory, that wins against every way of working from every placement of a kind: those that have no figure.
-- It names a train that is there, one that may move if any may, and the same under settings that are alike.
pub record OneAdversary {S : Type 0} (g : Game S) (Without : ℕ → Type 0) : Type 0 where
  pub named : ℕ → S → ℕ
  pub there : (p : ℕ) (s : S) → 0 < g.trains → named p s < g.trains
  pub moves : (p : ℕ) (s : S) (t : ℕ) → may g p s t ≡ true → may g p s (named p s) ≡ true
  pub alike : (p : ℕ) (s o : S) → Alike g p s o → named p s ≡ named p o
  pub beats : (w : Strategy S) (p : ℕ) → p < g.placements → Without p → Beats g (positional named) w p

-- What figures F and settings f claim of whole plays.
pub record Whole {S : Type 0} (g : Game S) (F : ℕ → Option ℕ) (f : ℕ → S) : Type 0 where
  -- F is the figure
  pub figures : (p : ℕ) → p < g.placements → IsFigure g p (F p)
  -- who follows f is home within a total of the figure, whatever the choice of trains
  pub follow : (p n : ℕ) → p < g.placements → F p ≡ some n → (c : Adversary S) → HomeWithin g (following f) c p n
  -- against every way there is a choice of trains under which it is not home within any smaller total
  pub not-sooner : (w : Strategy S) (p n : ℕ) → p < g.placements → F p ≡ some n → (c : Adversary S) × ((m : ℕ) → m < n → ¬ (HomeWithin g w c p m))
  -- a figure is no larger than it has to be: under a setting that keeps it some train's move makes it up, by its weight and the figure behind it
  pub decided : (p n : ℕ) (s : S) → p < g.placements → over g p ≡ false → F p ≡ some n → Keeps g F p s n → Decides g F p s n
  -- there is no figure exactly where no way comes home against all choices
  pub none-exactly : (p : ℕ) → p < g.placements → (F p ≡ none) ↔ ((w : Strategy S) → ¬ ((c : Adversary S) → ComesHome g w c p))
  pub one-adversary : OneAdversary g (λ p. F p ≡ none)
