-- A game of placements, settings and trains, and its plays: document 01, "A turn", for any rules of moving; totals and figures by weights: document 02, Q-12.
-- Placements and trains are numbers here; what they stand for on a railway is in Placement, Setting and Moves. Assumes nothing.
use Rattle.std.specs.Prelude.{◌≡◌, Bool, true, false, cond, not, ◌&&◌, ◌||◌, List, [], ◌∷◌, ◌++◌, ℕ, zero, suc, ◌+◌, ◌≤◌, ltb}
use Rattle.std.proofs.Math.Option.{Option, none, some}
use Rattle.laws.specs.Below.{lowest}

-- The two ways in which a move loses.
pub data Loss : Type 0 where
  derailment : Loss
  collision : Loss

-- What a move ends in: a loss, or the next placement.
pub data Outcome : Type 0 where
  lost : Loss → Outcome
  at : ℕ → Outcome

-- A game. Placements are the codes below `placements`, trains the numbers below `trains`; S is the type of settings.
pub record Game (S : Type 0) : Type 0 where
  pub placements : ℕ
  pub trains : ℕ
  pub is_home : ℕ → Bool
  pub is_lost : ℕ → Bool
  -- in placement p the setting s lets train t move
  pub allowed : ℕ → S → ℕ → Bool
  -- what moving train t in placement p under setting s ends in
  pub next : ℕ → S → ℕ → Outcome
  -- what a move of train t costs
  pub weight : ℕ → ℕ

-- One turn that was played: the placement before it, the setting, and the train that moved, if one did.
pub record Turn (S : Type 0) : Type 0 where
  pub placement : ℕ
  pub setting : S
  pub moved : Option ℕ

-- A way of working: a setting for the turns played so far, oldest first, and the present placement.
abbrev pub Strategy : Type 0 → Type 0
Strategy S = List (Turn S) → ℕ → S

-- A choice of trains: it names a train, knowing the history, the placement and the setting that the way has picked.
abbrev pub Adversary : Type 0 → Type 0
Adversary S = List (Turn S) → ℕ → S → ℕ

-- To follow a table of settings: whatever was played, what the table has for the placement reached.
abbrev pub following : {S : Type 0} → (ℕ → S) → Strategy S
following f h p = f p

-- A choice of trains without memory: it looks at where the trains stand and at the setting picked, not at what was played before.
abbrev pub positional : {S : Type 0} → (ℕ → S → ℕ) → Adversary S
positional C h p s = C p s

-- Where a play stands: lost by a move, or in a placement with these turns behind it.
pub data Position (S : Type 0) : Type 0 where
  lost_by_move : Position S
  standing : List (Turn S) → ℕ → Position S

module _ {S : Type 0} (g : Game S) where
  -- Train t is there and may move in placement p under setting s.
  abbrev pub may : ℕ → S → ℕ → Bool
  may p s t = ltb t g.trains && g.allowed p s t

  -- The train that moves where t is named: t if it may, else the lowest that may, else none.
  abbrev pub mover : ℕ → S → ℕ → Option ℕ
  mover p s t = cond (may p s t) (some t) (lowest (may p s) g.trains)

  -- Home, unless the placement counts as lost.
  abbrev pub home : ℕ → Bool
  home p = not (g.is_lost p) && g.is_home p

  -- A play has ended at home, and where the placement counts as lost.
  abbrev pub over : ℕ → Bool
  over p = g.is_lost p || g.is_home p

  -- The history with one more turn: the newest is last.
  abbrev pub grown : List (Turn S) → ℕ → S → Option ℕ → List (Turn S)
  grown h p s m = h ++ (record { placement = p; setting = s; moved = m } ∷ [])

  -- Where the play stands when a move has ended so.
  abbrev pub stand_after : List (Turn S) → Outcome → Position S
  stand_after h (lost l) = lost_by_move
  stand_after h (at q) = standing h q

  -- A turn by the mover; without one nothing moves, and yet a turn has been played.
  abbrev pub turn : List (Turn S) → ℕ → S → Option ℕ → Position S
  turn h p s none = standing (grown h p s none) p
  turn h p s (some t) = stand_after (grown h p s (some t)) (g.next p s t)

  -- The turn by the setting picked: way and choice are both handed the history.
  abbrev pub turn_by : Adversary S → List (Turn S) → ℕ → S → Position S
  turn_by c h p s = turn h p s (mover p s (c h p s))

  -- One more turn of a way against a choice, unless the play has ended.
  abbrev pub step : Strategy S → Adversary S → Position S → Position S
  step w c lost_by_move = lost_by_move
  step w c (standing h p) = cond (over p) (standing h p) (turn_by c h p (w h p))

  -- The play from placement p after n turns; one that has ended stays as it is.
  unfoldable pub play : Strategy S → Adversary S → ℕ → ℕ → Position S
  play w c p zero = standing [] p
  play w c p (suc n) = step w c (play w c p n)

  -- What a turn costs: the weight of the train that moved; 1 if none did.
  abbrev pub cost : Option ℕ → ℕ
  cost none = 1
  cost (some t) = g.weight t

  -- What the turns behind a play have cost, in sum.
  unfoldable pub spent : List (Turn S) → ℕ
  spent [] = 0
  spent (x ∷ h) = cost x.moved + spent h

  -- The same of where a play stands; a play that is lost is never home, so nothing rests on its 0.
  abbrev pub spent_at : Position S → ℕ
  spent_at lost_by_move = 0
  spent_at (standing h p) = spent h

  -- The play stands at home.
  abbrev pub home_at : Position S → Bool
  home_at lost_by_move = false
  home_at (standing h p) = home p

  -- HOME WITHIN a total of n: after some turns, or at the start, the trains are home, and the turns have cost n at most.
  abbrev pub HomeWithin : Strategy S → Adversary S → ℕ → ℕ → Type 0
  HomeWithin w c p n = (m : ℕ) × (spent_at (play w c p m) ≤ n) × (home_at (play w c p m) ≡ true)

  -- The play comes home.
  abbrev pub ComesHome : Strategy S → Adversary S → ℕ → Type 0
  ComesHome w c p = (m : ℕ) × (home_at (play w c p m) ≡ true)

  -- The choice beats the way from placement p: at no time of their play are the trains home.
  abbrev pub Beats : Adversary S → Strategy S → ℕ → Type 0
  Beats c w p = (m : ℕ) → home_at (play w c p m) ≡ false

  -- Forced within a total of n: there is a way of working that is home within n, however the trains choose.
  abbrev pub Forced : ℕ → ℕ → Type 0
  Forced p n = (w : Strategy S) × ((c : Adversary S) → HomeWithin w c p n)

  -- The figure of a placement: home is forced within it, and within nothing smaller; none: it is forced within no number.
  abbrev pub IsFigure : ℕ → Option ℕ → Type 0
  IsFigure p none = (n : ℕ) → ¬ (Forced p n)
  IsFigure p (some n) = Forced p n × ((m : ℕ) → Forced p m → n ≤ m)
