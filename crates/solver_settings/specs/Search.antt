-- What the search at one placement looks for: the smallest point bits under which each train that may move has a good way. Nothing of the
-- documents rests on this file. Assumes nothing.
use Rattle.std.specs.Prelude.{◌≡◌, Bool, true, false, not, ◌||◌, List, ℕ, ◌^◌, ◌≤◌, ◌<◌}
use Rattle.std.proofs.Math.Option.{Option}
use Rattle.laws.specs.Below.{any_below}
use Rattle.laws.specs.Bits.{bit}
use Rattle.railway.specs.declared.Railway.{Railway}
use Rattle.railway.specs.Record.{is_closed}
use Rattle.railway.specs.Passing.{entered}
use Rattle.game.specs.Placement.{shared, code_on}
use Rattle.game.specs.Setting.{heads_for, free}
use Rattle.game_tables.specs.Find.{ends_good, is_good}
use Rattle.railway_routes.specs.Routes.{Way, suits, routes_from, Laid}
use Rattle.game_placement.specs.declared.Placement.{Placement}
use Rattle.game_placement.specs.ByValue.{section_in}
use Rattle.game_moves.specs.Steps.{On}

-- What is looked at: placement p of an accepted railway, by value and by the code of that, and the railway's ways.
pub record Looks (r : Railway) (p : ℕ) (table ways : List ℕ) (q : Placement) (c : ℕ) : Type 0 where
  pub on : On r p table q
  pub laid : Laid r (is_closed r) ways
  pub code : c ≡ code_on r (section_in q)

-- The same with k trains, and not lost.
pub record Asked (r : Railway) (p : ℕ) (table ways : List ℕ) (q : Placement) (c k : ℕ) : Type 0 where
  pub looks : Looks r p table ways q c
  pub trains : k ≡ r.trains
  pub apart : shared r p ≡ false

-- What stands for no point bits: no railway has a point with that bit.
abbrev pub no_bits : ℕ
no_bits = 65536

-- With the points by these bits the move of train t ends in a figure that is smaller than n by at least its weight.
abbrev pub good_at : Railway → (ℕ → Option ℕ) → ℕ → ℕ → ℕ → ℕ → Bool
good_at r F p n b t = is_good (ends_good r F p n t) (entered r (bit b) (heads_for r p t))

-- Train t is not free, or its move ends so.
abbrev pub free_good : Railway → (ℕ → Option ℕ) → ℕ → ℕ → ℕ → ℕ → Bool
free_good r F p n b t = not (free r p t) || good_at r F p n b t

-- The moves of all free trains before t end so.
abbrev pub GoodBefore : Railway → (ℕ → Option ℕ) → ℕ → ℕ → ℕ → ℕ → Type 0
GoodBefore r F p n t b = (u : ℕ) → u < t → free r p u ≡ true → good_at r F p n b u ≡ true

-- The smallest number of a kind below `best`, if there is one, and it has m bits; else `best`.
pub record Smallest (P : ℕ → Type 0) (m best b : ℕ) : Type 0 where
  pub upto : b ≤ best
  pub made : b < best → P b × (b < 2 ^ m)
  pub least : (a : ℕ) → P a → a < best → b ≤ a

-- EACH TRAIN BY ITSELF. The bits under which train t has a good way.
abbrev pub Goes : Railway → (ℕ → Option ℕ) → ℕ → ℕ → ℕ → ℕ → Type 0
Goes r F p n t b = good_at r F p n b t ≡ true

-- The ways of train t.
abbrev pub ways_of : Railway → ℕ → ℕ → List Way
ways_of r p t = routes_from r (is_closed r) (heads_for r p t)

-- The bits that suit way w of train t, if it is a good one.
pub record OnWay (r : Railway) (F : ℕ → Option ℕ) (p n t : ℕ) (w : Way) (b : ℕ) : Type 0 where
  pub suited : suits b w.care w.want ≡ true
  pub ends : ends_good r F p n t w.to ≡ true

-- What is known of the free trains before t, each looked at by itself: how many they are, and the union and the largest of their smallest bits.
pub record Seen (r : Railway) (F : ℕ → Option ℕ) (p n t count all most : ℕ) : Type 0 where
  pub nobody : count ≡ 0 → any_below (free r p) t ≡ false
  pub somebody : (count ≡ 0 → ⊥) → any_below (free r p) t ≡ true
  -- without one of them nothing is wanted
  pub blank : count ≡ 0 → (all ≡ 0) × (most ≡ 0)
  -- of a single one both are its own smallest bits
  pub single : count ≤ 1 → (all ≡ most) × GoodBefore r F p n t all
  -- if the union is zero, zero is good for each
  pub zero : all ≡ 0 → GoodBefore r F p n t 0
  -- bits that are good for each are no less than the largest
  pub bound : (b : ℕ) → GoodBefore r F p n t b → most ≤ b
  pub small : all < 2 ^ r.points

-- ALL TRAINS TOGETHER. What is wanted is among what matters, and of this railway.
pub record Placed (r : Railway) (care want : ℕ) : Type 0 where
  pub within : (i : ℕ) → bit want i ≡ true → bit care i ≡ true
  pub small : want < 2 ^ r.points

-- Bits that have these points as wanted, with a good way for each free train from t on.
pub record From (r : Railway) (F : ℕ → Option ℕ) (p n t care want b : ℕ) : Type 0 where
  pub suited : suits b care want ≡ true
  pub good : (u : ℕ) → t ≤ u → u < r.trains → free r p u ≡ true → good_at r F p n b u ≡ true

-- The same with train t on way w.
pub record ByWay (r : Railway) (F : ℕ → Option ℕ) (p n t care want : ℕ) (w : Way) (b : ℕ) : Type 0 where
  pub suited : suits b care want ≡ true
  pub way : OnWay r F p n t w b
  pub good : (u : ℕ) → t < u → u < r.trains → free r p u ≡ true → good_at r F p n b u ≡ true
