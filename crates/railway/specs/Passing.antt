-- Following a train (document 01, "A turn", second paragraph; document 02, Q-6): past the join of an end to a section or a point, over the point to the end
-- by which it is left, and so on, over four points at most. Where a move comes to is `passes`. Assumes nothing.
use Rattle.std.specs.Prelude.{Bool, true, false, cond, List, [], ◌∷◌, ℕ, zero, suc}
use Rattle.std.proofs.Math.Option.{Option, none, some}
use Rattle.railway.specs.declared.Leg.{Leg}
use Rattle.railway.specs.declared.Leg.TheVariants.{Stem, Plus, Minus}
use Rattle.railway.specs.declared.PointNo.{PointNo}
use Rattle.railway.specs.declared.End.{End}
use Rattle.railway.specs.declared.End.TheVariants.{Section, Port}
use Rattle.railway.specs.Joined.{Joined, Nothing, With}
use Rattle.railway.specs.declared.Railway.{Railway}
use Rattle.railway.specs.Record.{joined, is_closed}

-- A train on its way: the points that it has met, in order, the one that it derails at last; and the section that it comes to; none: it derails.
pub record Passage : Type 0 where
  pub met : List ℕ
  pub reached : Option ℕ

-- The leg of a point that is set.
abbrev pub leg_set : Bool → Leg
leg_set true = Plus
leg_set false = Minus

-- The port that follows on this one through a point that lies at plus or not; none: this is the leg that is not set, where a train derails.
abbrev pub through : Leg → Bool → Option Leg
through Stem plus = some (leg_set plus)
through Plus true = some Stem
through Plus false = none
through Minus true = none
through Minus false = some Stem

-- The most points that are met from one section end to the next.
abbrev pub most_met : ℕ
most_met = 4

-- Nowhere: the track ends, or no more points may be met.
abbrev pub nowhere : Passage
nowhere = record { met = []; reached = none }

-- A point met before all else on a way.
abbrev pub meeting : PointNo → Passage → Passage
meeting n w = record { met = n.0 ∷ w.met; reached = w.reached }

-- Over a point: out by the port given, and on past what that is joined to; none: the train derails on the point.
abbrev pub past_point : Railway → (Joined → Passage) → PointNo → Option Leg → Passage
past_point r on n none = meeting n nowhere
past_point r on n (some l) = meeting n (on (joined r (Port n l)))

-- An end leads to a point, over which it goes on as given, or to a section. An end without a join leads nowhere.
abbrev pub past_join : (PointNo → Leg → Passage) → Joined → Passage
past_join over Nothing = nowhere
past_join over (With (Section n side)) = record { met = []; reached = some n.0 }
past_join over (With (Port n leg)) = over n leg

-- Past a join, with these points at plus and k points allowed: each point that is met takes one away.
unfoldable pub follow : Railway → (ℕ → Bool) → ℕ → Joined → Passage
follow r plus zero j = past_join (λ n l. nowhere) j
follow r plus (suc k) j = past_join (λ n l. past_point r (λ i. follow r plus k i) n (through l (plus n.0))) j

-- PASSING: leaving by end e, with these points at plus. (In an accepted record nothing is cut short: `Chains`, `Unbroken`.)
unfoldable pub passes : Railway → (ℕ → Bool) → End → Passage
passes r plus e = follow r plus most_met (joined r e)

-- The section that a train comes to, unless it is closed: to enter a closed one loses, like derailing, whoever stands there (document 02, Q-5).
abbrev pub in_use : Railway → Option ℕ → Option ℕ
in_use r none = none
in_use r (some x) = cond (is_closed r x) none (some x)

-- Leaving by section end e, with these points at plus: the section entered; none where the train derails or would enter a closed one.
unfoldable pub entered : Railway → (ℕ → Bool) → End → Option ℕ
entered r plus e = in_use r (passes r plus e).reached
