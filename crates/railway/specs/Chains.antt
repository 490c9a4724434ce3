-- What row 13 means (document 02, Q-6), under whole settings of the points: a way between section ends that meets more than four of them, or a round; and
-- what an accepted record has instead. proofs/Chains has the proofs. Assumes nothing.
use Rattle.std.specs.Prelude.{◌≡◌, ◌↔◌, ◌⊎◌, Bool, true, false, ℕ, zero, suc, ◌≤◌, ◌<◌, eqb, length}
use Rattle.std.proofs.Math.Option.{Option, none, some}
use Rattle.laws.specs.Lists.{repeats}
use Rattle.railway.specs.declared.Side.{Side}
use Rattle.railway.specs.declared.Leg.{Leg}
use Rattle.railway.specs.declared.PointNo.{PointNo}
use Rattle.railway.specs.declared.SectionNo.{SectionNo}
use Rattle.railway.specs.declared.End.{End}
use Rattle.railway.specs.declared.End.TheVariants.{Section, Port}
use Rattle.railway.specs.Joined.{Joined, Nothing, With}
use Rattle.railway.specs.declared.Railway.{Railway}
use Rattle.railway.specs.Record.{joined}
use Rattle.railway.specs.Passing.{through, most_met, follow, passes}
use Rattle.railway.specs.Rows.{count_row, unknown_row, join_row, loose_row, chain_row, record_refusal}

-- The port of a point by which a train leaves it.
abbrev pub port_out : PointNo → Option Leg → Option End
port_out n none = none
port_out n (some l) = some (Port n l)

-- Past a join, the port by which the point there is left; none: there is no point, or the train derails on it.
abbrev pub port_past : (ℕ → Bool) → Joined → Option End
port_past plus Nothing = none
port_past plus (With (Section n s)) = none
port_past plus (With (Port n l)) = port_out n (through l (plus n.0))

-- One point further.
abbrev pub onward : Railway → (ℕ → Bool) → Option End → Option End
onward r plus none = none
onward r plus (some e) = port_past plus (joined r e)

-- Leaving by end e and over k points, with these at plus: the port by which the last of them is left; the end itself before the first.
unfoldable pub left_by : Railway → (ℕ → Bool) → ℕ → End → Option End
left_by r plus zero e = some e
left_by r plus (suc k) e = onward r plus (left_by r plus k e)

-- A way between section ends, under some setting, that meets more than four points.
pub record LongWay (r : Railway) : Type 0 where
  pub plus : ℕ → Bool
  pub start : SectionNo
  pub side : Side
  pub points : ℕ
  pub many : most_met < points
  pub last : End
  pub over : left_by r plus points (Section start side) ≡ some last
  pub end : SectionNo
  pub end-side : Side
  pub comes : joined r last ≡ With (Section end end-side)

-- A round, under some setting: who leaves a point so comes, over one point or more, to leave it so again.
pub record Round (r : Railway) : Type 0 where
  pub plus : ℕ → Bool
  pub point : PointNo
  pub leg : Leg
  pub further : ℕ
  pub again : left_by r plus (suc further) (Port point leg) ≡ some (Port point leg)

-- Rows 3 to 6, which come before, do not apply. (So does row 16, on which nothing here depends.)
pub record Joinable (r : Railway) : Type 0 where
  pub count : count_row r ≡ false
  pub unknown : unknown_row r ≡ false
  pub join : join_row r ≡ false
  pub loose : loose_row r ≡ false

-- ROW 13, EXACTLY: it applies where there is such a way or such a round, and nowhere else.
abbrev pub ChainExactly : Type 0
ChainExactly = (r : Railway) → Joinable r → (chain_row r ≡ true) ↔ (LongWay r ⊎ Round r)

-- A PASSAGE of an accepted record, from any end under any setting.
pub record Unbroken (r : Railway) : Type 0 where
  -- it meets at most four points, however many are allowed
  pub few : (plus : ℕ → Bool) (e : End) (k : ℕ) → length (follow r plus k (joined r e)).met ≤ most_met
  -- and none of them twice
  pub once : (plus : ℕ → Bool) (e : End) → repeats eqb (passes r plus e).met ≡ false
  -- and is not cut short: with more allowed it would be the same
  pub whole : (plus : ℕ → Bool) (e : End) (k : ℕ) → most_met ≤ k → follow r plus k (joined r e) ≡ passes r plus e

-- Of every accepted record.
abbrev pub AcceptedUnbroken : Type 0
AcceptedUnbroken = (r : Railway) → record_refusal r ≡ none → Unbroken r
