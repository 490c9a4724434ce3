-- Rows 1 to 8, 13 and 16 of the table of numbers, for a case text: one definition a row, in the order in which they are given. From row 3 on they judge what
-- the text says.
-- Assumes nothing.
use Rattle.std.specs.Prelude.{Bool, false, not, ◌&&◌, ◌||◌, List, [], ◌∷◌, map, ℕ, suc, ◌-◌, ◌<◌, leb, eqb, length, get_or}
use Rattle.laws.specs.Below.{any_below}
use Rattle.laws.specs.Lists.{any, repeats}
use Rattle.railway.specs.declared.Side.{Side}
use Rattle.railway.specs.declared.Side.TheVariants.{Up}
use Rattle.railway.specs.declared.Leg.TheVariants.{Stem, Plus, Minus}
use Rattle.railway.specs.declared.Refusal.{Refusal}
use Rattle.railway.specs.Ends.{port_side}
use Rattle.railway.specs.Refusals.{Row}
use Rattle.railway.specs.Rows.{outside, wrong_weight, Owner, of_section, of_point, Tied, wrong_pair, rows_by}
use Rattle.railway.specs.Rows as Record
use Rattle.case_file.specs.Form.{EndField, section, port, JoinLine, SignalLine, TrainLine, Description, said_weight, same_end, same_signal, Describes}
use Rattle.case_file.specs.Recording.{railway_of}

-- The bytes that a case text may have.
abbrev pub most_bytes : ℕ
most_bytes = 4096

-- 1, length: the text has more.
abbrev pub LengthRow : List ℕ → Type 0
LengthRow text = most_bytes < length text

-- 2, form: the text says nothing.
abbrev pub FormRow : List ℕ → Type 0
FormRow text = (d : Description) → Describes text d → ⊥

-- 3, count: the H line has a number of sections, points or trains that no railway may have.
abbrev pub count_row : Description → Bool
count_row d = outside d.sections d.points d.trains

-- A T line that says a weight which no train may have.
abbrev pub wrong_weight_in : TrainLine → Bool
wrong_weight_in t = wrong_weight (said_weight t.weight)

-- 16, weight (document 02, Q-12): there is such a line, its weight 0 or over 255.
unfoldable pub weight_row : Description → Bool
weight_row d = any wrong_weight_in d.roster

-- A number from 1 to a count.
abbrev pub within : ℕ → ℕ → Bool
within n count = leb 1 n && leb n count

-- An end whose section or point has such a number.
abbrev pub known : Description → EndField → Bool
known d (section n s) = within n d.sections
known d (port n l) = within n d.points

-- A J line with an end whose section or point is not there.
abbrev pub unknown_join : Description → JoinLine → Bool
unknown_join d j = not (known d j.one && known d j.other)

-- A G line of no section that is there.
abbrev pub unknown_signal : Description → SignalLine → Bool
unknown_signal d g = not (within g.number d.sections)

-- An X line of no section that is there.
abbrev pub unknown_closed : Description → ℕ → Bool
unknown_closed d n = not (within n d.sections)

-- A T line whose start or destination is not there.
abbrev pub unknown_train : Description → TrainLine → Bool
unknown_train d t = not (within t.start d.sections && within t.destination d.sections)

-- 4, unknown: one of these lines has a section or point with number 0, or one above the H line's.
unfoldable pub unknown_row : Description → Bool
unknown_row d =
    any (unknown_join d) d.joins
    || any (unknown_signal d) d.signals
    || any (unknown_closed d) d.closed
    || any (unknown_train d) d.roster

-- What an end belongs to.
abbrev pub owner_of : EndField → Owner
owner_of (section n s) = of_section n
owner_of (port n l) = of_point n

-- An end's side: a section's own, a port's by the P line of its point.
abbrev pub side_of : Description → EndField → Side
side_of d (section n s) = s
side_of d (port n l) = port_side (get_or d.legs (n - 1) Up) l

-- What row 5 asks of an end.
abbrev pub tied : Description → EndField → Tied
tied d e = record { owner = owner_of e; side = side_of d e }

-- The ends of a J line belong to one section or to one point, or lie on the same side.
abbrev pub wrong_join : Description → JoinLine → Bool
wrong_join d j = wrong_pair (tied d j.one) (tied d j.other)

-- The ends that the J lines name, each as often as it is named.
unfoldable pub join_ends : List JoinLine → List EndField
join_ends [] = []
join_ends (j ∷ js) = j.one ∷ j.other ∷ join_ends js

-- 5, join: a J line is such, or an end stands in the J lines twice.
unfoldable pub join_row : Description → Bool
join_row d = any (wrong_join d) d.joins || repeats same_end (join_ends d.joins)

-- No J line names this end.
abbrev pub loose_end : Description → EndField → Bool
loose_end d e = not (any (same_end e) (join_ends d.joins))

-- One of the three ports of point i + 1 is such an end.
abbrev pub loose_at : Description → ℕ → Bool
loose_at d i = loose_end d (port (suc i) Stem) || loose_end d (port (suc i) Plus) || loose_end d (port (suc i) Minus)

-- 6, loose: so with some point.
unfoldable pub loose_row : Description → Bool
loose_row d = any_below (loose_at d) d.points

-- 13, chain (document 02, Q-6): more than four points can be met in a row in the railway that the lines describe.
abbrev pub chain_row : Description → Bool
chain_row d = Record.chain_row (railway_of d)

-- 7, double: two G lines name one section end, or two X lines one section.
unfoldable pub double_row : Description → Bool
double_row d = repeats same_signal d.signals || repeats eqb d.closed

-- An X line names the section.
abbrev pub closed_in : Description → ℕ → Bool
closed_in d n = any (eqb n) d.closed

-- A train starts or ends on such a section.
abbrev pub shut_out : Description → TrainLine → Bool
shut_out d t = closed_in d t.start || closed_in d t.destination

-- 8, place: a section is the start of two trains, or the destination of two, or either of one while it is closed.
unfoldable pub place_row : Description → Bool
place_row d =
    repeats eqb (map (λ t. t.start) d.roster)
    || repeats eqb (map (λ t. t.destination) d.roster)
    || any (shut_out d) d.roster

-- These rows of what a text says, from 3 on, in the order in which they are given.
abbrev pub description_rows : Description → List Row
description_rows d = rows_by (count_row d) (weight_row d) (unknown_row d) (join_row d) (loose_row d) (chain_row d) (double_row d) (place_row d)

-- Their refusals, in that order.
abbrev pub description_table : List Refusal
description_table = map (λ x. x.refusal) (rows_by false false false false false false false false)
