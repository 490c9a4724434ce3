-- Records and the number each gets, by computation: every row, its edges, rows that apply together, and records that no
-- text gives. Assumes nothing.
use mathlib.Core.Path.{◌≡◌, refl}
use mathlib.Core.Bool.{true, false}
use mathlib.Core.List.{List, [], ◌∷◌, map}
use mathlib.Core.Option.{Option, none, some}
use Prim.Native.Nat.{ℕ, ◌+◌, ◌-◌}
use lib.ListN.{set}
use Rattle.laws.specs.Below.{any_below}
use Rattle.railway.specs.declared.Side.{Side}
use Rattle.railway.specs.declared.Side.TheVariants.{Up, Down}
use Rattle.railway.specs.declared.Leg.{Leg}
use Rattle.railway.specs.declared.Leg.TheVariants.{Stem, Plus, Minus}
use Rattle.railway.specs.declared.End.{End}
use Rattle.railway.specs.declared.End.TheVariants.{Section, Port}
use Rattle.railway.specs.Joined.{Joined, Nothing, With}
use Rattle.railway.specs.declared.Railway.{Railway}
use Rattle.railway.specs.Ends.{end_index, end_at}
use Rattle.railway.specs.Refusals.{first, number_of}
use Rattle.railway.specs.Record.{is_closed, bare_railway, empty_railway, joined_by, joined, has_signal, legs_of}
use Rattle.railway.specs.Record.{train_of, weight_of, side_of, with_links, set_link, with_join, with_signal, with_legs}
use Rattle.railway.specs.Record.{with_train, with_closed}
use Rattle.railway.specs.Rows.{weight_row, unknown_row, join_row, loose_row, longer, chain_row, place_row, rows_by}
use Rattle.railway.specs.Rows.{record_refusal}
use Rattle.railway.specs.Chains.{Joinable}

-- records, with the document's numbers: what is added to bare counts
u : ℕ → End
u n = Section (record { 0 = n - 1 }) Up

d : ℕ → End
d n = Section (record { 0 = n - 1 }) Down

port : Leg → ℕ → End
port l n = Port (record { 0 = n - 1 }) l

train : ℕ → Side → ℕ → ℕ → Railway → Railway
train t h a b r = with_train r
    (t - 1) (record { heading = h; start = record { 0 = a - 1 }; destination = record { 0 = b - 1 }; weight = 1 })

-- the same with a weight
weighing : ℕ → ℕ → Side → ℕ → ℕ → Railway → Railway
weighing w t h a b r = with_train r
    (t - 1) (record { heading = h; start = record { 0 = a - 1 }; destination = record { 0 = b - 1 }; weight = w })

join : End → End → Railway → Railway
join a b r = with_join r a b

-- one direction of a join, which no text gives
half : End → End → Railway → Railway
half a b r = with_links r (set_link a b r.links)

-- a byte set where the link of an end stands
byte : End → ℕ → Railway → Railway
byte e b r = with_links r (set r.links (end_index e) b)

signal : End → Railway → Railway
signal e r = with_signal r e

legs : ℕ → Side → Railway → Railway
legs n side r = with_legs r (n - 1) side

shut : ℕ → Railway → Railway
shut x r = with_closed r (x - 1)

-- two sections, no point, one train from 1 to 1, or two trains; and a point whose stem, plus and minus meet these ends
two : Railway
two = bare_railway 2 0 1

two2 : Railway
two2 = bare_railway 2 0 2

fork : Side → End → End → End → Railway
fork side stem plus minus =
    legs 1 side (join (port Stem 1) stem (join (port Plus 1) plus (join (port Minus 1) minus (bare_railway 3 1 1))))

-- points in a row, legs up, from section 1 on: the minus leg of each leads to a section, the plus leg to the next
-- point, the last one's to a section
in_row : ℕ → Railway → Railway
in_row n r = join (port Plus n) (port Stem (n + 1)) (join (port Minus n) (d (n + 1)) r)

last_of : ℕ → Railway → Railway
last_of n r = join (port Plus n) (d (n + 2)) (join (port Minus n) (d (n + 1)) r)

four_in_row : Railway
four_in_row = last_of 4 (in_row 3 (in_row 2 (in_row 1 (join (u 1) (port Stem 1) (bare_railway 6 4 1)))))

five_in_row : ℕ → Railway
five_in_row k = last_of 5 (in_row 4 (in_row 3 (in_row 2 (in_row 1 (join (u 1) (port Stem 1) (bare_railway 7 5 k))))))

-- two points joined stem to stem and leg to leg, that no section leads to, with p points in all and k trains
round : ℕ → ℕ → Railway
round p k = legs 2 Down (join (port Stem 1) (port Stem 2)
    (join (port Plus 1) (port Plus 2) (join (port Minus 1) (port Minus 2) (bare_railway 2 p k))))

-- a crossover: from 1 to 2 over point 1, from 3 to 4 over point 2, and the minus legs joined
crossover : Railway
crossover =
    legs 2 Down
    (join (port Minus 1) (port Minus 2)
    (join (port Stem 1) (u 1)
    (join (port Plus 1) (d 2)
    (join (port Plus 2) (u 3)
    (join (port Stem 2) (d 4) (bare_railway 4 2 1))))))

record Case : Type 0 where
  number : Option ℕ
  of : Railway

gets : Option ℕ → Railway → Case
gets n r = record { number = n; of = r }

cases : List Case
cases =
    -- accepted: a join and a signal; a signal at an end in no join; a point with legs down, and with legs up; 48
    -- sections; four trains
    gets none (signal (u 2) (join (u 1) (d 2) two))
    ∷ gets none (fork Down (d 3) (u 1) (u 2))
    ∷ gets none (fork Up (u 1) (d 2) (d 3))
    ∷ gets none (bare_railway 48 0 1)
    ∷ gets none (train 4 Up 4 4 (train 3 Up 3 3 (train 2 Up 2 2 (bare_railway 4 0 4))))
    -- a train may start on another's destination; trains and legs beyond the counts are not looked at
    ∷ gets none (train 2 Down 2 1 (train 1 Up 1 2 (bare_railway 2 0 2)))
    ∷ gets none (legs 3 Down (train 2 Up 9 9 two))
    -- points joined to points: a crossover, and four in a row; a closed section on which no train starts or ends
    ∷ gets none crossover
    ∷ gets none four_in_row
    ∷ gets none (shut 2 two)
    -- any byte from 144 on is no join
    ∷ gets none (byte (d 1) 144 two)
    ∷ gets none (byte (u 2) 200 (byte (d 1) 254 two))
    -- 3
    ∷ gets (some 3) empty_railway
    ∷ gets (some 3) (bare_railway 0 0 1)
    ∷ gets (some 3) (bare_railway 49 0 1)
    ∷ gets (some 3) (bare_railway 2 17 1)
    ∷ gets (some 3) (bare_railway 2 0 0)
    ∷ gets (some 3) (bare_railway 2 0 5)
    -- 16: a weight of 0, of any train that is there, before 4 and behind 3; 255 is a weight; a weight over it, which a
    -- byte cannot have
    ∷ gets (some 16) (weighing 0 1 Up 1 1 two)
    ∷ gets (some 16) (weighing 0 2 Up 3 2 two2)
    ∷ gets (some 3) (weighing 0 1 Up 1 1 (bare_railway 0 0 1))
    ∷ gets none (weighing 0 2 Up 2 2 (weighing 255 1 Up 1 1 two))
    ∷ gets (some 16) (weighing 256 1 Up 1 1 two)
    -- 4: a join to an unknown section or point, one at such an end, a signal, a start, a destination, a closed section
    ∷ gets (some 4) (join (u 1) (d 3) two)
    ∷ gets (some 4) (join (u 1) (port Stem 1) two)
    ∷ gets (some 4) (half (d 3) (u 1) two)
    ∷ gets (some 4) (byte (d 1) 143 two)
    ∷ gets (some 4) (signal (d 3) two)
    ∷ gets (some 4) (train 1 Up 3 1 two)
    ∷ gets (some 4) (train 1 Up 1 3 two)
    ∷ gets (some 4) (shut 3 two)
    -- 5: ports of one point, one section, an end with itself, one side (of sections, of a port with legs down and with
    -- legs up, of ports of two points), a link that is not returned, an end in two joins
    ∷ gets (some 5) (join (port Plus 1) (port Stem 1) (bare_railway 2 1 1))
    ∷ gets (some 5) (join (port Plus 1) (port Minus 1) (bare_railway 2 1 1))
    ∷ gets (some 5) (join (port Stem 1) (port Stem 1) (bare_railway 2 1 1))
    ∷ gets (some 5) (join (port Plus 1) (port Plus 2) (bare_railway 2 2 1))
    ∷ gets (some 5) (join (port Stem 1) (port Stem 2) (bare_railway 2 2 1))
    ∷ gets (some 5) (join (u 1) (d 1) two)
    ∷ gets (some 5) (join (u 1) (u 1) two)
    ∷ gets (some 5) (join (u 1) (u 2) two)
    ∷ gets (some 5) (fork Down (u 1) (d 2) (d 3))
    ∷ gets (some 5) (fork Up (d 3) (u 1) (u 2))
    ∷ gets (some 5) (half (u 1) (d 2) two)
    ∷ gets (some 5) (half (u 3) (d 2) (join (u 1) (d 2) (bare_railway 3 0 1)))
    -- 6: no port joined, 16 points being within the bounds; one of three not joined
    ∷ gets (some 6) (bare_railway 2 16 1)
    ∷ gets (some 6) (join (d 1) (port Stem 1) (join (u 1) (port Plus 1) (legs 1 Down (bare_railway 2 1 1))))
    ∷ gets (some 6) (join (d 2) (port Stem 1) (join (u 1) (port Plus 1) (legs 1 Down (bare_railway 2 1 1))))
    -- 13: five points in a row; a round of two points that no section leads to
    ∷ gets (some 13) (five_in_row 1)
    ∷ gets (some 13) (round 2 1)
    -- 8: a start shared, a destination shared, by trains that do not follow each other; a start on a closed section,
    -- and a destination
    ∷ gets (some 8) (train 2 Up 1 2 two2)
    ∷ gets (some 8) (train 2 Up 2 1 two2)
    ∷ gets (some 8) (train 3 Up 1 3 (train 2 Up 2 2 (bare_railway 3 0 3)))
    ∷ gets (some 8) (shut 1 two)
    ∷ gets (some 8) (shut 2 (train 1 Up 1 2 two))
    -- 3 with 4, 16 with 8, 4 with 5, 4 with 6, 5 with 6, 5 with 8, 6 with 8; a round with 4, 5, 6 and 8, and five in a
    -- row with 8: the first in the order of the rows
    ∷ gets (some 3) (signal (d 3) (bare_railway 2 17 1))
    ∷ gets (some 16) (weighing 0 2 Up 1 2 two2)
    ∷ gets (some 4) (join (u 1) (u 2) (signal (d 3) two))
    ∷ gets (some 4) (train 1 Up 3 1 (bare_railway 2 1 1))
    ∷ gets (some 5) (join (u 1) (u 2) (bare_railway 2 1 1))
    ∷ gets (some 5) (join (u 1) (u 2) (train 2 Up 1 2 two2))
    ∷ gets (some 6) (train 2 Up 1 2 (bare_railway 2 1 2))
    ∷ gets (some 4) (signal (d 3) (round 2 1))
    ∷ gets (some 5) (join (u 1) (u 2) (round 2 1))
    ∷ gets (some 6) (round 3 1)
    ∷ gets (some 13) (round 2 2)
    ∷ gets (some 13) (five_in_row 2)
    ∷ []

numbers : map (λ k. number_of (record_refusal k.of)) cases ≡ map (λ k. k.number) cases
unfolding any_below end_at first joined_by joined has_signal is_closed legs_of train_of weight_of with_join with_signal with_legs
    with_train with_closed weight_row unknown_row join_row loose_row longer chain_row place_row record_refusal u d port train
    weighing join half byte signal legs shut two two2 fork in_row last_of four_in_row five_in_row round crossover gets cases
numbers = refl

-- Rows 3 to 6 do not apply to the round, nor to five in a row.
round-joinable : Joinable (round 2 1)
unfolding any_below end_at joined_by joined has_signal is_closed legs_of train_of with_join with_legs weight_row weight_of
    unknown_row join_row loose_row port join legs round
round-joinable = record { count = refl; unknown = refl; join = refl; loose = refl }

five-joinable : Joinable (five_in_row 1)
unfolding any_below end_at joined_by joined has_signal is_closed legs_of train_of with_join weight_row weight_of unknown_row
    join_row loose_row u d port join in_row last_of five_in_row
five-joinable = record { count = refl; unknown = refl; join = refl; loose = refl }

-- THE ORDER, row by row: each applies with all behind it, and comes first.
order : map number_of (
    first (rows_by true true true true true true true true)
    ∷ first (rows_by false true true true true true true true)
    ∷ first (rows_by false false true true true true true true)
    ∷ first (rows_by false false false true true true true true)
    ∷ first (rows_by false false false false true true true true)
    ∷ first (rows_by false false false false false true true true)
    ∷ first (rows_by false false false false false false true true)
    ∷ first (rows_by false false false false false false false true)
    ∷ []
    ) ≡ some 3 ∷ some 16 ∷ some 4 ∷ some 5 ∷ some 6 ∷ some 13 ∷ some 7 ∷ some 8 ∷ []
unfolding first
order = refl

-- LOOKUPS in such a record, the values written out: found from both ends, nothing elsewhere, nothing at ends that no
-- railway has.
looked : List Joined
looked = map (joined (fork Down (d 3) (u 1) (u 2)))
    (u 1 ∷ u 2 ∷ d 3 ∷ port Stem 1 ∷ port Plus 1 ∷ port Minus 1 ∷ d 1 ∷ port Stem 2 ∷ d 49 ∷ port Stem 17 ∷ [])

lookups : looked ≡ With (port Plus 1) ∷ With (port Minus 1) ∷ With (port Stem 1) ∷ With (d 3) ∷ With (u 1) ∷ With (u 2)
    ∷ Nothing ∷ Nothing ∷ Nothing ∷ Nothing ∷ []
unfolding end_at joined_by joined legs_of with_join with_legs u d port join legs fork looked
lookups = refl

-- SIDES: with legs down the stem lies up; with legs up it lies down.
sides : map (side_of (fork Down (d 3) (u 1) (u 2))) (port Stem 1 ∷ port Plus 1 ∷ port Minus 1 ∷ [])
    ≡ Up ∷ Down ∷ Down ∷ []
unfolding legs_of with_join with_legs u d port join legs fork
sides = refl

sides-up : map (side_of (fork Up (u 1) (d 2) (d 3))) (port Stem 1 ∷ port Plus 1 ∷ port Minus 1 ∷ [])
    ≡ Down ∷ Up ∷ Up ∷ []
unfolding legs_of with_join with_legs u d port join legs fork
sides-up = refl
