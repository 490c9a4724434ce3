-- The railway record: the empty one, what it answers when it is asked, and its updates (document 01, "The railway").
-- What is asked of something that is not there has an answer too: no join, no signal, not closed, legs up, a train up from section 1 to 1, of weight 1.
-- An update of what no railway can have changes nothing. Assumes nothing.
use Rattle.std.specs.Prelude.{Bool, true, false, cond, ◌&&◌, List, ℕ, ltb, get_or, set, replicate}
use Rattle.railway.specs.declared.Side.{Side}
use Rattle.railway.specs.declared.Side.TheVariants.{Up}
use Rattle.railway.specs.declared.End.{End}
use Rattle.railway.specs.declared.End.TheVariants.{Section, Port}
use Rattle.railway.specs.Joined.{Joined, Nothing, With}
use Rattle.railway.specs.declared.Legs.{Legs}
use Rattle.railway.specs.declared.Train.{Train}
use Rattle.railway.specs.declared.Railway.{Railway}
use Rattle.railway.specs.Bounds.{most_sections, most_points, most_trains, least_weight, section_ends, all_ends}
use Rattle.railway.specs.Ends.{port_side, end_index, end_at}

-- WHAT STANDS FOR SOMETHING THAT IS NOT THERE. Legs: up.
abbrev pub no_legs : Legs
no_legs = record { side = Up }

-- A link: the byte that is written for no join, far from every end's.
abbrev pub no_link : ℕ
no_link = 255

-- A train: up, from section 1 to 1, of the least weight.
abbrev pub no_train : Train
no_train = record { heading = Up; start = record { 0 = 0 }; destination = record { 0 = 0 }; weight = least_weight }

-- The record of these counts in which nothing else is said yet.
abbrev pub bare_railway : ℕ → ℕ → ℕ → Railway
bare_railway s p k =
    record {
      sections = s;
      points = p;
      trains = k;
      legs = replicate most_points no_legs;
      links = replicate all_ends no_link;
      signals = replicate section_ends false;
      closed = replicate most_sections false;
      roster = replicate most_trains no_train;
    }

-- The constructor's record. It has no section and no train, so row 3 applies to it.
abbrev pub empty_railway : Railway
empty_railway = bare_railway 0 0 0

-- BYTES FOR ENDS (document 02, Q-4). An end's byte is its index. What a byte says: the end whose byte it is; from the number of all ends on, no join.
unfoldable pub joined_by : ℕ → Joined
joined_by b = cond (ltb b all_ends) (With (end_at b)) Nothing

-- The byte that is written for what is joined.
abbrev pub link_byte : Joined → ℕ
link_byte Nothing = no_link
link_byte (With e) = end_index e

-- ASKED BY INDEX. The join of the end with this index.
abbrev pub link_at : Railway → ℕ → Joined
link_at r i = joined_by (get_or r.links i no_link)

-- Whether a signal stands at the section end with this index.
abbrev pub flag_at : Railway → ℕ → Bool
flag_at r i = get_or r.signals i false

-- Whether the section with this index is closed (document 02, Q-5: under repair).
abbrev pub closed_at : Railway → ℕ → Bool
closed_at r x = get_or r.closed x false

-- ASKED BY NAME. What an end is joined to; nothing at a section end is where the track ends.
unfoldable pub joined : Railway → End → Joined
joined r e = cond (ltb (end_index e) all_ends) (link_at r (end_index e)) Nothing

-- A signal stands at this section end.
unfoldable pub has_signal : Railway → End → Bool
has_signal r e = cond (ltb (end_index e) section_ends) (flag_at r (end_index e)) false

-- This section is closed: who enters it loses.
unfoldable pub is_closed : Railway → ℕ → Bool
is_closed r x = cond (ltb x most_sections) (closed_at r x) false

-- The side of a point's legs.
unfoldable pub legs_of : Railway → ℕ → Side
legs_of r n = cond (ltb n r.points) (get_or r.legs n no_legs).side Up

-- A train's heading, start, destination and weight.
unfoldable pub train_of : Railway → ℕ → Train
train_of r t = cond (ltb t r.trains) (get_or r.roster t no_train) no_train

-- What a move of a train costs (document 02, Q-12).
unfoldable pub weight_of : Railway → ℕ → ℕ
weight_of r t = (train_of r t).weight

-- The side of an end: a section's own, a port's by the legs of its point.
abbrev pub side_of : Railway → End → Side
side_of r (Section n s) = s
side_of r (Port n l) = port_side (legs_of r n.0) l

-- UPDATES. The record with other links.
abbrev pub with_links : Railway → List ℕ → Railway
with_links r links =
    record {
      sections = r.sections;
      points = r.points;
      trains = r.trains;
      legs = r.legs;
      links = links;
      signals = r.signals;
      closed = r.closed;
      roster = r.roster;
    }

-- One direction of a join: the first end's link is the second's byte.
abbrev pub set_link : End → End → List ℕ → List ℕ
set_link a b links = set links (end_index a) (end_index b)

-- A join added, in both directions, where both ends are ends that a railway can have.
unfoldable pub with_join : Railway → End → End → Railway
with_join r a b = cond (ltb (end_index a) all_ends && ltb (end_index b) all_ends) (with_links r (set_link b a (set_link a b r.links))) r

-- A signal added at a section end.
unfoldable pub with_signal : Railway → End → Railway
with_signal r e =
    cond (ltb (end_index e) section_ends)
    (record {
      sections = r.sections;
      points = r.points;
      trains = r.trains;
      legs = r.legs;
      links = r.links;
      signals = set r.signals (end_index e) true;
      closed = r.closed;
      roster = r.roster;
    }) r

-- A section closed.
unfoldable pub with_closed : Railway → ℕ → Railway
with_closed r x =
    cond (ltb x most_sections)
    (record {
      sections = r.sections;
      points = r.points;
      trains = r.trains;
      legs = r.legs;
      links = r.links;
      signals = r.signals;
      closed = set r.closed x true;
      roster = r.roster;
    }) r

-- A point given the side of its legs, by its number.
unfoldable pub with_legs : Railway → ℕ → Side → Railway
with_legs r n side =
    cond (ltb n most_points)
    (record {
      sections = r.sections;
      points = r.points;
      trains = r.trains;
      legs = set r.legs n (record { side = side });
      links = r.links;
      signals = r.signals;
      closed = r.closed;
      roster = r.roster;
    }) r

-- A train, by its number.
unfoldable pub with_train : Railway → ℕ → Train → Railway
with_train r t train =
    cond (ltb t most_trains)
    (record {
      sections = r.sections;
      points = r.points;
      trains = r.trains;
      legs = r.legs;
      links = r.links;
      signals = r.signals;
      closed = r.closed;
      roster = set r.roster t train;
    }) r
