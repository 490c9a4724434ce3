-- The yards of document 01, "Yards to try", as records, line by line. That each is what its case text says is stated with the case file.
-- Assumes nothing.
use Rattle.std.specs.Prelude.{ℕ, ◌-◌}
use Rattle.railway.specs.declared.Side.{Side}
use Rattle.railway.specs.declared.Side.TheVariants.{Up, Down}
use Rattle.railway.specs.declared.Leg.{Leg}
use Rattle.railway.specs.declared.Leg.TheVariants.{Stem, Plus, Minus}
use Rattle.railway.specs.declared.End.{End}
use Rattle.railway.specs.declared.End.TheVariants.{Section, Port}
use Rattle.railway.specs.declared.Railway.{Railway}
use Rattle.railway.specs.Record.{bare_railway, with_join, with_signal, with_closed, with_legs, with_train}

-- The H line: the counts, nothing else there yet. Numbers are the document's; each line below is added to the record that stands behind it.
abbrev pub yard_h : ℕ → ℕ → ℕ → Railway
yard_h s p k = bare_railway s p k

-- A P line: the side of a point's legs.
abbrev pub line_p : ℕ → Side → Railway → Railway
line_p n side r = with_legs r (n - 1) side

-- A J line: a join of two ends.
abbrev pub line_j : End → End → Railway → Railway
line_j a b r = with_join r a b

-- A G line: a signal at a section end.
abbrev pub line_g : End → Railway → Railway
line_g e r = with_signal r e

-- An X line: the section, closed.
abbrev pub line_x : ℕ → Railway → Railway
line_x n r = with_closed r (n - 1)

-- A T line with a weight: a train's heading, start, destination and weight.
abbrev pub line_tw : ℕ → Side → ℕ → ℕ → ℕ → Railway → Railway
line_tw t heading a b w r = with_train r (t - 1) (record { heading = heading; start = record { 0 = a - 1 }; destination = record { 0 = b - 1 }; weight = w })

-- A T line without one: the weight is 1.
abbrev pub line_t : ℕ → Side → ℕ → ℕ → Railway → Railway
line_t t heading a b r = line_tw t heading a b 1 r

-- A section end, by the number of its section.
abbrev pub sec : ℕ → Side → End
sec n s = Section (record { 0 = n - 1 }) s

-- A point's port, by the number of its point.
abbrev pub port : ℕ → Leg → End
port n l = Port (record { 0 = n - 1 }) l

-- Yard A with its signal at 1d taken away.
abbrev pub yard_aless : Railway
yard_aless =
    line_t 2 Down 3 1
    (line_t 1 Up 2 3
    (line_g (sec 2 Up)
    (line_j (sec 3 Down) (port 1 Stem)
    (line_j (sec 2 Up) (port 1 Minus)
    (line_j (sec 1 Up) (port 1 Plus)
    (line_p 1 Down (yard_h 3 1 2)))))))

-- Yard A.
abbrev pub yard_a : Railway
yard_a = line_g (sec 1 Down) yard_aless

-- One section, and one train that starts at home; it heads up.
abbrev pub yard_one : Railway
yard_one = line_t 1 Up 1 1 (yard_h 1 0 1)

-- The same for a train that heads down.
abbrev pub yard_one_down : Railway
yard_one_down = line_t 1 Down 1 1 (yard_h 1 0 1)

-- Two sections, joined 1u to 2d, for k trains.
abbrev pub yard_two : ℕ → Railway
yard_two k = line_j (sec 1 Up) (sec 2 Down) (yard_h 2 0 k)

-- There, without signals: a train that heads up, from 1 for 2.
abbrev pub up_one_two : Railway
up_one_two = line_t 1 Up 1 2 (yard_two 1)

-- The other way about: a train that heads up, from 2 for 1.
abbrev pub up_two_one : Railway
up_two_one = line_t 1 Up 2 1 (yard_two 1)

-- The same, the train held by a signal at 2u.
abbrev pub up_two_one_held : Railway
up_two_one_held = line_g (sec 2 Up) up_two_one

-- Two trains head on, each bound for the other's start, a signal before each.
abbrev pub head_on : Railway
head_on = line_t 2 Down 2 1 (line_t 1 Up 1 2 (line_g (sec 2 Down) (line_g (sec 1 Up) (yard_two 2))))
