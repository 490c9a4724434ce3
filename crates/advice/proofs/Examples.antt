-- Small values of the definitions, by computation: which ends are tried, the last of them, and whose the tables are. Assumes nothing.
use mathlib.Core.Path.{◌≡◌, refl}
use mathlib.Core.Bool.{Bool, true, false}
use mathlib.Core.List.{List, [], ◌∷◌}
use mathlib.Core.Option.{none, some}
use Rattle.laws.specs.Below.{list_below}
use Rattle.railway.specs.declared.Side.TheVariants.{Up, Down}
use Rattle.railway.specs.declared.Leg.TheVariants.{Stem, Plus, Minus}
use Rattle.railway.specs.declared.Railway.{Railway}
use Rattle.railway.specs.declared.Refusal.TheVariants.{Space}
use Rattle.railway.specs.Ends.{end_index, end_at}
use Rattle.railway.specs.Record.{with_join, with_signal, with_closed, with_legs, with_train}
use Rattle.railway.specs.Yards.{yard_a, head_on, line_p, line_g, line_x, line_t, line_j, yard_h, sec, port}
use Rattle.advice.specs.Advice.{NotNeeded, Signal, NoneHelps, Refused}
use Rattle.advice.specs.Advising.{ends_of, tries, last_tried, last_case, number_said}

-- Three sections in a row; train 1 follows train 2, from 1 to 2 and from 2 to 3, and nothing holds it.
abbrev pub following : Railway
following = line_t 2 Up 2 3 (line_t 1 Up 1 2 (line_j (sec 2 Up) (sec 3 Down) (line_j (sec 1 Up) (sec 2 Down) (yard_h 3 0 2))))

-- Three sections in a ring, the second closed, signals at both ends of the third; train 1 heads up from 3 to 1, and train 2 up from 1 to 3, for which it would have to pass section 2.
abbrev pub closed_ring : Railway
closed_ring =
    line_t 2 Up 1 3 (line_t 1 Up 3 1 (line_x 2 (line_g (sec 3 Up) (line_g (sec 3 Down)
    (line_j (sec 3 Up) (sec 1 Down) (line_j (sec 2 Up) (sec 3 Down) (line_j (sec 1 Up) (sec 2 Down) (yard_h 3 0 2))))))))

-- A single line with a loop in the middle (examples/no-plan.txt): sections 2 and 3 lie side by side between two points,
-- and the trains at both ends have to pass each other there. One signal stands at 1u.
abbrev pub passing_loop : Railway
passing_loop =
    line_t 2 Down 4 1
    (line_t 1 Up 1 4
    (line_g (sec 1 Up)
    (line_j (sec 4 Down) (port 2 Stem)
    (line_j (sec 3 Up) (port 2 Minus)
    (line_j (sec 3 Down) (port 1 Minus)
    (line_j (sec 2 Up) (port 2 Plus)
    (line_j (sec 2 Down) (port 1 Plus)
    (line_j (sec 1 Up) (port 1 Stem)
    (line_p 2 Down (line_p 1 Up (yard_h 4 2 2)))))))))))

-- Two sections joined and a signal at each of the four ends.
abbrev pub all_held : Railway
all_held = line_g (sec 1 Down) (line_g (sec 2 Up) head_on)

-- which ends of a case are tried, in order
abbrev tried : Railway → List Bool
tried r = list_below (tries r) (ends_of r)

values :
    (tried yard_a ≡ false ∷ true ∷ true ∷ false ∷ true ∷ true ∷ [])
    × (tried head_on ≡ true ∷ false ∷ false ∷ true ∷ [])
    × (tried closed_ring ≡ true ∷ true ∷ true ∷ true ∷ false ∷ false ∷ [])
    × (tried all_held ≡ false ∷ false ∷ false ∷ false ∷ [])
    × (last_tried yard_a 6 ≡ some 5)
    × (last_tried yard_a 4 ≡ some 2)
    × (last_tried yard_a 1 ≡ none)
    × (last_tried closed_ring 6 ≡ some 3)
    × (last_tried all_held 4 ≡ none)
    × (end_at 2 ≡ sec 2 Down)
    × (end_index (sec 2 Up) ≡ 3)
    × (number_said (Refused Space) ≡ some 9)
    × (number_said NoneHelps ≡ none)
unfolding end_at list_below last_tried with_join with_signal with_closed with_legs with_train
values = (refl, refl, refl, refl, refl, refl, refl, refl, refl, refl, refl, refl, refl)

-- whose the tables are: of the case, of that with a signal at the end named, of that with one at the last end that has none
cases :
    (last_case yard_a NotNeeded ≡ yard_a)
    × (last_case following (Signal (record { 0 = 0 }) Up) ≡ line_g (sec 1 Up) following)
    × (last_case head_on NoneHelps ≡ line_g (sec 2 Up) head_on)
    × (last_case closed_ring NoneHelps ≡ line_g (sec 2 Up) closed_ring)
    × (last_case all_held NoneHelps ≡ all_held)
unfolding end_at last_tried with_join with_signal with_closed with_legs with_train
cases = (refl, refl, refl, refl, refl)
