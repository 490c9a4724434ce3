-- Following a train, by computation: in yards whose points are joined to each other, from the ends of their sections,
-- however the points lie. No theorem rests on these; they show what the definitions say. Points and sections are
-- counted from 0 here, as in the record. Assumes nothing.
use mathlib.Core.Path.{◌≡◌, refl}
use mathlib.Core.Bool.{Bool, true, false, cond}
use mathlib.Core.List.{List, [], ◌∷◌}
use mathlib.Core.Option.{Option, none, some}
use Prim.Native.Nat.{ℕ}
use lib.Dec.{eqb}
use Rattle.laws.specs.Below.{any_below}
use Rattle.railway.specs.declared.Side.TheVariants.{Up, Down}
use Rattle.railway.specs.declared.Leg.TheVariants.{Stem, Plus, Minus}
use Rattle.railway.specs.declared.Railway.{Railway}
use Rattle.railway.specs.Ends.{end_at}
use Rattle.railway.specs.Refusals.{first, number_of}
use Rattle.railway.specs.Record.{is_closed, joined_by, joined, legs_of, train_of, weight_of, with_join, with_signal}
use Rattle.railway.specs.Record.{with_closed, with_legs, with_train}
use Rattle.railway.specs.Passing.{Passage, follow, passes, entered}
use Rattle.railway.specs.Rows.{weight_row, unknown_row, join_row, loose_row, longer, chain_row, place_row}
use Rattle.railway.specs.Rows.{record_refusal}
use Rattle.railway.specs.Yards.{yard_h, line_p, line_j, line_g, line_x, line_t, sec, port}

-- A CROSSOVER. Section 1 leads over point 1 to section 2, section 3 over point 2 to section 4, and the minus legs of
-- the two points are joined. Train 1 is to go up from 1 to 4, train 2 down from 2 to 1; signals hold them.
abbrev pub crossover : Railway
crossover =
    line_t 2 Down 2 1
    (line_t 1 Up 1 4
    (line_g (sec 2 Down)
    (line_g (sec 1 Up)
    (line_j (port 1 Minus) (port 2 Minus)
    (line_j (sec 4 Down) (port 2 Stem)
    (line_j (sec 3 Up) (port 2 Plus)
    (line_j (sec 2 Down) (port 1 Plus)
    (line_j (sec 1 Up) (port 1 Stem)
    (line_p 2 Down (line_p 1 Up (yard_h 4 2 2)))))))))))

-- STAIRS of four points, and of five: by its plus leg each leads on to the next, the last to section 2; the minus legs
-- lead to sections 3 and on.
abbrev four_steps : Railway → Railway
four_steps r =
    line_j (sec 6 Down) (port 4 Minus)
    (line_j (sec 5 Down) (port 3 Minus)
    (line_j (sec 4 Down) (port 2 Minus)
    (line_j (sec 3 Down) (port 1 Minus)
    (line_j (port 3 Plus) (port 4 Stem)
    (line_j (port 2 Plus) (port 3 Stem)
    (line_j (port 1 Plus) (port 2 Stem)
    (line_j (sec 1 Up) (port 1 Stem)
    (line_p 4 Up (line_p 3 Up (line_p 2 Up (line_p 1 Up r)))))))))))

abbrev stairs : Railway
stairs = line_t 1 Up 1 2 (line_j (sec 2 Down) (port 4 Plus) (four_steps (yard_h 6 4 1)))

abbrev long_stairs : Railway
long_stairs =
    line_t 1 Up 1 2
    (line_j (sec 7 Down) (port 5 Minus)
    (line_j (sec 2 Down) (port 5 Plus)
    (line_j (port 4 Plus) (port 5 Stem)
    (four_steps (line_p 5 Up (yard_h 7 5 1))))))

-- Section 2 behind section 1, closed.
abbrev shut : Railway
shut = line_t 1 Up 1 1 (line_x 2 (line_j (sec 1 Up) (sec 2 Down) (yard_h 2 0 1)))

-- the last of them is refused, for its five points
yards : (record_refusal crossover ≡ none) × (record_refusal stairs ≡ none) × (record_refusal shut ≡ none)
    × (number_of (record_refusal long_stairs) ≡ some 13)
unfolding record_refusal first weight_row weight_of unknown_row join_row loose_row chain_row longer place_row any_below joined_by
    joined legs_of train_of end_at with_join with_signal with_closed with_legs with_train is_closed
yards = (refl, refl, refl, refl)

-- THE POINTS of the crossover, the first at plus or not, and the second.
abbrev pub lies : Bool → Bool → ℕ → Bool
lies a b n = cond (eqb n 0) a b

-- the points met, and the section come to
abbrev way : List ℕ → Option ℕ → Passage
way ns x = record { met = ns; reached = x }

over-two :
    -- up from 1: over both points, which lie for it; over the first, and off the track at the second; the first alone
    (passes crossover (lies false false) (sec 1 Up) ≡ way (0 ∷ 1 ∷ []) (some 3))
    × (passes crossover (lies false true) (sec 1 Up) ≡ way (0 ∷ 1 ∷ []) none)
    × (passes crossover (lies true false) (sec 1 Up) ≡ way (0 ∷ []) (some 1))
    × (passes crossover (lies true true) (sec 1 Up) ≡ way (0 ∷ []) (some 1))
    -- down from 4: the same back, and off the track at the other of the two; over the second alone
    × (passes crossover (lies false false) (sec 4 Down) ≡ way (1 ∷ 0 ∷ []) (some 0))
    × (passes crossover (lies true false) (sec 4 Down) ≡ way (1 ∷ 0 ∷ []) none)
    × (passes crossover (lies false true) (sec 4 Down) ≡ way (1 ∷ []) (some 2))
    -- from 2 and from 3, where a plus leg is entered: through, or off the track at the only point met
    × (passes crossover (lies true false) (sec 2 Down) ≡ way (0 ∷ []) (some 0))
    × (passes crossover (lies false false) (sec 2 Down) ≡ way (0 ∷ []) none)
    × (passes crossover (lies false true) (sec 3 Up) ≡ way (1 ∷ []) (some 3))
    × (passes crossover (lies true false) (sec 3 Up) ≡ way (1 ∷ []) none)
    -- where the track ends
    × (passes crossover (lies true true) (sec 1 Down) ≡ way [] none)
unfolding passes follow joined_by joined end_at with_join with_signal with_legs with_train
over-two = (refl, refl, refl, refl, refl, refl, refl, refl, refl, refl, refl, refl)

over-more :  -- four points are passed, up and down; one of them lies otherwise
    (passes stairs (λ n. true) (sec 1 Up) ≡ way (0 ∷ 1 ∷ 2 ∷ 3 ∷ []) (some 1))
    × (passes stairs (λ n. true) (sec 2 Down) ≡ way (3 ∷ 2 ∷ 1 ∷ 0 ∷ []) (some 0))
    × (passes stairs (λ n. eqb n 0) (sec 1 Up) ≡ way (0 ∷ 1 ∷ []) (some 3))
    × (passes stairs (λ n. eqb n 3) (sec 2 Down) ≡ way (3 ∷ 2 ∷ []) none)
    -- a fifth is not: the train is followed no further
    × (passes long_stairs (λ n. true) (sec 1 Up) ≡ way (0 ∷ 1 ∷ 2 ∷ 3 ∷ []) none)
unfolding passes follow joined_by joined end_at with_join with_signal with_legs with_train
over-more = (refl, refl, refl, refl, refl)

-- ENTERING what is come to: not if it is closed
entering : (passes shut (λ n. true) (sec 1 Up) ≡ way [] (some 1)) × (entered shut (λ n. true) (sec 1 Up) ≡ none)
    × (entered shut (λ n. true) (sec 2 Down) ≡ some 0)
    × (entered crossover (lies false false) (sec 1 Up) ≡ some 3)
    × (entered crossover (lies false true) (sec 1 Up) ≡ none)
unfolding entered passes follow joined_by joined is_closed end_at with_join with_signal with_closed with_legs with_train
entering = (refl, refl, refl, refl, refl)
