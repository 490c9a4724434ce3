-- Moves and plays by computation: one line for each clause of document 01, "A turn", and of document 02, Q-2 (parked trains), Q-5 (closed
-- sections), Q-6 (points joined to points) and Q-12 (weights), and what a way and a choice are handed. No theorem rests on these; they show what the definitions
-- say, where the theorem on whole plays would not notice a slip. Assumes nothing. In Yard A (three sections) placement (a, b) has code
-- (a - 1) + 3 (b - 1): (2, 1) is 1, (3, 1) is 2, (1, 2) is 3, (3, 2) is 5, (1, 3) is 6, (2, 3) is 7. In the crossover (four sections) it has code
-- (a - 1) + 4 (b - 1): (2, 1) is 1, (4, 1) is 3, the start (1, 2) is 4, (4, 2) is 7, (2, 3) is 9, (2, 4) is 13.
use mathlib.Core.Path.{◌≡◌, refl}
use mathlib.Core.Bool.{Bool, true, false, cond, not, ◌&&◌}
use mathlib.Core.List.{List, [], ◌∷◌}
use mathlib.Core.Option.{Option, none, some}
use Prim.Native.Nat.{ℕ}
use native.Mathlib.Omega.{arith}
use lib.Dec.{eqb}
use Rattle.laws.specs.Below.{all_below, any_below, sum_below, list_below, lowest}
use Rattle.railway.specs.declared.Side.TheVariants.{Up, Down}
use Rattle.railway.specs.declared.Leg.TheVariants.{Stem, Plus, Minus}
use Rattle.railway.specs.declared.Railway.{Railway}
use Rattle.railway.specs.Ends.{end_at}
use Rattle.railway.specs.Refusals.{first}
use Rattle.railway.specs.Record.{is_closed, with_closed, joined_by, joined, has_signal, legs_of, train_of, weight_of, with_join, with_signal, with_legs, with_train}
use Rattle.railway.specs.Passing.{follow, passes, entered}
use Rattle.railway.specs.Rows.{weight_row, unknown_row, join_row, loose_row, longer, chain_row, place_row, record_refusal}
use Rattle.game.specs.Game.{derailment, collision, lost, at, Turn, Strategy, Adversary, lost_by_move, standing, play, spent, spent_at}
use Rattle.game.specs.Claim.{Within}
use Rattle.game.specs.Placement.{code_of, sections_in, stands_on, sections_of, start_code, at_home, shared}
use Rattle.game.specs.Setting.{Setting, heads_for, held, free, signal_open, may_move}
use Rattle.game.specs.Moves.{occupied, move_of, game_of}
use Rattle.railway.specs.Yards.{yard_h, line_p, line_j, line_g, line_x, line_t, line_tw, sec, port, yard_a, yard_aless}
use Rattle.railway.proofs.PassingExamples.{crossover, lies}

-- THE YARDS. A loop: up from 1 a train gets back to 1 over the plus leg, and to 2 over the minus leg.
abbrev loop : Railway
loop =
    line_t 2 Up 2 1
    (line_t 1 Up 1 2
    (line_j (sec 2 Down) (port 1 Minus)
    (line_j (sec 1 Down) (port 1 Plus)
    (line_j (sec 1 Up) (port 1 Stem)
    (line_p 1 Up (yard_h 2 1 2))))))

-- Three lines apart from each other: sections 1 to 3 for train 1, 4 to 6 for train 2, 7 to 9 for train 3; a signal at 1u. Train 1 is to go to 2.
-- (a, b, c) has code (a - 1) + 9 (b - 1) + 81 (c - 1): the start (1, 4, 7) is 513, (1, 5, 7) is 522, (2, 5, 7) is 523, (3, 5, 7) is 524.
abbrev lines : Railway
lines =
    line_t 3 Up 7 9
    (line_t 2 Up 4 6
    (line_t 1 Up 1 2
    (line_g (sec 1 Up)
    (line_j (sec 8 Up) (sec 9 Down)
    (line_j (sec 7 Up) (sec 8 Down)
    (line_j (sec 5 Up) (sec 6 Down)
    (line_j (sec 4 Up) (sec 5 Down)
    (line_j (sec 2 Up) (sec 3 Down)
    (line_j (sec 1 Up) (sec 2 Down)
    (yard_h 9 0 3))))))))))

-- One line of three sections: the first train heads up, from 1 to 2, and the second down, from 3 to 1. (2, 3) has code 7, and train 1 is parked there.
abbrev in_the_way : Railway
in_the_way = line_t 2 Down 3 1 (line_t 1 Up 1 2 (line_j (sec 2 Up) (sec 3 Down) (line_j (sec 1 Up) (sec 2 Down) (yard_h 3 0 2))))

-- The line of three sections with the middle one closed: train 1 is to go up from 1 to 3, train 2 down from 3 to 1.
abbrev pub shut_line : Railway
shut_line = line_t 2 Down 3 1 (line_t 1 Up 1 3 (line_x 2 (line_j (sec 2 Up) (sec 3 Down) (line_j (sec 1 Up) (sec 2 Down) (yard_h 3 0 2)))))

-- The loop with section 1 closed, and sections 3 and 4 beside it, on which the trains start and end. (1, 2) has code 4.
abbrev shut_loop : Railway
shut_loop =
    line_t 2 Up 4 3
    (line_t 1 Up 3 4
    (line_x 1
    (line_j (sec 2 Down) (port 1 Minus)
    (line_j (sec 1 Down) (port 1 Plus)
    (line_j (sec 1 Up) (port 1 Stem)
    (line_p 1 Up (yard_h 4 1 2)))))))

yards : (record_refusal yard_a ≡ none) × (record_refusal yard_aless ≡ none) × (record_refusal loop ≡ none) × (record_refusal lines ≡ none) × (record_refusal in_the_way ≡ none)
    × (record_refusal shut_line ≡ none) × (record_refusal shut_loop ≡ none)
    × (start_code yard_a ≡ 7) × (start_code lines ≡ 513) × (start_code crossover ≡ 4) × (sections_of lines 524 ≡ 2 ∷ 4 ∷ 6 ∷ []) × (sections_of in_the_way 7 ≡ 1 ∷ 2 ∷ [])
unfolding record_refusal first weight_row weight_of unknown_row join_row loose_row chain_row longer place_row any_below joined_by
    joined legs_of train_of end_at with_join with_signal with_legs with_train start_code code_of sum_below list_below
    sections_in with_closed is_closed
yards = (refl, refl, refl, refl, refl, refl, refl, refl, refl, refl, refl, refl)

-- Yard A with weights: 5 for train 1, 2 for train 2.
abbrev weighed : Railway
weighed = line_tw 2 Down 3 1 2 (line_tw 1 Up 2 3 5 yard_a)

-- THE SETTINGS. All points at plus and all signals closed; all at minus and closed; all at minus and open.
abbrev plus : Setting
plus = record { plus = λ n. true; is_open = λ i. false }

abbrev shut : Setting
shut = record { plus = λ n. false; is_open = λ i. false }

abbrev wide : Setting
wide = record { plus = λ n. false; is_open = λ i. true }

-- The crossover's points, the first at plus or not, and the second; all signals open.
abbrev laid : Bool → Bool → Setting
laid a b = record { plus = lies a b; is_open = λ i. true }

-- The signal at 1d alone is open.
abbrev first-open : Setting
first-open = record { plus = λ n. false; is_open = λ i. eqb i 0 }

-- WHO MAY MOVE: held by a closed signal, let go by an open one; free without one.
may : (may_move yard_a 7 shut 0 ≡ false) × (may_move yard_a 7 wide 0 ≡ true) × (may_move yard_a 7 shut 1 ≡ true)
    -- on its destination, 1, train 2 may not: with a signal ahead, shut and open, and with none
    × (may_move yard_a 1 shut 1 ≡ false) × (may_move yard_a 1 wide 1 ≡ false) × (may_move yard_aless 1 shut 1 ≡ false)
    -- there it counts as having no signal, and is not free; on 2 it has none, and is
    × (held yard_a 1 1 ≡ false) × (free yard_a 1 1 ≡ false) × (held yard_a 3 1 ≡ false) × (free yard_a 3 1 ≡ true)
unfolding may_move free held signal_open heads_for stands_on sections_in train_of has_signal with_join with_signal with_legs with_train
may = (refl, refl, refl, refl, refl, refl, refl, refl, refl, refl)

-- MOVES
moves :  -- from the stem, the point at plus and at minus
    (move_of yard_a 7 plus 1 ≡ at 1) × (move_of yard_a 6 shut 1 ≡ at 3)
    -- from either leg, the point lying for it
    × (move_of yard_a 3 plus 0 ≡ at 5) × (move_of yard_a 1 shut 0 ≡ at 2)
    -- from a leg that the point does not lie for; where the track ends
    × (move_of yard_a 3 shut 0 ≡ lost derailment) × (move_of yard_a 7 plus 0 ≡ lost derailment) × (move_of yard_a 1 plus 1 ≡ lost derailment)
    -- onto another train, also one that is parked; round the loop
    × (move_of yard_a 7 shut 1 ≡ lost collision) × (move_of in_the_way 7 shut 1 ≡ lost collision) × (move_of loop 2 shut 0 ≡ lost collision) × (move_of loop 2 plus 0 ≡ at 2)
    -- into a closed section, free and with another train on it; round into the train's own; from one, to a free section and to one with a train
    × (move_of shut_line 6 shut 0 ≡ lost derailment) × (move_of shut_line 3 shut 0 ≡ lost derailment) × (move_of shut_loop 4 plus 0 ≡ lost derailment)
    × (move_of shut_line 1 shut 0 ≡ at 2) × (move_of shut_line 7 shut 0 ≡ lost collision) × (move_of shut_loop 8 shut 0 ≡ at 9)
    -- over the crossover up from 1: across, derailed at the second point, straight on into the other train
    × (move_of crossover 4 (laid false false) 0 ≡ at 7) × (move_of crossover 4 (laid false true) 0 ≡ lost derailment) × (move_of crossover 4 (laid true false) 0 ≡ lost collision)
    -- and down from 4: across, derailed at the other point, straight on; down from 2, train 1 having gone across
    × (move_of crossover 13 (laid false false) 1 ≡ at 1) × (move_of crossover 13 (laid true false) 1 ≡ lost derailment) × (move_of crossover 13 (laid false true) 1 ≡ at 9)
    × (move_of crossover 7 (laid true false) 1 ≡ at 3)
unfolding move_of passes follow occupied heads_for stands_on sections_in code_of sum_below train_of end_at joined_by joined any_below with_join with_signal with_closed with_legs with_train entered is_closed
moves = (refl, refl, refl, refl, refl, refl, refl, refl, refl, refl, refl, refl, refl, refl, refl, refl, refl, refl, refl, refl, refl, refl, refl, refl)

-- PLAYS
abbrev turned : ℕ → Setting → Option ℕ → Turn Setting
turned p s m = record { placement = p; setting = s; moved = m }

-- at (2, 3) the point at plus; elsewhere at minus, and open
abbrev by-placement : Strategy Setting
by-placement h p = cond (eqb p 7) plus wide

abbrev always : Setting → Strategy Setting
always s h p = s

abbrev names : ℕ → Adversary Setting
names t h p s = t

-- the first turn was played from placement p with the signal at 1u closed, and train t moved
abbrev moved-is : ℕ → Option ℕ → Bool
moved-is t none = false
moved-is t (some u) = eqb u t

abbrev first-was : ℕ → ℕ → List (Turn Setting) → Bool
first-was p t [] = false
first-was p t (x ∷ h) = eqb x.placement p && (not (x.setting.is_open 1) && moved-is t x.moved)

-- open, and naming train 1, if in the first turn train 2 left the start; else shut, and naming train 2
abbrev by_first : Strategy Setting
by_first h p = cond (first-was 513 1 h) wide shut

abbrev names-by-first : Adversary Setting
names-by-first h p s = cond (first-was 513 1 h) 0 1

-- in the crossover: its first point at plus or not, the second at minus, and the signal at one end open, that at 1u (index 1) or that at 2d (2); the first
-- at minus and 1u open while train 1 is at 1, then at plus and 2d open
abbrev one_open : Bool → ℕ → Setting
one_open a e = record { plus = lies a false; is_open = λ i. eqb i e }

abbrev across : Strategy Setting
across h p = cond (eqb p 4) (one_open false 1) (one_open true 2)

plays :  -- home in two turns, a setting for each anew; there the play has ended
    (play (game_of yard_a) by-placement (λ h p s. cond (eqb p 7) 1 0) 7 2 ≡ standing (turned 7 plus (some 1) ∷ turned 1 wide (some 0) ∷ []) 2)
    × (play (game_of yard_a) by-placement (λ h p s. cond (eqb p 7) 1 0) 7 4 ≡ standing (turned 7 plus (some 1) ∷ turned 1 wide (some 0) ∷ []) 2)
    -- of two that may, the one that is named
    × (play (game_of lines) (always shut) (names 1) 513 1 ≡ standing (turned 513 shut (some 1) ∷ []) 522)
    × (play (game_of lines) (always shut) (names 2) 513 1 ≡ standing (turned 513 shut (some 2) ∷ []) 594)
    -- one that may not, or is not there: the lowest that may
    × (play (game_of lines) (always shut) (names 0) 513 1 ≡ standing (turned 513 shut (some 1) ∷ []) 522)
    × (play (game_of lines) (always shut) (names 9) 513 1 ≡ standing (turned 513 shut (some 1) ∷ []) 522)
    -- with everybody held nothing moves, and the turns are played all the same
    × (play (game_of yard_a) (always shut) (names 1) 1 2 ≡ standing (turned 1 shut none ∷ turned 1 shut none ∷ []) 1)
    -- a lost play stays lost; one that starts lost, or at home, has ended
    × (play (game_of yard_a) (always wide) (names 1) 7 3 ≡ lost_by_move)
    × (play (game_of yard_a) (always wide) (names 1) 0 3 ≡ standing [] 0)
    × (play (game_of yard_a) (always wide) (names 1) 2 3 ≡ standing [] 2)
    -- way and choice both look at the oldest turn, at every turn after it; train 1, then parked, is named and stays
    × (play (game_of lines) by_first names-by-first 513 3 ≡ standing (turned 513 shut (some 1) ∷ turned 522 wide (some 0) ∷ turned 523 wide (some 1) ∷ []) 532)
    -- parked from the start on, and named: the lowest that may moves
    × (play (game_of lines) (always wide) (names 0) 523 1 ≡ standing (turned 523 wide (some 1) ∷ []) 532)
    -- parked, and all others held: nothing moves, with a signal open ahead of the parked train or with none
    × (play (game_of yard_a) (always first-open) (names 1) 1 1 ≡ standing (turned 1 first-open none ∷ []) 1)
    × (play (game_of yard_aless) (always shut) (names 1) 1 2 ≡ standing (turned 1 shut none ∷ turned 1 shut none ∷ []) 1)
    -- a train enters its destination and stays there, though it is named again
    × (play (game_of yard_aless) by-placement (names 1) 7 2 ≡ standing (turned 7 plus (some 1) ∷ turned 1 wide (some 0) ∷ []) 2)
    -- into a parked train
    × (play (game_of in_the_way) (always shut) (names 0) 7 1 ≡ lost_by_move)
    -- across, and then straight on over the same point, laid the other way
    × (play (game_of crossover) across (names 0) 4 2 ≡ standing (turned 4 (one_open false 1) (some 0) ∷ turned 7 (one_open true 2) (some 1) ∷ []) 3)
    -- with the points left as they were the other train derails
    × (play (game_of crossover) (always (laid false false)) (names 0) 4 2 ≡ lost_by_move)
unfolding play lowest move_of passes follow occupied may_move free held signal_open heads_for stands_on sections_in code_of
    sum_below train_of end_at joined_by joined has_signal all_below any_below at_home shared with_join with_signal with_legs
    with_train entered is_closed
plays = (refl, refl, refl, refl, refl, refl, refl, refl, refl, refl, refl, refl, refl, refl, refl, refl, refl, refl)

-- WHAT PLAYS COST, in the yard with weights: the weight of the train that moved, though another was named; nothing more once home is reached;
totals : (spent_at (game_of weighed) (play (game_of weighed) by-placement (names 0) 7 2) ≡ 7)
    × (spent_at (game_of weighed) (play (game_of weighed) by-placement (names 0) 7 4) ≡ 7)
    -- an idle turn 1, behind a move and by itself
    × (spent_at (game_of weighed) (play (game_of weighed) (always plus) (names 1) 7 2) ≡ 3)
    × (spent_at (game_of weighed) (play (game_of weighed) (always shut) (names 1) 1 3) ≡ 3)
    -- where no weight is said, the number of turns
    × (spent_at (game_of yard_a) (play (game_of yard_a) by-placement (names 0) 7 2) ≡ 2)
unfolding spent weight_of play lowest move_of passes follow occupied may_move free held signal_open heads_for stands_on
    sections_in code_of sum_below train_of end_at joined_by joined has_signal all_below any_below at_home shared with_join
    with_signal with_legs with_train entered is_closed
totals = (refl, refl, refl, refl, refl)

-- SMALLER BY THE WEIGHT: with a weight of 2 figure 0 is within 2, and figure 1 is not.
by_two : Within 2 2 (some 0) × (Within 2 2 (some 1) → ⊥)
by_two = (omega arith, λ l. omega arith)
