-- The promise of passing, put to use at a crossover: 1 leads over point 1 on to 2, 3 over point 2 on to 4, and the
-- minus legs are joined. With both points at minus a train that leaves 1 comes to 4 and meets 1, then 2; with point 2
-- at plus it derails there. A record with no section is refused with 3, and no passage is told. Each is drawn from one
-- field, of any answer that is promised. Assumes nothing.
use mathlib.Core.Path.{◌≡◌, refl}
use mathlib.Core.List.{[], ◌∷◌}
use mathlib.Core.Option.{none, some}
use Prim.Native.Nat.{ℕ}
use Rattle.laws.specs.Below.{any_below}
use Rattle.railway.specs.declared.Side.TheVariants.{Up, Down}
use Rattle.railway.specs.declared.Leg.TheVariants.{Stem, Plus, Minus}
use Rattle.railway.specs.declared.End.{End}
use Rattle.railway.specs.declared.Railway.{Railway}
use Rattle.railway.specs.declared.Refusal.TheVariants.{Count}
use Rattle.railway.specs.Ends.{end_at}
use Rattle.railway.specs.Refusals.{first, number_given}
use Rattle.railway.specs.Record.{empty_railway, is_closed, joined_by, joined, has_signal, legs_of, train_of, weight_of}
use Rattle.railway.specs.Record.{with_join, with_legs, with_train}
use Rattle.railway.specs.Passing.{follow, passes}
use Rattle.railway.specs.Rows.{weight_row, unknown_row, join_row, loose_row, longer, chain_row, place_row, record_refusal}
use Rattle.railway.specs.Yards.{yard_h, line_p, line_j, line_t, sec, port}
use Rattle.railway_passing.specs.Reached.{Nowhere, Section}
use Rattle.railway_passing.specs.Answers.{padded, Passing, tested, passed, PassPost}

abbrev crossover : Railway
crossover =
    line_t 1 Up 1 4
    (line_j (port 1 Minus) (port 2 Minus)
    (line_j (sec 4 Down) (port 2 Stem)
    (line_j (sec 3 Up) (port 2 Plus)
    (line_j (sec 2 Down) (port 1 Plus)
    (line_j (sec 1 Up) (port 1 Stem)
    (line_p 2 Down
    (line_p 1 Up (yard_h 4 2 1))))))))

taken : record_refusal crossover ≡ none
unfolding record_refusal first weight_row weight_of unknown_row join_row loose_row longer chain_row place_row end_at joined_by
    joined has_signal legs_of train_of with_join with_legs with_train any_below is_closed
taken = refl

over-both : (a : Passing) → PassPost crossover (sec 1 Up) 0 a
    → passed a ≡ record { reached = Section (record { 0 = 3 }); count = 2; points = 0 ∷ 1 ∷ 0 ∷ 0 ∷ [] }
unfolding passes follow end_at joined_by joined with_join with_legs with_train padded
over-both a p = p.accepted taken

derails-last : (a : Passing) → PassPost crossover (sec 1 Up) 2 a
    → passed a ≡ record { reached = Nowhere; count = 2; points = 0 ∷ 1 ∷ 0 ∷ 0 ∷ [] }
unfolding passes follow end_at joined_by joined with_join with_legs with_train padded
derails-last a p = p.accepted taken

refused-three : (a : Passing) (e : End) (b : ℕ) → PassPost empty_railway e b a → number_given (tested a) ≡ some 3
unfolding record_refusal first
refused-three a e b p = p.judged

counted : record_refusal empty_railway ≡ some Count
unfolding record_refusal first
counted = refl

nothing-told : (a : Passing) (e : End) (b : ℕ) → PassPost empty_railway e b a
    → passed a ≡ record { reached = Nowhere; count = 0; points = 0 ∷ 0 ∷ 0 ∷ 0 ∷ [] }
unfolding padded
nothing-told a e b p = p.refused Count counted
