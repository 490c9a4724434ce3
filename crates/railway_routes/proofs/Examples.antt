-- The ways of small yards, by computation: a crossover, a section that is shut, a point that would have to lie both ways, and four points met by every leg.
-- Numbers of sections are the document's less one. Assumes nothing.
use mathlib.Core.Path.{◌≡◌, refl}
use mathlib.Core.Bool.{Bool, false}
use mathlib.Core.List.{[], ◌∷◌, map}
use Prim.Native.Nat.{ℕ, zero, suc, ◌+◌, ◌*◌}
use lib.Dec.{eqb}
use Rattle.railway.specs.declared.Side.TheVariants.{Up, Down}
use Rattle.railway.specs.declared.Leg.TheVariants.{Stem, Plus, Minus}
use Rattle.railway.specs.declared.Railway.{Railway}
use Rattle.railway.specs.Ends.{end_at}
use Rattle.railway.specs.Record.{joined_by, joined, with_join}
use Rattle.railway.specs.Yards.{yard_h, line_j, sec, port}
use Rattle.railway_routes.specs.Routes.{Way, routes, routes_from, reached_by}

abbrev way : ℕ → ℕ → ℕ → Way
way care want to = record { care = care; want = want; to = to }

abbrev nothing : ℕ → Bool
nothing x = false

-- A CROSSOVER: 1 leads over point 1 straight on to 2, and 3 over point 2 to 4; by both minus legs one comes from 1 to 4.
abbrev crossover : Railway
crossover =
    line_j (sec 1 Up) (port 1 Stem)
    (line_j (port 1 Plus) (sec 2 Down)
    (line_j (port 1 Minus) (port 2 Minus) (line_j (port 2 Plus) (sec 3 Up) (line_j (port 2 Stem) (sec 4 Down) (yard_h 4 2 1)))))

-- from 1u: both at minus to 4, or point 1 at plus to 2
from_one : routes_from crossover nothing (sec 1 Up) ≡ way 3 0 3 ∷ way 1 1 1 ∷ []
unfolding routes_from routes joined joined_by end_at with_join
from_one = refl

-- from 2d: point 1 at plus, to 1
from-two : routes_from crossover nothing (sec 2 Down) ≡ way 1 1 0 ∷ []
unfolding routes_from routes joined joined_by end_at with_join
from-two = refl

-- from 4d: both at minus to 1, or point 2 at plus to 3
from-four : routes_from crossover nothing (sec 4 Down) ≡ way 3 0 0 ∷ way 2 2 2 ∷ []
unfolding routes_from routes joined joined_by end_at with_join
from-four = refl

-- from 1u with 4 shut: only the way to 2
four-shut : routes_from crossover (eqb 3) (sec 1 Up) ≡ way 1 1 1 ∷ []
unfolding routes_from routes joined joined_by end_at with_join
four-shut = refl

-- of four settings of the points, by their bits: with point 1 at minus and point 2 at plus a train from 1u derails
by_bits : map (λ b. reached_by b (routes_from crossover nothing (sec 1 Up))) (0 ∷ 1 ∷ 2 ∷ 3 ∷ []) ≡ (3 ∷ []) ∷ (1 ∷ []) ∷ [] ∷ (1 ∷ []) ∷ []
unfolding routes_from routes joined joined_by end_at with_join reached_by
by_bits = refl

-- ONE POINT BOTH WAYS: point 1's minus leg leads to point 2's stem, and point 2's plus leg back to point 1's plus leg. No train comes that way round.
abbrev back : Railway
back = line_j (sec 1 Up) (port 1 Stem) (line_j (port 1 Minus) (port 2 Stem) (line_j (port 2 Minus) (sec 2 Down) (line_j (port 2 Plus) (port 1 Plus) (yard_h 2 2 1))))

both_ways : routes_from back nothing (sec 1 Up) ≡ way 3 0 1 ∷ []
unfolding routes_from routes joined joined_by end_at with_join
both_ways = refl

-- FOUR POINTS BY EVERY LEG: behind point 1 come 2 and 3, behind those 4 to 7, then 8 to 15, and then sections 2 to 17; minus first
inner : ℕ → Railway → Railway
inner zero r = r
inner (suc n) r = inner n (line_j (port (suc n) Minus) (port (2 * suc n) Stem) (line_j (port (suc n) Plus) (port (2 * suc n + 1) Stem) r))

outer : ℕ → Railway → Railway
outer zero r = r
outer (suc n) r = outer n (line_j (port (8 + n) Minus) (sec (2 + 2 * n) Down) (line_j (port (8 + n) Plus) (sec (3 + 2 * n) Down) r))

fan : Railway
fan = line_j (sec 1 Up) (port 1 Stem) (inner 7 (outer 8 (yard_h 17 15 1)))

sixteen : map (λ (w : Way). w.to) (routes_from fan nothing (sec 1 Up))
    ≡ 1 ∷ 2 ∷ 3 ∷ 4 ∷ 5 ∷ 6 ∷ 7 ∷ 8 ∷ 9 ∷ 10 ∷ 11 ∷ 12 ∷ 13 ∷ 14 ∷ 15 ∷ 16 ∷ []
unfolding routes_from routes joined joined_by end_at with_join fan inner outer
sixteen = refl

-- the last of them: points 1, 3, 7 and 15 at plus
the_last : reached_by 16453 (routes_from fan nothing (sec 1 Up)) ≡ 16 ∷ []
unfolding routes_from routes joined joined_by end_at with_join reached_by fan inner outer
the_last = refl
