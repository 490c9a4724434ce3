-- Runs by computation, in Yard A, in the line whose middle section is closed, and in a line of four sections with a point at each end of it: who enters which section, with the points so. No
-- theorem rests on these; they show what the definitions say. Assumes nothing.
use mathlib.Core.Path.{refl}
use mathlib.Core.Bool.{true, false}
use Prim.Native.Nat.{ℕ}
use native.Mathlib.Omega.{arith}
use lib.Dec.{eqb}
use Rattle.laws.proofs.Bools.{some-none}
use Rattle.railway.specs.declared.Side.TheVariants.{Up, Down}
use Rattle.railway.specs.declared.Leg.TheVariants.{Stem, Plus, Minus}
use Rattle.railway.specs.declared.Railway.{Railway}
use Rattle.railway.specs.Ends.{end_at}
use Rattle.railway.specs.Record.{is_closed, joined_by, joined, has_signal, with_join, with_signal, with_closed, with_legs, with_train}
use Rattle.railway.specs.Passing.{follow, passes, entered}
use Rattle.railway.specs.Yards.{yard_h, line_p, line_j, line_t, sec, port, yard_a}
use Rattle.game.proofs.Examples.{shut_line}
use Rattle.runs.specs.Runs.{Enters, Run, here, further}

-- A way that divides and meets again: from 1 up over the point to 2 or 3, from these on to 4 over the second point. The other way about 4 leads to 2 and 3, too.
abbrev pub parted : Railway
parted =
    line_t 1 Up 1 4
    (line_j (sec 4 Down) (port 2 Stem)
    (line_j (sec 3 Up) (port 2 Minus)
    (line_j (sec 2 Up) (port 2 Plus)
    (line_j (sec 3 Down) (port 1 Minus)
    (line_j (sec 2 Down) (port 1 Plus)
    (line_j (sec 1 Up) (port 1 Stem)
    (line_p 2 Down (line_p 1 Up (yard_h 4 2 1)))))))))

-- YARD A. Up from 2 to 3, with the point at minus, as it has to lie; from 3 down to 1, at plus, and to 2, at minus.
pub up-from-2 : Run yard_a Up 1 2 1
unfolding entered passes follow joined_by joined has_signal is_closed end_at with_join with_signal with_legs with_train
up-from-2 = further (here (omega arith)) (record { plus = λ n. false; comes = refl })

pub down-to-1 : Run yard_a Down 2 0 1
unfolding entered passes follow joined_by joined is_closed end_at with_join with_signal with_legs with_train
down-to-1 = further (here (omega arith)) (record { plus = λ n. true; comes = refl })

pub down-to-2 : Run yard_a Down 2 1 1
unfolding entered passes follow joined_by joined is_closed end_at with_join with_signal with_legs with_train
down-to-2 = further (here (omega arith)) (record { plus = λ n. false; comes = refl })

-- None begins on section 4, which is not there, to itself either.
nothing-from-4 : {n : ℕ} → Run yard_a Up 3 3 n → ⊥
unfolding with_join with_signal with_legs with_train
nothing-from-4 run = go run
  where
    go : {z n : ℕ} → Run yard_a Up 3 z n → ⊥
    go (here l) = omega (arith, l)
    go (further run e) = go run

-- PARTED. Up from 1 by 3 to 4: the first point at minus, then the second, whatever the first does.
pub by-3 : Run parted Up 0 3 2
unfolding entered passes follow joined_by joined is_closed end_at with_join with_signal with_legs with_train
by-3 = further (further (here (omega arith)) (record { plus = λ n. false; comes = refl })) (record { plus = λ n. eqb n 0; comes = refl })

-- THE SHUT LINE. Nothing is entered from 1, up: the closed section is ahead.
nothing-ahead : {z : ℕ} → Enters shut_line Up 0 z → ⊥
unfolding entered passes follow joined_by joined is_closed end_at with_join with_signal with_closed with_legs with_train
nothing-ahead e = some-none e.comes refl

-- Who stands on the closed section leaves it, either way.
pub from-closed : Run shut_line Up 1 2 1 × Run shut_line Down 1 0 1
unfolding entered passes follow joined_by joined is_closed end_at with_join with_signal with_closed with_legs with_train
from-closed = (further (here (omega arith)) (record { plus = λ n. true; comes = refl }), further (here (omega arith)) (record { plus = λ n. true; comes = refl }))
