-- Texts of runs by computation: of two trains with runs of 3 and 12; of two of which the second has none; of one that
-- is home. No theorem rests on these; they show what the definitions say. Assumes nothing.
use mathlib.Core.Path.{◌≡◌, refl}
use mathlib.Core.Bool.{cond}
use Prim.Native.Nat.{ℕ}
use lib.Dec.{eqb}
use Rattle.laws.specs.Below.{any_below, sum_below, gather_below}
use Rattle.text.specs.Text.{digits, line, bytes}
use Rattle.runs.specs.Runs.{no_run}
use Rattle.runs_text.specs.Written.{runs_text}

-- the run of the first train, and that of the others
abbrev runs : ℕ → ℕ → ℕ → ℕ
runs a b t = cond (eqb t 0) a b

texts : (runs_text (runs 3 12) 2 ≡ bytes "run\t1\t3\nrun\t2\t12\nleast\t15\n")
    × (runs_text (runs 3 no_run) 2 ≡ bytes "run\t1\t3\nrun\t2\tnone\nnone\n")
    × (runs_text (runs 0 0) 1 ≡ bytes "run\t1\t0\nleast\t0\n")
unfolding gather_below any_below sum_below digits line bytes
texts = (refl, refl, refl)
