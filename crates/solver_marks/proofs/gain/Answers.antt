-- `solver_marks::gain` meets its contract. The loop's invariant: the marks of the trains so far are lowered.
-- Assumes nothing.
use native.Mathlib.Omega.{arith}
use mathlib.Core.Path.{◌≡◌, refl}
use Rattle.railway.specs.Bounds.{most_trains}
use Rattle.solver_marks.proofs.Marks.{none-sooner, one-sooner, marks-raised}
use Rattle.solver_marks.proofs.gain.Goals as goal

pub loop-t-init : goal.loop-t-init
loop-t-init c = λ room small. none-sooner c.args.marks.now c.args.c c.args.soon room small

pub loop-t-preserved : goal.loop-t-preserved
loop-t-preserved c =
    λ room small.
    one-sooner c.args.marks.now c.args.c c.args.soon room small c.loop-t.t _ _ _ c.loop-t-test.true refl c.lower.auto.marks (c.loop-t.invariant room small) c.lower.ensures

pub returns : goal.returns
returns c =
    λ room small.
    let z : c.loop-t.t ≡ most_trains = omega arith in
    marks-raised c.args.marks.now c.args.c c.args.soon room small c.args.n _ _ c.lift.auto.marks (rw z at (c.loop-t.invariant room small)) c.lift.ensures
