-- `desk_io::follow_plan` meets its contract. The loop's invariant: what has been written is all that is written for the lines so far (`Listened`), and the tables are as long as they were. It
-- ends, for its turns are counted.
-- Assumes nothing.
use mathlib.Core.Path.{◌∙◌}
use native.Mathlib.Omega.{arith}
use Rattle.desk_io.proofs.Followed.{listened-opening, listened-next, counted, listened-end}
use Rattle.desk_io.proofs.follow_plan.Goals as goal

pub loop-going-init : goal.loop-going-init
loop-going-init c = (listened-opening _ _ _ _ _ _ c.open-start.ensures, c.requires.0, c.requires.1)

pub returns-then-turns-ge-TURNS : goal.returns-then-turns-ge-TURNS
returns-then-turns-ge-TURNS c = listened-end _ _ _ _ _ _ _ c.loop-going.invariant.0

pub turn-next-requires : goal.turn-next-requires
turn-next-requires c = let i = c.loop-going.invariant in (i.1, i.2)

pub overflow_add-bytes : goal.overflow_add-bytes
overflow_add-bytes c =
    let b =
    counted _ _ _ _ _ _ _ c.loop-going.invariant.0 c.loop-going-test.true _ _ _ c.turn-next.ensures c.if-turns-ge-TURNS.false in
    omega (arith, b)

pub overflow_add-turns : goal.overflow_add-turns
overflow_add-turns c = omega (arith, c.if-turns-ge-TURNS.false)

pub loop-going-smaller : goal.loop-going-smaller
loop-going-smaller c = omega (arith, c.if-turns-ge-TURNS.false)

pub loop-going-preserved : goal.loop-going-preserved
loop-going-preserved c =
    let n = c.loop-going.invariant in (
      listened-next _ _ _ _ _ _ _ n.0 c.loop-going-test.true _ _ _ c.turn-next.ensures,
      c.turn-next.auto.figures ∙ n.1,
      c.turn-next.auto.settings ∙ n.2,
    )

pub returns : goal.returns
returns c = listened-end _ _ _ _ _ _ _ c.loop-going.invariant.0
