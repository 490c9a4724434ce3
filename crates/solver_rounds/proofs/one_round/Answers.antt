-- `solver_rounds::one_round` meets its contract. The loop's invariant: the weights of the trains before t have had their turn.
-- Assumes nothing.
use native.Mathlib.Omega.{arith}
use Rattle.solver_rounds.proofs.Rounds.{round-next, round-end}
use Rattle.solver_rounds.proofs.one_round.Goals as goal

pub loop-t-preserved : goal.loop-t-preserved
loop-t-preserved c =
    round-next c.loop-t.invariant
    c.round_by.auto.figures c.round_by.auto.settings c.round_by.auto.marks
    c.round_by.ensures

pub returns : goal.returns
returns c =
    let on = c.next_round.ensures.0 (omega (arith, c.requires.2)) in (
      on,
      λ r j h laid back em en t marked.
          round-end c.loop-t.invariant _ on
          (λ r h. let z = c.trains_in-t-end.ensures r h in omega (arith, z, c.loop-t-test.false))
          c.next_round.ensures.1 (omega (arith, c.requires.2)) r j
          (c.soon-soon.ensures r h (omega (arith, c.requires.2)))
          h laid back em en t marked,
    )
