-- `solver_rounds::visit_codes` meets its contract. The loop's invariant: what is before the codes below `from` has been visited.
-- Assumes nothing.
use native.Mathlib.Omega.{arith}
use Prim.Native.Nat.{◌+◌}
use Rattle.solver_rounds.specs.Visits.{Ahead}
use Rattle.solver_rounds.proofs.Visits.{visited-less}
use Rattle.solver_rounds.proofs.Loops.{visited-to-next, visited-to-on}
use Rattle.solver_rounds.proofs.Loops.{codes-next, codes-passed, before-one}
use Rattle.solver_rounds.proofs.visit_codes.Goals as goal

pub loop-c-preserved : goal.loop-c-preserved
loop-c-preserved c =
    let x = c.in-Some.ensures in
    visited-to-next
    (visited-to-on c.loop-c.invariant {j = c.in-Some.c}
    (λ r d s o q k. codes-passed s (omega (arith, x.within, c.requires.2, o.counted)) (omega (arith, c.if-n-w.false)) x.passed k))
    {j = c.in-Some.c + 1}
    c.visit_before.auto.figures c.visit_before.auto.settings c.visit_before.auto.marks
    (λ r d h o.
    visited-less (c.visit_before.ensures r d o)
    {U = Ahead r c.args.this.now.n c.args.w c.loop-c.figures c.in-Some.c (c.in-Some.c + 1)}
    (λ q lq k. before-one c.in-Some.c k))
    (λ r d h s o q lq k. codes-next s c.in-Some.c (omega (arith, x.within, c.requires.2, o.counted)) k)

pub returns : goal.returns
returns c =
    λ r d o.
    let s = c.loop-c.invariant.visited r d tt o in
    visited-less s (λ q l k. codes-passed s (omega (arith, c.requires.2, o.counted)) (omega (arith, c.if-n-w.false)) c.in_default.ensures k)
