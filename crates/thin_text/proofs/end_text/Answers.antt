-- `thin_text::end_text` meets its contract: bytes are left, the plan is refused, or it is thinned and written.
-- Assumes nothing.
use mathlib.Core.Path.{refl}
use native.Mathlib.Omega.{arith}
use Rattle.thin_text.proofs.Lean.{thinned-listable, left-put, thin-put-refused, thin-put}
use Rattle.thin_text.proofs.end_text.Goals as goal

pub returns-then-rest-gt0 : goal.returns-then-rest-gt0
returns-then-rest-gt0 c = left-put _ _ _ _ _ c.args.rest.now c.if-rest-gt0.true _ c.finish-answer.ensures c.test_line.ensures

pub returns-in-Err : goal.returns-in-Err
returns-in-Err c =
    thin-put-refused _ _ _ _ _ c.args.rest.now c.if-rest-gt0.false _ _ c.in-Err.ensures c.requires
    (λ i. omega (arith, c.type_inv.figures i)) _ refl c.refusal_line.ensures

pub returns-in-Ok : goal.returns-in-Ok
returns-in-Ok c =
    let s = thinned-listable _ _ _ _ c.in-Ok.ensures refl c.requires (λ i. omega (arith, c.type_inv.figures i)) in
    thin-put _ _ _ _ _ c.args.rest.now c.if-rest-gt0.false _ _ c.in-Ok.ensures c.requires
    (λ i. omega (arith, c.type_inv.figures i)) refl s (c.plan_text.ensures s)
