-- `search_ahead::Look::brings_by` meets its contract: a lower train has the weight, or each stretch is looked at that is due by it.
-- The loop's invariant: nothing gains that is before one of the codes below c. Assumes nothing.
use native.Mathlib.Omega.{arith}
use mathlib.Core.Path.{sym, ◌∙◌}
use Rattle.laws.proofs.Bools.{clash}
use Rattle.solver_rounds.specs.Visits.{Apart}
use Rattle.solver_rounds.proofs.Loops.{no-code, codes-less}
use Rattle.search_ahead.proofs.Telling.{told-yes, told-no, told_none, rests-start, rests-next, rests-end}
use Rattle.search_ahead.proofs.Ranges.{codes-part, same-weight, not-due}
use Rattle.search_ahead.proofs.Look.brings_by.Goals as goal

pub returns-then-shares_weight : goal.returns-then-shares_weight
returns-then-shares_weight c = λ r o k runs. told_none (λ q l k. clash (sym (c.shares_weight.ensures r o.compiled) ∙ c.if-shares_weight.true) k.first)

pub loop-c-init : goal.loop-c-init
loop-c-init c = rests-start (λ r q k. no-code k)

pub returns-then-brings_in : goal.returns-then-brings_in
returns-then-brings_in c = λ r o k runs. told-yes (c.brings_in.ensures r o c.stretch_end-upto.ensures.1) c.if-brings_in.true

pub loop-c-smaller-else-brings_in : goal.loop-c-smaller-else-brings_in
loop-c-smaller-else-brings_in c = omega (arith, c.loop-c-test.true, c.stretch_end-upto.ensures.0, c.stretch_end-upto.ensures.1)

pub loop-c-preserved-else-brings_in : goal.loop-c-preserved-else-brings_in
loop-c-preserved-else-brings_in c =
    rests-next c.loop-c.invariant
    (λ r g q lq k.
    told-no (c.brings_in.ensures r g.0 c.stretch_end-upto.ensures.1) c.if-brings_in.false q lq
    (same-weight (c.weight_in-w.ensures r g.0.compiled) k))
    (λ r g q lq k. codes-part c.loop-c.c k)

pub loop-c-smaller : goal.loop-c-smaller
loop-c-smaller c = omega (arith, c.loop-c-test.true, c.stretch_end-upto.ensures.0, c.stretch_end-upto.ensures.1)

pub loop-c-preserved : goal.loop-c-preserved
loop-c-preserved c =
    rests-next c.loop-c.invariant
    (λ r g q lq k.
    absurd (not-due g.1 c.args.t g.2 g.3 _ (omega (arith, c.stretch_end-upto.ensures.1, g.0.counted))
    c.stretch_end-upto.ensures.2
    c.due_at.ensures c.if-due_at-self.false k))
    (λ r g q lq k. codes-part c.loop-c.c k)

pub returns : goal.returns
returns c =
    λ r o k runs.
    rests-end c.loop-c.invariant {End = λ r. Apart r c.args.self.now.n c.args.self.now.figures.now 0 c.args.self.now.m c.args.t}
    (λ r g q lq k. codes-less c.loop-c-test.false k.ahead) r
    (o, k, runs, sym (c.shares_weight.ensures r o.compiled) ∙ c.if-shares_weight.false)
