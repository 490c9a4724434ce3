-- `search_ahead::stands_in` meets its contract. The loop's invariant: no entry before c is n. Assumes nothing.
use native.Mathlib.Omega.{arith}
use mathlib.Core.Path.{sym, ◌∙◌}
use Rattle.search_ahead.specs.Bringing.{stands, none-stands}
use Rattle.search_ahead.proofs.Finding.{others-next}
use Rattle.search_ahead.proofs.stands_in.Goals as goal

pub loop-c-init : goal.loop-c-init
loop-c-init c = λ q l h. absurd (omega arith)

pub returns-then-entry_at-n : goal.returns-then-entry_at-n
returns-then-entry_at-n c =
    stands c.loop-c.c (omega (arith, c.loop-c-test.true))
    (sym c.entry_at.ensures ∙ c.if-entry_at-n.true)

pub loop-c-preserved : goal.loop-c-preserved
loop-c-preserved c = others-next c.args.figures.now c.args.n c.args.from c.loop-c.c _ c.loop-c.invariant c.entry_at.ensures c.if-entry_at-n.false

pub returns : goal.returns
returns c = none-stands (λ q l h. c.loop-c.invariant q l (omega (arith, c.loop-c-test.false)))
