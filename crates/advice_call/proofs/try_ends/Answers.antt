-- `advice_call::try_ends` meets its contract. The loop's invariant: no end before index i helps, if none before the first does, and the tables are those of the last case tried. Assumes nothing.
use Rattle.advice_call.proofs.Tries.{trying-next, trying-found, trying-over}
use Rattle.advice_call.proofs.try_ends.Goals as goal

pub returns-then-try_end : goal.returns-then-try_end
returns-then-try_end c =
    trying-found c.args.r c.args.first c.args.figures.now c.args.settings.now c.loop-i.figures
    c.loop-i.settings _ _ c.loop-i.i c.loop-i.invariant c.loop-i-test.true _ c.if-try_end.true
    c.try_end.ensures _ c.side_at.ensures

pub loop-i-preserved : goal.loop-i-preserved
loop-i-preserved c =
    trying-next c.args.r c.args.first c.args.figures.now c.args.settings.now c.loop-i.figures
    c.loop-i.settings _ _ c.loop-i.i c.loop-i.invariant c.loop-i-test.true _ c.if-try_end.false c.try_end.ensures
    c.try_end.auto.figures c.try_end.auto.settings

pub returns : goal.returns
returns c =
    trying-over c.args.r c.args.first c.args.figures.now c.args.settings.now c.loop-i.figures
    c.loop-i.settings c.loop-i.i c.loop-i.invariant c.loop-i-test.false
