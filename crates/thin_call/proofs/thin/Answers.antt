-- `thin_call::thin` meets its contract, by the answer of the test: refused with it, or the setting table is thinned. What the test passes is not refused as a record.
-- Assumes nothing.
use mathlib.Core.Path.{refl}
use Rattle.std.proofs.lemmas.Result.{err_from_is_err_and}
use Rattle.plan_checker.specs.Answers.{checking}
use Rattle.thin_call.proofs.Passes.{thin-refused, thin-accepted, thin-enough, thin-done, not_compiled}
use Rattle.thin_call.proofs.thin.Goals as goal

pub returns-in_err-test : goal.returns-in_err-test
returns-in_err-test c =
    let p = err_from_is_err_and c.from_residual.result c.from_residual.ensures.1 in
    rw (p.1, p.2)
    (thin-refused c.args.r (checking c.args.checker.now c.args.figures.now c.args.settings.now) _ _ c.in_err-test.ensures _ refl _ _ refl refl
    refl refl)

pub returns-in_err-table : goal.returns-in_err-table
returns-in_err-table c =
    not_compiled c.args.r (checking c.args.checker.now c.args.figures.now c.args.settings.now) _ _ c.in_ok-test.ensures refl _ c.in_err-table.ensures

pub returns : goal.returns
returns c =
    let k = checking c.args.checker.now c.args.figures.now c.args.settings.now in
    thin-done c.args.r k _ _ c.in_ok-test.ensures refl _ _ refl refl refl
    (c.thin_table.ensures c.args.r
    (c.in_ok-table.ensures.accepted (thin-accepted c.args.r k _ _ c.in_ok-test.ensures refl))
    (thin-enough c.args.r k _ _ c.in_ok-test.ensures refl))
