-- `desk_lines::report_in` meets its contract: each field is read where the one before it ends, and the first that is not in form ends the reading.
-- Assumes nothing.
use mathlib.Core.Path.{sym}
use Rattle.desk_lines.proofs.Reports.{no-train, no-tab, no-section, more-behind, a-report}
use Rattle.desk_lines.proofs.report_in.Goals as goal

pub returns-in_err-t : goal.returns-in_err-t
returns-in_err-t c = rw c.from_residual.ensures (no-train _ (sym (c.in_err-t.ensures)))

pub returns-in_err-field : goal.returns-in_err-field
returns-in_err-field c = rw c.from_residual-in_err-field.ensures (no-tab _ _ _ (sym c.in_ok-t.ensures) _ c.byte_at.ensures (c.in_err-field.was))

pub returns-in_err-x : goal.returns-in_err-x
returns-in_err-x c =
    rw c.from_residual-in_err-x.ensures
    (no-section _ _ _ (sym c.in_ok-t.ensures) _ c.byte_at.ensures _ c.in_ok-field.was (sym (c.in_err-x.ensures)))

pub returns-then-end-line : goal.returns-then-end-line
returns-then-end-line c =
    more-behind _ _ _ (sym c.in_ok-t.ensures) _ c.byte_at.ensures _ c.in_ok-field.was _ _ (sym c.in_ok-x.ensures) c.if-end-line.true

pub returns : goal.returns
returns c =
    a-report _ _ _ (sym c.in_ok-t.ensures) _ c.byte_at.ensures _ c.in_ok-field.was _ _ (sym c.in_ok-x.ensures) c.if-end-line.false
