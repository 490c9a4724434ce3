-- `desk_text::report_text` meets its contract, by the answer to the report.
-- Assumes nothing.
use mathlib.Core.Path.{refl}
use Rattle.desk_calls.specs.Answers.{desk_at}
use Rattle.desk_text.proofs.Said.{refused-said, reply-said}
use Rattle.desk_text.proofs.report_text.Goals as goal

pub returns-in-Ok : goal.returns-in-Ok
returns-in-Ok c =
    reply-said c.args.r _ _ (desk_at c.args.desk) c.args.t c.args.x _ c.report-answer.ensures _ c.in-Ok.is
    c.state_text.ensures

pub returns-in-Err : goal.returns-in-Err
returns-in-Err c =
    reply-said c.args.r _ _ (desk_at c.args.desk) c.args.t c.args.x _ c.report-answer.ensures _ c.in-Err.is
    (refused-said _ _ _ c.in-Err.f _ _ c.refusal_line.ensures)
