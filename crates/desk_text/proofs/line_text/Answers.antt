-- `desk_text::line_text` meets its contract, by what the line is read as.
-- Assumes nothing.
use mathlib.Core.Path.{sym, ◌∙◌, ap}
use Rattle.railway.specs.declared.Refusal.TheVariants.{Report}
use Rattle.desk_calls.specs.Answers.{desk_at}
use Rattle.desk_lines.specs.Reports.{report_read}
use Rattle.desk_text.proofs.Said.{refused-said, line-said, report-said}
use Rattle.desk_text.proofs.line_text.Goals as goal

pub returns-in-None : goal.returns-in-None
returns-in-None c =
    line-said c.args.r _ _ (desk_at c.args.desk) _ _ (sym (ap report_read c.in-None.is) ∙ c.report_in.ensures)
    (refused-said _ _ _ Report (desk_at c.args.desk) _ c.refusal_line.ensures)

pub returns-in-Some : goal.returns-in-Some
returns-in-Some c =
    line-said c.args.r _ _ (desk_at c.args.desk) _ _ (sym (ap report_read c.in-Some.is) ∙ c.report_in.ensures)
    (report-said c.args.r _ _ (desk_at c.args.desk) (record { train = c.in-Some.t; section = c.in-Some.x }) _
    _ c.place_of.ensures c.place_of-in-Some.ensures c.report_text.ensures)
