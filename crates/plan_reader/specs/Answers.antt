-- The answer to a text that is handed in as a line (document 01, "The two tables and the plan": lines handed to the checker).
-- Assumes nothing.
use Rattle.std.proofs.Math.Option.{Option, none, some}
use Rattle.railway.specs.declared.Railway.{Railway}
use Rattle.plan.specs.Lines.{PlanLine, start_line, placement_line, line_code}
use Rattle.plan.specs.Checker.{line_entry}
use Rattle.plan_reader.specs.LineRead.{LineRead, NoLine, Start, Placed}

-- The answer for the line that a text spells: the first line's figure; or the code, the figure and the entry that the checker puts into its
-- tables. For a text that spells none: that it is no line.
abbrev pub answer_for : Railway → Option PlanLine → LineRead
answer_for r none = NoLine
answer_for r (some (start_line n)) = Start n
answer_for r (some (placement_line d)) = Placed (line_code r d) d.figure (line_entry r d)
