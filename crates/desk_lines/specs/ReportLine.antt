-- A line of reports: the train and the section that it names, if it is in form. A type of the library under names of this project. Assumes nothing.
use Rattle.std.specs.Prelude.{ℕ, Option, None, Some}

abbrev pub ReportLine : Type 0
ReportLine = Option (ℕ × ℕ)

pattern abbrev pub NoReport : ReportLine
NoReport = None

pattern abbrev pub Of : ℕ → ℕ → ReportLine
Of a b = Some (a, b)
