-- What can be promised of program showruns. Nothing of the documents rests on this. Assumes nothing.
use Rattle.std.specs.Prelude.{ℕ}
use Rattle.answer_lines.specs.Input.{WrittenFor}
use Rattle.runs_text.specs.Written.{CaseRuns}

-- There is a case text, no longer than is read, and so many bytes are all that program showruns writes for it.
abbrev pub Shown : ℕ → Type 0
Shown n = WrittenFor CaseRuns n
