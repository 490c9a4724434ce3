-- What can be promised of program signalplan. Nothing of document 01 rests on this. Assumes nothing.
use Rattle.std.specs.Prelude.{ℕ}
use Rattle.answer_lines.specs.Input.{WrittenFor}
use Rattle.plan_text.specs.Written.{CaseOutput}

-- There is a case text, no longer than is read, and so many bytes are all that program signalplan writes for it.
abbrev pub Planned : ℕ → Type 0
Planned n = WrittenFor CaseOutput n
