-- A line that a reader reads where it stands, put into a draft that is lent. Contracts cite these definitions; nothing of document 01 rests on this file. Assumes nothing.

use Rattle.std.specs.Prelude.{ℕ, Option, None, Some}
use Rattle.text.specs.Reading.{Got, bad, got}
use Rattle.text.specs.declared.Cursor.{Cursor}
use Rattle.case_draft.specs.declared.Draft.{Draft}

-- The draft as it is left, if the line was in form, with the place behind it.
abbrev pub line_got : Option Cursor → Draft → Got Draft
line_got None d = bad
line_got (Some c) d = got d c.at

-- The same of a reader, which then stands at that place.
abbrev pub walked : {A : Type 0} → Option A → Draft → ℕ → Got Draft
walked None d at = bad
walked (Some x) d at = got d at
