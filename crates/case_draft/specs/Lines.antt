-- The draft that lines in form gave, and the cursor behind them. A type of the library under names of this project. Assumes nothing.
use Rattle.std.specs.Prelude.{Option, None, Some}
use Rattle.text.specs.declared.Cursor.{Cursor}
use Rattle.case_draft.specs.declared.Draft.{Draft}

abbrev pub Lines : Type 0
Lines = Option (Draft × Cursor)

pattern abbrev pub NotInForm : Lines
NotInForm = None

pattern abbrev pub InForm : Draft → Cursor → Lines
InForm d c = Some (d, c)
