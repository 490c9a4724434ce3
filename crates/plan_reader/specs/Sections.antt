-- The sections of four trains, if they stand there, and the cursor behind them. A type of the library under names of this project. Assumes nothing.
use Rattle.std.specs.Prelude.{Option, None, Some}
use Rattle.text.specs.declared.Cursor.{Cursor}
use Rattle.game_placement.specs.declared.Placement.{Placement}

abbrev pub Sections : Type 0
Sections = Option (Placement × Cursor)

pattern abbrev pub NoSections : Sections
NoSections = None

pattern abbrev pub SectionsAre : Placement → Cursor → Sections
SectionsAre q c = Some (q, c)
