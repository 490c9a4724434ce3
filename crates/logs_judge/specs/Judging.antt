-- What the functions behind the comparison of two logs answer. Nothing of document 02 rests on this file. Assumes nothing.
use Rattle.std.specs.Prelude.{Bool, ◌||◌, ℕ, leb}
use Rattle.logs.specs.declared.Entry.{Entry}

-- An entry names a train or a section that is not there, of so many.
abbrev pub lacks : ℕ → ℕ → Entry → Bool
lacks k s e = leb k e.train || leb s e.section
