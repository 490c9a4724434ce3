-- How long the tables of a program are (document 01, end of "The two tables and the plan": the two programs). Assumes nothing.
use Rattle.std.specs.Prelude.{ℕ}

-- So many entries has each table that a program makes for itself.
abbrev pub entries : ℕ
entries = 8192
