-- Records of one railway are judged, written and solved alike, and so are records that differ only in bytes for no join (document 02, Q-4).
-- Assumes nothing.
use Rattle.std.specs.Prelude.{◌≡◌, List, ℕ}
use Rattle.railway.specs.declared.Railway.{Railway}
use Rattle.railway.specs.Rows.{record_refusal}
use Rattle.railway.specs.Same.{SameRailway, SameButForNone}
use Rattle.case_file.specs.Written.{Written}
use Rattle.case_file.specs.Writing.{written_text, WriterPost}
use Rattle.game.specs.Moves.{game_of}
use Rattle.game_tables.specs.SolverAnswer.{SolverAnswer}
use Rattle.game_tables.specs.Solver.{SolverPost}

-- What holds of the one record holds of the other.
pub record Alike (r q : Railway) : Type 0 where
  -- judged: both are accepted, or refused for the same row
  pub judged : record_refusal r ≡ record_refusal q
  -- written: as the same text,
  pub text : written_text r ≡ written_text q
  -- and what a writer may answer and leave in a buffer for the one, it may for the other
  pub written : (buffer : List ℕ) (answer : Written) (after : List ℕ) → WriterPost r buffer answer after → WriterPost q buffer answer after
  -- played: the game is one
  pub played : game_of r ≡ game_of q
  -- solved: what a solver may answer and leave in two tables for the one, it may for the other; as its promise leaves it no choice, these are the same
  pub solved : (answer : SolverAnswer) (figs sets figs' sets' : List ℕ) → SolverPost r answer figs sets figs' sets' → SolverPost q answer figs sets figs' sets'

-- So it is with two records of the same railway,
abbrev pub SameAlike : Type 0
SameAlike = (r q : Railway) → SameRailway r q → Alike r q

-- and with two records that are one but for bytes that say there is no join.
abbrev pub BytesAlike : Type 0
BytesAlike = (r q : Railway) → SameButForNone r q → Alike r q
