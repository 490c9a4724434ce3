-- What can be promised of a call that takes a case text from a file and a plan from standard input and writes on standard output: no definition can say which
-- bytes come in, nor that any went out. Nothing of document 01 rests on this. Assumes nothing.
use Rattle.std.specs.Prelude.{◌≡◌, List, ℕ, suc, ◌≤◌, length}
use Rattle.case_file.specs.Rows.{most_bytes}
use Rattle.check_text.specs.Verdict.{CheckOutput}
use Rattle.check_text.specs.Claims.{read_bytes}

-- There are a case text and a plan, no longer than is read, and so many bytes are all that the program writes for them.
pub record Answered (n : ℕ) : Type 0 where
  pub case : List ℕ
  pub short-case : length case ≤ suc most_bytes
  pub plan : List ℕ
  pub short-plan : length plan ≤ read_bytes
  pub line : List ℕ
  pub output : CheckOutput case plan line
  pub count : n ≡ length line
