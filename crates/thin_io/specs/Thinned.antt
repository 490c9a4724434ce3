-- What can be promised of a call that takes a case text from a file and a plan from standard input and writes on standard output: no definition can say which
-- bytes come in, nor that any went out. Nothing of document 02 rests on this. Assumes nothing.
use Rattle.std.specs.Prelude.{◌≡◌, List, ℕ, suc, ◌≤◌, length}
use Rattle.case_file.specs.Rows.{most_bytes}
use Rattle.check_text.specs.Claims.{read_bytes}
use Rattle.thin_text.specs.Lean.{LeanOutput}

-- There are a case text and a plan, no longer than is read, and so many bytes are all that the program writes for them.
pub record ThinnedBytes (n : ℕ) : Type 0 where
  pub case : List ℕ
  pub short-case : length case ≤ suc most_bytes
  pub plan : List ℕ
  pub short-plan : length plan ≤ read_bytes
  pub text : List ℕ
  pub output : LeanOutput case plan text
  pub count : n ≡ length text
