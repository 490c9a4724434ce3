-- What can be promised of a call that takes a case text from standard input and writes on standard output: no definition can say which bytes come in, nor
-- that any went out. Nothing of the documents rests on this. Assumes nothing.
use Rattle.std.specs.Prelude.{◌≡◌, List, ℕ, suc, ◌≤◌, length}
use Rattle.case_file.specs.Rows.{most_bytes}

-- There is a case text, no longer than is read, and so many bytes are all that is written for it.
pub record WrittenFor (Output : List ℕ → List ℕ → Type 0) (n : ℕ) : Type 0 where
  pub case : List ℕ
  pub short : length case ≤ suc most_bytes
  pub text : List ℕ
  pub output : Output case text
  pub count : n ≡ length text
