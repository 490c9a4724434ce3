-- The answer of a record's test and the table beside it, as the definitions speak of them. Assumes nothing.
use Rattle.std.specs.Prelude.{List, ℕ}
use Rattle.railway.specs.CaseAnswer.{CaseAnswer}

pub record Compilation : Type 0 where
  pub tested : CaseAnswer
  pub table : List ℕ
