-- The answer to a text and the railway beside it, as the definitions speak of them. Assumes nothing.
use Rattle.railway.specs.CaseAnswer.{CaseAnswer}
use Rattle.railway.specs.declared.Railway.{Railway}

pub record CaseRead : Type 0 where
  pub answer : CaseAnswer
  pub railway : Railway
