-- What two logs are answered with. A type of the library under names of this project. Assumes nothing.
use Rattle.std.specs.Prelude.{ℕ, Result, Ok, Err}
use Rattle.railway.specs.declared.Refusal.{Refusal}
use Rattle.logs.specs.declared.Verdict.{Verdict}
use Rattle.logs.specs.declared.Verdict.TheVariants as verdict

abbrev pub LogAnswer : Type 0
LogAnswer = Result Verdict Refusal

pattern abbrev pub Agree : LogAnswer
Agree = Ok verdict.Agree

pattern abbrev pub Differ : ℕ → LogAnswer
Differ n = Ok (verdict.Differ n)

pattern abbrev pub Refused : Refusal → LogAnswer
Refused e = Err e
