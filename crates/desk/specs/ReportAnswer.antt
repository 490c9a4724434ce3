-- What a report is answered with. A type of the library under names of this project. Assumes nothing.
use Rattle.std.specs.Prelude.{Result, Ok, Err, ⊤}
use Rattle.railway.specs.declared.Refusal.{Refusal}

abbrev pub ReportAnswer : Type 0
ReportAnswer = Result ⊤ Refusal

pattern abbrev pub Counted : ReportAnswer
Counted = Ok tt

pattern abbrev pub Refused : Refusal → ReportAnswer
Refused e = Err e
