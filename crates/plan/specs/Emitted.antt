-- What the emitter answers: a line of so many bytes and the place to go on from, the end, that there is no plan, or a refusal. A type of the library under names of this project. Assumes nothing.
use Rattle.std.specs.Prelude.{ℕ, Result, Ok, Err}
use Rattle.railway.specs.declared.Refusal.{Refusal}
use Rattle.plan.specs.declared.PlanPlace.{PlanPlace}
use Rattle.plan.specs.declared.Emission.{Emission}
use Rattle.plan.specs.declared.Emission.TheVariants as emission

abbrev pub Emitted : Type 0
Emitted = Result Emission Refusal

pattern abbrev pub Line : ℕ → PlanPlace → Emitted
Line n p = Ok (emission.Line n p)

pattern abbrev pub End : Emitted
End = Ok emission.End

pattern abbrev pub NoPlan : Emitted
NoPlan = Ok emission.NoPlan

pattern abbrev pub Refused : Refusal → Emitted
Refused e = Err e
