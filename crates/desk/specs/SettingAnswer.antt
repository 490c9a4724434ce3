-- What asking for the setting is answered with. A type of the library under names of this project. Assumes nothing.
use Rattle.std.specs.Prelude.{ℕ, Result, Ok, Err}
use Rattle.railway.specs.declared.Refusal.{Refusal}

abbrev pub SettingAnswer : Type 0
SettingAnswer = Result ℕ Refusal

pattern abbrev pub Given : ℕ → SettingAnswer
Given n = Ok n

pattern abbrev pub Refused : Refusal → SettingAnswer
Refused e = Err e
