-- A line of a plan, if one stands there; and with it the place behind it. Types of the library under names of this project. Assumes nothing.
use Rattle.std.specs.Prelude.{ℕ, Option, None, Some}
use Rattle.plan_reader.specs.declared.PlanLine.{PlanLine}
use Rattle.plan_reader.specs.declared.PlanLine.TheVariants as planline

abbrev pub LineRead : Type 0
LineRead = Option PlanLine

pattern abbrev pub NoLine : LineRead
NoLine = None

pattern abbrev pub Start : ℕ → LineRead
Start n = Some (planline.Start n)

pattern abbrev pub Placed : ℕ → ℕ → ℕ → LineRead
Placed a b d = Some (planline.Placed a b d)

abbrev pub LineAt : Type 0
LineAt = Option (PlanLine × ℕ)

-- The line alone.
abbrev pub line_of : LineAt → LineRead
line_of None = NoLine
line_of (Some (l, end)) = Some l
