-- The checker and its two lent tables, as the checker's definitions have them (document 01, "The two tables and the plan": the checker).
-- Assumes nothing.
use Rattle.std.specs.Prelude.{List, ℕ}
use Rattle.plan.specs.Checker.{Checking, Left, left}
use Rattle.plan_checker.specs.declared.Checker.{Checker}

-- A checker with the tables lent to it.
abbrev pub checking : Checker → List ℕ → List ℕ → Checking
checking c figs sets = record { state = c.state; figs = figs; sets = sets }

-- What a call answers and leaves, the tables with it.
abbrev pub took : {A : Type 0} → A → Checker → List ℕ → List ℕ → Left A
took a c figs sets = left a (checking c figs sets)
