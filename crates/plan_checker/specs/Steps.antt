-- What the contracts of a call's steps say: a line that has been read as numbers is taken or refused. Nothing of document 01 rests on this file:
-- the laws in proofs/Calling say that it is `takes` (plan/Steps) of the line read. Assumes nothing.
use Rattle.std.specs.Prelude.{cond, List, ℕ, ◌+◌, ◌<◌, set, ltb}
use Rattle.railway.specs.declared.Railway.{Railway}
use Rattle.railway.specs.declared.Refusal.TheVariants.{PlanForm}
use Rattle.game_moves.specs.Steps.{no_code}
use Rattle.plan.specs.declared.CheckerState.{CheckerState}
use Rattle.plan.specs.declared.CheckerState.TheVariants.{Fresh, Begun}
use Rattle.plan.specs.LineAnswer.{LineAnswer, Taken}
use Rattle.plan.specs.FrontAnswer.{FrontAnswer, Took}
use Rattle.plan.specs.Checker.{Checking, Left, left}
use Rattle.plan.specs.Steps.{refuse}
use Rattle.plan.specs.Several.{Front}
use Rattle.railway_compiled.specs.Table.{Compiled}
use Rattle.plan_reader.specs.LineRead.{LineRead, NoLine, Start, Placed}

-- A line was taken: the first line's figure, and the lowest code that may come next.
abbrev pub taken_with : ℕ → ℕ → List ℕ → List ℕ → Left LineAnswer
taken_with m from figs sets = left Taken (record { state = Begun m from; figs = figs; sets = sets })

-- A first line with figure n.
abbrev pub takes_start : Checking → CheckerState → ℕ → Left LineAnswer
takes_start c Fresh n = taken_with n 0 c.figs c.sets
takes_start c (Begun m from) n = refuse c PlanForm

-- A line for the placement of this code, with figure n and entry v.
abbrev pub takes_placement : Checking → CheckerState → ℕ → ℕ → ℕ → Left LineAnswer
takes_placement c Fresh code n v = refuse c PlanForm
takes_placement c (Begun m from) code n v = cond (ltb code from) (refuse c PlanForm) (taken_with m (code + 1) (set c.figs code n) (set c.sets code v))

-- Any line, by what was read.
abbrev pub takes_read : Checking → CheckerState → LineRead → Left LineAnswer
takes_read c state NoLine = refuse c PlanForm
takes_read c state (Start n) = takes_start c state n
takes_read c state (Placed code n v) = takes_placement c state code n v

-- The code read has a next.
abbrev pub CodeSmall : LineRead → Type 0
CodeSmall NoLine = Unit {0}
CodeSmall (Start n) = Unit {0}
CodeSmall (Placed code n v) = code < no_code

-- A table that is a railway's.
pub record SomeTable (table : List ℕ) : Type 0 where
  pub railway : Railway
  pub compiled : Compiled railway table

-- Lines were taken.
abbrev pub front_taken : Front → Left FrontAnswer
front_taken front = left (Took front.bytes) front.checking
