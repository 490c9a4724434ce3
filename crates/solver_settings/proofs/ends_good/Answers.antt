-- `solver_settings::ends_good` meets its contract: the figure at the code that the move would lead to, with the train's weight, and then the other trains.
-- Assumes nothing.
use mathlib.Core.Path.{◌≡◌}
use mathlib.Core.Bool.{Bool, false, cond}
use Prim.Native.Nat.{ℕ, ◌<◌}
use Rattle.railway.specs.declared.Railway.{Railway}
use Rattle.game.specs.Placement.{code_on}
use Rattle.game.specs.Moves.{occupied}
use Rattle.game_tables.specs.Tables.{figure_in}
use Rattle.game_tables.specs.Find.{ends_good}
use Rattle.game_placement.specs.ByValue.{section_in}
use Rattle.game_moves.specs.Steps.{On}
use Rattle.solver_settings.proofs.Stepping.{ends_by, ends-not, ends-unless}
use Rattle.solver_settings.proofs.ends_good.Goals as goal

pub returns-then-is_within : goal.returns-then-is_within
returns-then-is_within c =
    let by-figure : (r : Railway) (p : ℕ) → On r p c.args.table.now c.args.aim.placement → c.args.aim.code ≡ code_on r (section_in c.args.aim.placement) → c.args.t < r.trains → c.args.y < r.sections → (o : Bool) → o ≡ occupied r p c.args.t c.args.y → cond o false c.is_within.result ≡ ends_good r (figure_in c.args.figures.now) p c.args.aim.figure c.args.t c.args.y = λ r p on code l inside. let table = on.compiled in
    ends_by r p _ _ on c.args.figures.now c.args.aim.figure c.args.t c.args.y l inside _ _ _ _ _ code
    (c.sections_in.ensures r table) c.power-stride.ensures c.section_at.ensures c.code_put-after.ensures _
    c.entry_at-entry.ensures _ (c.weight_in.ensures r table) _ c.is_within.ensures in
    λ r p on code l inside.
    ends-unless r p _ _ on _ _ _ _ _ (by-figure r p on code l inside) c.if-is_within.true _ _
    (c.trains_in.ensures r on.compiled) c.other_in.ensures

pub returns : goal.returns
returns c =
    let by-figure : (r : Railway) (p : ℕ) → On r p c.args.table.now c.args.aim.placement → c.args.aim.code ≡ code_on r (section_in c.args.aim.placement) → c.args.t < r.trains → c.args.y < r.sections → (o : Bool) → o ≡ occupied r p c.args.t c.args.y → cond o false c.is_within.result ≡ ends_good r (figure_in c.args.figures.now) p c.args.aim.figure c.args.t c.args.y = λ r p on code l inside. let table = on.compiled in
    ends_by r p _ _ on c.args.figures.now c.args.aim.figure c.args.t c.args.y l inside _ _ _ _ _ code
    (c.sections_in.ensures r table) c.power-stride.ensures c.section_at.ensures c.code_put-after.ensures _
    c.entry_at-entry.ensures _ (c.weight_in.ensures r table) _ c.is_within.ensures in
    λ r p on code l inside. ends-not r p _ _ on _ _ _ _ _ (by-figure r p on code l inside) c.if-is_within.false
