-- `solver_settings::all_good` meets its contract.
-- Assumes nothing.
use Rattle.std.proofs.Common.{rules, tests}
use mathlib.Core.Path.{refl}
use Rattle.game_placement.proofs.Ranges.{all_range}
use Rattle.game_tables.specs.Tables.{figure_in}
use Rattle.solver_settings.specs.Search.{free_good}
use Rattle.solver_settings.proofs.all_good.Goals as goal

pub returns : goal.returns
returns c =
    λ r p h.
    rw h.trains at (all_range (free_good r (figure_in c.args.figures.now) p c.args.aim.figure c.args.bits) c.args.aim.trains _ _ _ c.all.ensures.ran refl
    (λ x b q k. (search (rules, tests), λ l. (let lt = rw h.trains at l in search (rules, tests, h.looks, lt)))))
