-- `game_moves::lost_in` meets its contract.
-- Assumes nothing.
use Rattle.std.proofs.Common.{rules, tests}
use Rattle.game.specs.Placement.{shares_lower}
use Rattle.game_placement.specs.ByValue.{section_in}
use Rattle.game_placement.proofs.Ranges.{any_range}
use Rattle.game_moves.proofs.Placing.{shares-is, lost-is}
use mathlib.Core.Path.{refl}
use Rattle.game_moves.proofs.lost_in.Goals as goal

pub returns : goal.returns
returns c = λ r p h. lost-is r p _ (c.trains_in-k.ensures r h.compiled)
    (any_range (shares_lower r p) c.trains_in-k.result _ _ _ c.any.ensures.ran refl (λ x b q k. (search (rules, tests), λ l. shares-is r p _ _ h x (section_in c.args.q x) b refl (search (rules, tests)))))
