-- `game_moves::other_in` meets its contract.
-- Assumes nothing.
use Rattle.std.proofs.Common.{rules, tests}
use Rattle.game_moves.specs.Steps.{other_in}
use Rattle.game_placement.proofs.Ranges.{any_range}
use mathlib.Core.Path.{refl}
use Rattle.game_moves.proofs.other_in.Goals as goal

pub returns : goal.returns
returns c = any_range (other_in c.args.q c.args.t c.args.x) c.args.n _ _ _ c.any.ensures.ran refl (λ x b q k. search (rules, tests))
