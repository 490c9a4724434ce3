-- `game_moves::code_with` meets its contract: the code of the moved sections.
-- Assumes nothing.
use Rattle.std.proofs.Common.{rules}
use Rattle.game_moves.proofs.Placing.{code-with-is}
use Rattle.game_moves.proofs.code_with.Goals as goal

pub returns : goal.returns
returns c =
    λ r h. code-with-is r _ h c.args.q c.args.t c.args.x c.sections_in-s.result c.trains_in-k.result _ _ _ _ _ (c.sections_in-s.ensures r h) (c.trains_in-k.ensures r h)
    (search rules) (search rules) (search rules) (search rules) c.code_of_sections.ensures
