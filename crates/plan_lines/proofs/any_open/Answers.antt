-- `plan_lines::any_open` meets its contract.
-- Assumes nothing.
use Rattle.std.proofs.Common.{rules, tests}
use mathlib.Core.Path.{refl}
use Rattle.game_placement.proofs.Ranges.{any_range}
use Rattle.game_tables.specs.Entries.{opens_in}
use Rattle.plan_lines.proofs.any_open.Goals as goal

pub returns : goal.returns
returns c = any_range (opens_in c.args.v) c.args.k _ _ _ c.any.ensures.ran refl (λ x b q k. search (rules, tests))
