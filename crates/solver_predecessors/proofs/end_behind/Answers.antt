-- `solver_predecessors::end_behind` meets its contract: the end against the train's heading. Assumes nothing.
use mathlib.Core.Path.{◌∙◌, ap}
use Rattle.railway.specs.declared.Side.{Side}
use Rattle.railway.specs.declared.End.TheVariants.{Section}
use Rattle.railway.specs.Ends.{opposite, end_index}
use Rattle.solver_predecessors.proofs.end_behind.Goals as goal

pub returns : goal.returns
returns c = λ r k. c.index_of.ensures ∙ ap (λ (s : Side). end_index (Section (record { 0 = c.args.x }) s)) (c.opposite-back.ensures ∙ ap opposite (c.heading_in.ensures r k))
