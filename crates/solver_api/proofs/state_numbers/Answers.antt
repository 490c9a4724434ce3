-- `solver_api::state_numbers` meets its contract, by the state that is matched. Assumes nothing.
use mathlib.Core.Path.{sym, ap}
use Rattle.solver_api.specs.Plans.{state_numbers}
use Rattle.solver_api.proofs.state_numbers.Goals as goal

pub returns-in-Begun : goal.returns-in-Begun
returns-in-Begun c = sym (ap state_numbers c.in-Begun.is)
