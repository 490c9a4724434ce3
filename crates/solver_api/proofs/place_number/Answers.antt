-- `solver_api::place_number` meets its contract, by the place that is matched. Assumes nothing.
use mathlib.Core.Path.{sym, ◌∙◌, ap}
use native.Mathlib.Numerals.{add-one}
use Rattle.solver_api.specs.Plans.{place_number}
use Rattle.solver_api.proofs.place_number.Goals as goal

pub returns-in-From : goal.returns-in-From
returns-in-From c = add-one _ ∙ sym (ap place_number c.in-From.is)
