-- `solver_settings::find_setting` meets its contract: by the placement of the code.
-- Assumes nothing.
use Rattle.solver_settings.proofs.find_setting.Goals as goal

pub returns : goal.returns
returns c = λ r h ways. c.find_in.ensures r _ (c.placement_of-q.ensures r h) ways (c.code_of.ensures r h)
