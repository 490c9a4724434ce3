-- `runs_text::run_of` meets its contract: the entry in the table of the train's heading. Assumes nothing.
use Rattle.runs_text.proofs.Reading.{of-heading}
use Rattle.runs_text.proofs.run_of.Goals as goal

pub returns-in-Up : goal.returns-in-Up
returns-in-Up c = λ a b. of-heading _ _ _ _ _ _ _ c.in-Up.is c.entry_at.ensures

pub returns-in-Down : goal.returns-in-Down
returns-in-Down c = λ a b. of-heading _ _ _ _ _ _ _ c.in-Down.is c.entry_at-in-Down.ensures
