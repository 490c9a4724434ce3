-- `runs_tables::first_of` meets its contract. Assumes nothing.
use Rattle.runs_tables.proofs.Reaching.{first-new, first-old}
use Rattle.runs_tables.proofs.first_of.Goals as goal

pub returns-then-entry-eq-NO_RUN : goal.returns-then-entry-eq-NO_RUN
returns-then-entry-eq-NO_RUN c = first-new _ _ c.if-entry-eq-NO_RUN.true

pub returns-else-entry-eq-NO_RUN : goal.returns-else-entry-eq-NO_RUN
returns-else-entry-eq-NO_RUN c = first-old _ _ c.if-entry-eq-NO_RUN.false
