-- `search_progress::with_entry` meets its contract, by the entry: none, or another figure.
-- Assumes nothing.
use Rattle.search_progress.proofs.Telling.{tells-past, tells-max}
use Rattle.search_progress.proofs.with_entry.Goals as goal

pub returns-then-entry-eq-NO_FIGURE : goal.returns-then-entry-eq-NO_FIGURE
returns-then-entry-eq-NO_FIGURE c = λ figs n is t. tells-past figs n _ is _ t c.if-entry-eq-NO_FIGURE.true

pub returns : goal.returns
returns c = λ figs n is t. tells-max figs n _ is _ t c.if-entry-eq-NO_FIGURE.false c.max.ensures
