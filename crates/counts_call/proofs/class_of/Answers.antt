-- `counts_call::class_of` meets its contract: none, a figure with a count of its own, a greater one.
-- Assumes nothing.
use mathlib.Core.Path.{◌∙◌}
use Rattle.counts_call.proofs.Tallying.{class-none, class-figure}
use Rattle.counts_call.proofs.class_of.Goals as goal

pub returns-then-entry-eq-NO_FIGURE : goal.returns-then-entry-eq-NO_FIGURE
returns-then-entry-eq-NO_FIGURE c = class-none _ c.if-entry-eq-NO_FIGURE.true

pub returns : goal.returns
returns c = c.min.ensures ∙ class-figure _ c.if-entry-eq-NO_FIGURE.false
