-- `search_calls::shows` meets its contract, test by test.
-- Assumes nothing.
use mathlib.Core.Path.{refl}
use borrow.Author.Tests.{eq-eqb, ne_eqb}
use Rattle.game_tables.specs.Tables.{no_figure}
use Rattle.search_calls.proofs.shows.Goals as goal

pub returns-then-f-ne-NO_FIGURE : goal.returns-then-f-ne-NO_FIGURE
returns-then-f-ne-NO_FIGURE c = rw (ne_eqb c.args.f no_figure c.if-f-ne-NO_FIGURE.true) refl

pub returns-then-ended : goal.returns-then-ended
returns-then-ended c = rw (eq-eqb c.args.f no_figure c.if-f-ne-NO_FIGURE.false, c.if-ended.true) refl

pub returns-else-ended : goal.returns-else-ended
returns-else-ended c = rw (eq-eqb c.args.f no_figure c.if-f-ne-NO_FIGURE.false, c.if-ended.false) refl
