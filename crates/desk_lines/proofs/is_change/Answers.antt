-- `desk_lines::is_change` meets its contract: a line that is too long, or the word.
-- Assumes nothing.
use mathlib.Core.Path.{◌∙◌}
use native.Mathlib.Omega.{arith}
use Rattle.text.specs.Text.{bytes}
use Rattle.desk_lines.proofs.Changes.{same-word, change-long, change-short}
use Rattle.desk_lines.proofs.is_change.Goals as goal

pub returns-then-line-ge-INPUT : goal.returns-then-line-ge-INPUT
returns-then-line-ge-INPUT c = change-long _ c.if-line-ge-INPUT.true

pub returns : goal.returns
unfolding bytes
returns c = change-short _ (omega (arith, c.if-line-ge-INPUT.false)) _ (c.starts_with.ensures.value ∙ same-word _ _)
