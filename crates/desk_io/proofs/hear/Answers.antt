-- `desk_io::hear` meets its contract, by whether the line is a change.
-- Assumes nothing.
use mathlib.Core.Path.{sym, ◌∙◌}
use Rattle.desk_calls.specs.Answers.{desk_at}
use Rattle.desk_io.specs.Session.{panel_of}
use Rattle.desk_io.proofs.Changing.{turned-line}
use Rattle.desk_io.proofs.hear.Goals as goal

pub returns-then-is_change : goal.returns-then-is_change
returns-then-is_change c = c.change_file.ensures (sym c.is_change.ensures ∙ c.if-is_change.true)

pub returns : goal.returns
returns c =
    turned-line _ (panel_of c.args.r _ _ (desk_at c.args.desk)) _ _ _ (sym c.is_change.ensures ∙ c.if-is_change.false)
    c.answer.ensures
