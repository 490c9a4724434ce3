-- `desk_io::change_file` meets its contract: what came in is the text of a file.
-- Assumes nothing.
use mathlib.Core.Path.{refl}
use Rattle.desk_io.proofs.Changing.{short-text, turned-change}
use Rattle.desk_io.proofs.change_file.Goals as goal

pub returns : goal.returns
returns c =
    λ is.
    turned-change _ _ _ _ _ _ (short-text _ _ _ refl c.read_named-came.auto.text c.read_named-came.ensures.0)
    c.change_text.ensures is
