-- `railway::Railway::joined` meets its contract: it is read by the end's index, and past the table nothing is joined.
-- Assumes nothing.
use mathlib.Core.Path.{◌∙◌}
use Rattle.railway.proofs.Arrays.{links-length}
use Rattle.railway.proofs.Lookups.{joined-read}
use Rattle.railway.proofs.Railway.joined.Goals as goal

pub returns : goal.returns
returns c =
    c.link_at.ensures
    ∙ joined-read c.args.self c.args.e _ c.index_of.ensures (links-length c.args.self _ c.well_formed.0)
