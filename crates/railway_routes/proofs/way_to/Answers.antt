-- `railway_routes::way_to` meets its contract: a section's number, and the number for none, fit a byte. Assumes nothing.
use Prim.Native.Nat.{ℕ, ◌%◌}
use mathlib.Core.Path.{◌∙◌, ap}
use Rattle.railway.specs.Ends.{end_at}
use Rattle.railway_routes.proofs.Walking.{to-fits}
use Rattle.railway_routes.proofs.way_to.Goals as goal

pub returns : goal.returns
returns c = record { way = λ r shut h l. ap (λ (x : ℕ). x % 256) (c.word.ensures.way r shut h l) ∙ to-fits r shut (end_at c.args.e) c.args.j; past = λ l. ap (λ (x : ℕ). x % 256) (c.word.ensures.past l) }
