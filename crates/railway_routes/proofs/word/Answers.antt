-- `railway_routes::word` meets its contract: within the table it reads the word, and past it there is no way. Assumes nothing.
use native.Mathlib.Omega.{arith}
use mathlib.Core.Path.{refl, ◌∙◌}
use Rattle.railway_routes.proofs.Walking.{word-there, word_none}
use Rattle.railway_routes.proofs.word.Goals as goal

pub returns-then-j-ge-MOST_WAYS : goal.returns-then-j-ge-MOST_WAYS
returns-then-j-ge-MOST_WAYS c = record { way = λ r shut h l. word_none r shut c.args.e c.args.j c.args.i c.if-j-ge-MOST_WAYS.true; past = λ l. refl }

pub returns : goal.returns
returns c = record { way = λ r shut h l. c.from.ensures ∙ word-there r shut c.args.ways.now c.args.e c.args.j h c.args.i l c.if-j-ge-MOST_WAYS.false c.requires; past = λ l. absurd (omega arith) }
