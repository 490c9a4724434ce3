-- `solver_api::place_at` meets its contract: 0 is the top, and a number past every code stands for the last place. Assumes nothing.
use Rattle.game_tables.specs.Tables.{no_figure}
use borrow.Author.Tests.{eq-eqb, ne_eqb, lt-ltb, le-ltb}
use Rattle.solver_api.proofs.place_at.Goals as goal

pub returns-then-n-eq0 : goal.returns-then-n-eq0
returns-then-n-eq0 c = simp (eq-eqb c.args.n 0 c.if-n-eq0.true)

pub returns-then-n-gt4294967295 : goal.returns-then-n-gt4294967295
returns-then-n-gt4294967295 c = let n = c.args.n in simp (ne_eqb n 0 c.if-n-eq0.false, lt-ltb no_figure n c.if-n-gt4294967295.true)

pub returns : goal.returns
returns c = let n = c.args.n in simp (ne_eqb n 0 c.if-n-eq0.false, le-ltb no_figure n c.if-n-gt4294967295.false)
