-- `solver_api::checker_of` meets its contract: the first number says whether a line was taken. Assumes nothing.
use mathlib.Core.Path.{sym, ap}
use mathlib.Core.Bool.{Bool, cond}
use lib.ListN.{get_or}
use Rattle.plan.specs.declared.CheckerState.TheVariants.{Fresh, Begun}
use borrow.Author.Tests.{eq-eqb, ne_eqb}
use Rattle.solver_api.proofs.checker_of.Goals as goal

pub returns-then-numbers-eq0 : goal.returns-then-numbers-eq0
returns-then-numbers-eq0 c = simp (eq-eqb (get_or c.args.numbers 0 0) 0 c.if-numbers-eq0.true)

pub returns : goal.returns
returns c =
    let ns = c.args.numbers in
    ap (λ (b : Bool). cond b Fresh (Begun (get_or ns 1 0) (get_or ns 2 0))) (sym (ne_eqb (get_or ns 0 0) 0 c.if-numbers-eq0.false))
