-- `advice_call::advise` meets its contract: a refused case is told before anything is written, and of any other the advice is given. Assumes nothing.
use Rattle.std.proofs.lemmas.Result.{err_from_is_err_and}
use Rattle.advice_call.proofs.Tries.{told-refused, told-fine, few}
use Rattle.advice_call.proofs.advise.Goals as goal

pub advise_case-requires : goal.advise_case-requires
advise_case-requires c = few c.args.r c.args.figures.now c.args.settings.now _ c.open_case.ensures _ c.in_ok-open_case.was

pub returns-in_err-open_case : goal.returns-in_err-open_case
returns-in_err-open_case c =
    let p = err_from_is_err_and c.from_residual.result c.from_residual.ensures.1 in
    rw (p.1, p.2) (told-refused c.args.r c.args.figures.now c.args.settings.now _ c.open_case.ensures _ c.in_err-open_case.was)

pub returns : goal.returns
returns c = c.advise_case.ensures (told-fine c.args.r c.args.figures.now c.args.settings.now _ c.open_case.ensures _ c.in_ok-open_case.was)
