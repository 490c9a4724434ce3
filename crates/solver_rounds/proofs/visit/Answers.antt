-- `solver_rounds::visit` meets its contract: nothing is found, or what is found is entered and marked. Assumes nothing.
use mathlib.Core.Path.{sym, ap}
use Rattle.solver_settings.specs.Answers.{entry_found}
use Rattle.game_moves.proofs.Round.{code-back}
use Rattle.solver_rounds.proofs.Visits.{visit-rests, visit-gains}
use Rattle.solver_rounds.proofs.visit.Goals as goal

pub returns-in_default : goal.returns-in_default
returns-in_default c =
    λ r d o on l empty.
    visit-rests o c.args.p l empty _
    (c.find_in-found.ensures r _ on o.laid (sym (code-back r _ o.compiled _ _ on l)))
    (ap entry_found c.in_default.is)

pub returns : goal.returns
returns c =
    λ r d o on l empty.
    visit-gains o c.args.p l empty _
    (c.find_in-found.ensures r _ on o.laid (sym (code-back r _ o.compiled _ _ on l)))
    c.requires.0 _ c.gain.ensures c.requires.1 _ (ap entry_found c.in-Some.is)
