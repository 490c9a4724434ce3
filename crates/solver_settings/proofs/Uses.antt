-- What the search is said to give, at work in Yard A: at (2, 3) it finds the plan's entry for figure 2, the point at plus, and at (1, 3) nothing.
-- Assumes nothing.
use mathlib.Core.Path.{◌≡◌, refl}
use mathlib.Core.Option.{none, some}
use native.Mathlib.Omega.{arith}
use Rattle.laws.specs.Below.{all_below, any_below}
use Rattle.laws.proofs.Bools.{some-none}
use Rattle.railway.specs.Record.{train_of, with_join, with_signal, with_legs, with_train}
use Rattle.railway.specs.Yards.{yard_a}
use Rattle.game.specs.Placement.{sections_in, stands_on, at_home, shared}
use Rattle.game_tables.specs.Tables.{figure_in}
use Rattle.game_tables.proofs.Plays.{filled_apart, filled-solved}
use Rattle.game_tables.proofs.KnownYards.{figs_a, sets_a, yard_a-accepted, yard_a-filled}
use Rattle.solver_settings.specs.Answers.{first_keeping}
use Rattle.solver_settings.proofs.Answers.{keeping-exact}

finds-one : first_keeping yard_a (figure_in figs_a) 7 2 ≡ some 1
unfolding with_join with_signal with_legs with_train
finds-one =
    ((keeping-exact yard_a (figure_in figs_a) 7 2 yard_a-accepted (filled_apart yard_a yard_a-accepted figs_a sets_a yard_a-filled 7 2 (omega arith) refl)).finds 1).1 (yard_a-filled.settings 7 (omega arith))

finds-nothing : first_keeping yard_a (figure_in figs_a) 6 9 ≡ none
unfolding train_of with_join with_signal with_legs with_train sections_in stands_on at_home shared all_below any_below
finds-nothing =
    (keeping-exact yard_a (figure_in figs_a) 6 9 yard_a-accepted refl).finds-nothing.1
    (λ o k. let x = (filled-solved yard_a yard_a-accepted figs_a sets_a yard_a-filled).least 6 o 9 (omega arith) refl k in some-none x.1 refl)
