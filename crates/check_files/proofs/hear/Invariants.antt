-- `check_files::hear` meets its contract. The loop's invariant: the calls for the bytes that have come stand where they should (`Listening`).
-- Assumes nothing.
use mathlib.Core.Path.{◌≡◌}
use lib.ListN.{length}
use Rattle.plan_checker.specs.Answers.{checking}
use Rattle.check_files.proofs.Hearing.{Listening, turns_left}
use Rattle.check_files.proofs.hear.Given as goal

abbrev pub invariant-loop-going : goal.invariant-loop-going
invariant-loop-going g l =
    (length l.figures ≡ length l.initial.figures) × (length l.settings ≡ length l.initial.settings)
    × Listening l.r (length l.initial.plan) (checking l.initial.checker l.initial.figures l.initial.settings) l.plan l.at l.have (checking l.checker l.figures l.settings)

abbrev pub decreases-loop-going : goal.decreases-loop-going
decreases-loop-going g l = turns_left (length l.initial.plan) l.have l.going
