-- `test_script::run` is safe: the tables keep their lengths. Assumes nothing.
use Rattle.std.proofs.Common.{◌≡◌, length}
use Rattle.test_script.proofs.run.Given as goal

abbrev pub invariant-loop-b : goal.invariant-loop-b
invariant-loop-b l =
    (length l.figures ≡ length l.initial.figures)
    × (length l.settings ≡ length l.initial.settings)
    × (length l.next_figures ≡ length l.initial.next_figures)
    × (length l.next_settings ≡ length l.initial.next_settings)
