-- What is written of runs at work: for Yard A two runs of 1, and at least 2; for the line whose middle section is
-- closed no run, and no plan. Of a text that is longer than a case may be the refusal's line, by the bytes that are
-- read. Of what is shown, each part gives a number. Texts are any of which it is said. Assumes nothing.
use mathlib.Core.Path.{◌≡◌, ◌∙◌}
use mathlib.Core.List.{List}
use mathlib.Core.Option.{some}
use Prim.Native.Nat.{ℕ, zero, suc, ◌+◌, ◌≤◌, ◌<◌}
use native.Mathlib.Omega.{arith}
use lib.ListN.{take}
use Rattle.laws.specs.Below.{any_below, sum_below, gather_below}
use Rattle.text.specs.Text.{digits, line, bytes}
use Rattle.railway.specs.declared.Refusal.TheVariants.{Form}
use Rattle.railway.specs.Record.{train_of, with_join, with_signal, with_closed, with_legs, with_train}
use Rattle.railway.specs.Yards.{yard_a}
use Rattle.game.specs.Game.{Forced, IsFigure}
use Rattle.game.specs.Placement.{start_code}
use Rattle.game.specs.Moves.{game_of}
use Rattle.game.proofs.Examples.{shut_line}
use Rattle.plan.specs.Test.{Listing, Test}
use Rattle.case_file.specs.Given.{RefusedWith, AcceptedWith}
use Rattle.runs.specs.Runs.{no_run, entry_at, train_run}
use Rattle.runs.proofs.Uses.{run_up, run_down, one_up, one_down, none-up, none-down}
use Rattle.runs_text.specs.Written.{RailwayRuns, CaseRuns, ShownRuns}
use Rattle.runs_text.proofs.Spelling.{text_same}
use Rattle.runs_text.proofs.Cases.{cut-shows}
use Rattle.runs_text.proofs.Written.{shows-runs}

-- YARD A
two-ones : (up down : List (List ℕ)) → entry_at up 1 2 ≡ 1 → entry_at down 2 0 ≡ 1 → (t : ℕ) → t < 2 → train_run yard_a up down t ≡ 1
unfolding train_of with_join with_signal with_legs with_train
two-ones up down a b zero l = a
two-ones up down a b (suc zero) l = b
two-ones up down a b (suc (suc t)) l = absurd (omega (arith, l))

pub shown : (text : List ℕ) → RailwayRuns yard_a text → text ≡ bytes "run\t1\t1\nrun\t2\t1\nleast\t2\n"
unfolding gather_below any_below sum_below digits line bytes with_join with_signal with_legs with_train
shown text h = h.written ∙ text_same (train_run yard_a h.up h.down) (λ t. 1) 2 (two-ones h.up h.down (one_up h.up h.is_up) (one_down h.down h.is_down))

-- THE LINE
no_ones : (up down : List (List ℕ)) → entry_at up 0 2 ≡ no_run → entry_at down 2 0 ≡ no_run → (t : ℕ) → t < 2 → train_run shut_line up down t ≡ no_run
unfolding train_of with_closed with_join with_train
no_ones up down a b zero l = a
no_ones up down a b (suc zero) l = b
no_ones up down a b (suc (suc t)) l = absurd (omega (arith, l))

pub without : (text : List ℕ) → RailwayRuns shut_line text → text ≡ bytes "run\t1\tnone\nrun\t2\tnone\nnone\n"
unfolding gather_below any_below sum_below digits line bytes with_closed with_join with_train
without text h = h.written ∙ text_same (train_run shut_line h.up h.down) (λ t. no_run) 2 (no_ones h.up h.down (none-up h.up h.is_up) (none-down h.down h.is_down))

-- A CASE TEXT that is refused for its form has that line; one of which all decides that is read, too, whatever follows
refused-line : (case text : List ℕ) → CaseRuns case text → RefusedWith case Form → text ≡ bytes "refused\t2\n"
unfolding digits line bytes
refused-line case text o w = o.refused Form w

of-yard-a : (case text : List ℕ) → CaseRuns case text → AcceptedWith case yard_a → text ≡ bytes "run\t1\t1\nrun\t2\t1\nleast\t2\n"
of-yard-a case text o w = shown text (o.accepted yard_a w)

by-what-is-read : (case text : List ℕ) → CaseRuns (take 4097 case) text → RefusedWith case Form → text ≡ bytes "refused\t2\n"
by-what-is-read case text o = refused-line case text (cut-shows case text 4097 (omega arith) o)

-- WHAT IS SHOWN of Yard A: the run of train 1 is 1; with runs of 1 the text is that above; the sum is not above a figure of 2, nor above 3 where a plan begins with that
module _ (text : List ℕ) (s : ShownRuns yard_a text) where
  first_run : s.run 0 ≡ 1
  unfolding train_of with_join with_signal with_legs with_train
  first_run = run_up (s.run 0) (s.each 0 (omega arith))

  second_run : s.run 1 ≡ 1
  unfolding train_of with_join with_signal with_legs with_train
  second_run = run_down (s.run 1) (s.each 1 (omega arith))

  with-ones : ((t : ℕ) → t < 2 → s.run t ≡ 1) → text ≡ bytes "run\t1\t1\nrun\t2\t1\nleast\t2\n"
  unfolding gather_below any_below sum_below digits line bytes with_join with_signal with_legs with_train
  with-ones e = s.written ∙ text_same s.run (λ t. 1) 2 e

  under-figure : IsFigure (game_of yard_a) (start_code yard_a) (some 2) → s.run 0 + s.run 1 ≤ 2
  unfolding sum_below with_join with_signal with_legs with_train
  under-figure i = omega (arith, s.figure 2 i)

  under-plan : (n : ℕ) (L : Listing) → Test yard_a n L → s.run 0 + s.run 1 ≤ n
  unfolding sum_below with_join with_signal with_legs with_train
  under-plan n L t = omega (arith, s.plan n L t)

-- and of the line, where a train has no run: home is not forced within 5, and no plan that begins with 5 passes
module _ (text : List ℕ) (s : ShownRuns shut_line text) (no-run : s.run 0 ≡ no_run) where
  never-forced : Forced (game_of shut_line) (start_code shut_line) 5 → ⊥
  unfolding with_closed with_join with_train
  never-forced f = s.no-figure 0 (omega arith) no-run 5 f

  never-passed : (L : Listing) → Test shut_line 5 L → ⊥
  unfolding with_closed with_join with_train
  never-passed L t = s.no-plan 0 (omega arith) no-run 5 L t

-- THE WHOLE: whatever is written for a text that says Yard A, no plan for it that passes begins with less than 2
no-shorter-plan : (case text : List ℕ) → AcceptedWith case yard_a → CaseRuns case text → (n : ℕ) (L : Listing) → Test yard_a n L → 2 ≤ n
no-shorter-plan case text w o n L t =
    let s = shows-runs case text yard_a w o in
    omega (arith, first_run text s, second_run text s, under-plan text s n L t)
