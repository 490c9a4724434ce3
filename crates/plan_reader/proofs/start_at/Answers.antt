-- `plan_reader::start_at` meets its contract: the word and a tab, a figure, and the line end.
-- Assumes nothing.
use native.Mathlib.Omega.{arith}
use mathlib.Core.Path.{sym, ◌∙◌, ap}
use Rattle.text.specs.Answers.{number_got, byte_got}
use Rattle.text.proofs.Numbers.{byte-is}
use Rattle.plan_reader.specs.Walk.{word_got}
use Rattle.plan_reader.proofs.Taking.{figure-below}
use Rattle.plan_reader.proofs.Answers.{no_word, no-start-figure, no-start-end, start-read}
use Rattle.plan_reader.proofs.start_at.Goals as goal

pub returns-in_err-c1 : goal.returns-in_err-c1
returns-in_err-c1 c = λ r ok first. rw c.from_residual.ensures (no_word r ok _ _ first (sym c.word_at.ensures ∙ ap word_got c.in_err-c1.was))

pub returns-in_err-n : goal.returns-in_err-n
returns-in_err-n c =
    λ r ok first.
    rw c.from_residual-in_err-n.ensures
    (no-start-figure r ok _ _ first (sym c.word_at.ensures ∙ ap word_got c.in_ok-c1.was) (sym c.figure_at.ensures ∙ ap number_got c.in_err-n.was))

pub returns-in_err-c3 : goal.returns-in_err-c3
returns-in_err-c3 c =
    λ r ok first.
    rw c.from_residual-in_err-c3.ensures
    (no-start-end r ok _ _ first (sym c.word_at.ensures ∙ ap word_got c.in_ok-c1.was)
    (sym c.figure_at.ensures ∙ ap number_got c.in_ok-n.was)
    (sym (c.byte_at.ensures ∙ byte-is c.args.text.now _ 10 (omega arith)) ∙ ap (byte_got 10) c.in_err-c3.was))

pub overflow_cast-result : goal.overflow_cast-result
overflow_cast-result c = omega (arith, figure-below _ _ _ _ (sym c.figure_at.ensures ∙ ap number_got c.in_ok-n.was))

pub returns : goal.returns
returns c =
    λ r ok first.
    start-read r ok _ _ first (sym c.word_at.ensures ∙ ap word_got c.in_ok-c1.was)
    (sym c.figure_at.ensures ∙ ap number_got c.in_ok-n.was)
    (sym (c.byte_at.ensures ∙ byte-is c.args.text.now _ 10 (omega arith)) ∙ ap (byte_got 10) c.in_ok-c3.was)
