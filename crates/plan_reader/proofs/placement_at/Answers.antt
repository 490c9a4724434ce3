-- `plan_reader::placement_at` meets its contract: sections, figure and entry, and the code of the placement.
-- Assumes nothing.
use native.Mathlib.Omega.{arith}
use mathlib.Core.Path.{refl, sym, ◌∙◌, ap}
use Rattle.text.specs.Answers.{number_got}
use Rattle.plan_reader.specs.Walk.{sections_got}
use Rattle.plan_reader.proofs.Taking.{figure-below}
use Rattle.plan_reader.proofs.Sound.{entry-small}
use Rattle.plan_reader.proofs.Answers.{no-sections, no-figure, no-entry, placement-read}
use Rattle.plan_reader.proofs.placement_at.Goals as goal

pub returns-in_err-q : goal.returns-in_err-q
returns-in_err-q c =
    λ r h first.
    rw c.from_residual.ensures
    (no-sections r h.accepted _ _ first (c.sections_in-s.ensures r h) (c.points_in-m.ensures r h) (c.trains_in-k.ensures r h)
    (sym c.sections_at.ensures ∙ ap sections_got c.in_err-q.was))

pub returns-in_err-n : goal.returns-in_err-n
returns-in_err-n c =
    λ r h first.
    rw c.from_residual-in_err-n.ensures
    (no-figure r h.accepted _ _ first (c.sections_in-s.ensures r h) (c.points_in-m.ensures r h) (c.trains_in-k.ensures r h)
    (sym c.sections_at.ensures ∙ ap sections_got c.in_ok-q.was)
    (sym c.figure_at.ensures ∙ ap number_got c.in_err-n.was))

pub returns-in_err-v : goal.returns-in_err-v
returns-in_err-v c =
    λ r h first.
    rw c.from_residual-in_err-v.ensures
    (no-entry r h.accepted _ _ first (c.sections_in-s.ensures r h) (c.points_in-m.ensures r h) (c.trains_in-k.ensures r h)
    (sym c.sections_at.ensures ∙ ap sections_got c.in_ok-q.was)
    (sym c.figure_at.ensures ∙ ap number_got c.in_ok-n.was)
    (sym c.entry_at.ensures ∙ ap number_got c.in_err-v.was))

pub overflow_cast-result : goal.overflow_cast-result
overflow_cast-result c = omega (arith, figure-below _ _ _ _ (sym c.figure_at.ensures ∙ ap number_got c.in_ok-n.was))

pub overflow_cast-result-2 : goal.overflow_cast-result-2
overflow_cast-result-2 c = omega (arith, entry-small _ _ _ _ _ _ (sym c.entry_at.ensures ∙ ap number_got c.in_ok-v.was))

pub returns : goal.returns
returns c =
    λ r h first.
    placement-read r h.accepted _ _ first (c.sections_in-s.ensures r h) (c.points_in-m.ensures r h) (c.trains_in-k.ensures r h)
    (sym c.sections_at.ensures ∙ ap sections_got c.in_ok-q.was)
    (sym c.figure_at.ensures ∙ ap number_got c.in_ok-n.was)
    (sym c.entry_at.ensures ∙ ap number_got c.in_ok-v.was) c.in_ok-q.q refl _ (c.code_of.ensures r h)
