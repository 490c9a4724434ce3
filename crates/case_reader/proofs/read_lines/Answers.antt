-- `case_reader::read_lines` meets its contract: the lines of each kind are read where those before them end, and what is not in form stays so.
-- Assumes nothing.
use mathlib.Core.Path.{◌≡◌, ◌∙◌}
use Rattle.text.specs.Reading.{then}
use Rattle.case_draft.specs.Drafting.{lines_got, end_at, draft_of}
use Rattle.case_reader.proofs.Parts.{header-bad, all_kinds, more_left, all_read}
use Rattle.case_reader.proofs.read_lines.Goals as goal
use Rattle.case_reader.proofs.read_lines.Goals.{After-lines_of}

whole : (c : After-lines_of) → then (lines_got c.lines_of.result) (λ d e. end_at c.args.text.now d e) ≡ draft_of c.args.text.now
whole c =
    all_kinds c.args.text.now _ _ c.in_ok-s.ensures _ c.begin.ensures _ _ _ _ _ c.lines_of-points.ensures c.lines_of-joins.ensures
    c.lines_of-signals.ensures c.lines_of-closed.ensures c.lines_of.ensures

pub returns-in_err-s : goal.returns-in_err-s
returns-in_err-s c = rw c.from_residual.ensures (header-bad _ c.in_err-s.ensures)

pub returns-in_err-draft : goal.returns-in_err-draft
returns-in_err-draft c =
    let e = whole (goal.at.returns-in_err-draft c).After-lines_of in
    rw c.from_residual-in_err-draft.ensures (rw c.in_err-draft.was at e)

pub returns-then-next-text : goal.returns-then-next-text
returns-then-next-text c =
    let e = whole (goal.at.returns-then-next-text c).After-lines_of in
    more_left _ _ _ c.if-next-text.true ∙ rw c.in_ok-draft.was at e

pub returns : goal.returns
returns c =
    let e = whole (goal.at.returns c).After-lines_of in
    all_read _ _ _ c.if-next-text.false ∙ rw c.in_ok-draft.was at e
