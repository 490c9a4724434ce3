-- `case_reader::read_case` meets its contract: the text is too long, or not in form, or answered by its draft.
-- Assumes nothing.
use mathlib.Core.Path.{◌≡◌, sym, ◌∙◌, ap}
use Rattle.std.proofs.lemmas.Result.{err_from_is_err_and}
use Rattle.railway.specs.declared.Refusal.TheVariants.{Form}
use Rattle.case_draft.specs.Drafting.{lines_got}
use Rattle.case_file.proofs.Given.{reader-answers}
use Rattle.case_draft.proofs.Drafting.{too_long, not-in-form, answered}
use Rattle.case_reader.proofs.read_case.Goals as goal

pub returns-then-text-gt-MOST_BYTES : goal.returns-then-text-gt-MOST_BYTES
returns-then-text-gt-MOST_BYTES c = let text = c.args.text.now in (reader-answers text _).0 (too_long text c.if-text-gt-MOST_BYTES.true)

pub returns-in_err-draft : goal.returns-in_err-draft
returns-in_err-draft c =
    let text = c.args.text.now in
    let p = err_from_is_err_and c.from_residual.result c.from_residual.ensures.1 in
    let n = c.in_err-draft.ensures.ok_part in
    let v = rw n at c.in_err-draft.ensures.value in
    let f : c.in_err-draft.field-0.0 ≡ Form = cc in
    (reader-answers text _).0
    (rw (p.1, p.2, f) (not-in-form text c.if-text-gt-MOST_BYTES.false (sym c.read_lines.ensures ∙ ap lines_got n)))

pub returns : goal.returns
returns c =
    let text = c.args.text.now in
    (reader-answers text _).0
    (c.answer.ensures ∙ answered text c.if-text-gt-MOST_BYTES.false _ _ (sym c.read_lines.ensures ∙ ap lines_got c.in_ok-draft.ensures.ok_part))
