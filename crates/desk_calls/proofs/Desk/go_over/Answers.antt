-- `desk_calls::Desk::go_over` meets its contract, row by row: another shape, tables too short, the desk's own row, no
-- figure; else it goes over. Assumes nothing.
use mathlib.Core.Path.{sym, ◌∙◌}
use Rattle.std.proofs.lemmas.Result.{err_from_is_err_and}
use Rattle.desk_calls.proofs.Changing.{compile-takes, compiled-as, alike-of, over-mismatch, over-short, over-stopped, over-sound}
use Rattle.desk_calls.proofs.Changing.{over-stranded, over-made}
use Rattle.desk_calls.proofs.Desk.go_over.Goals as goal

pub returns-in_err-next : goal.returns-in_err-next
returns-in_err-next c = λ r h new. absurd (compile-takes c.args.s _ c.compile.ensures _ c.in_err-next.was new)

pub returns-then-mismatched : goal.returns-then-mismatched
returns-then-mismatched c =
    λ r h new.
    let made = compiled-as c.args.s _ c.compile.ensures _ c.in_ok-next.was new in
    over-mismatch r _ _ _ _ h.accepted (sym (c.mismatched.ensures r c.args.s h made) ∙ c.if-mismatched.true)

pub returns-in_err-open_case : goal.returns-in_err-open_case
returns-in_err-open_case c =
    λ r h new.
    let made = compiled-as c.args.s _ c.compile.ensures _ c.in_ok-next.was new in
    let alike = alike-of r c.args.s _ _ h new (c.mismatched.ensures r c.args.s h made) c.if-mismatched.false in
    let p = err_from_is_err_and c.from_residual-in_err-open_case.result c.from_residual-in_err-open_case.ensures.1 in
    rw (p.1, p.2) (over-short r _ _ _ _ alike _ c.open_case.ensures _ c.in_err-open_case.was)

pub returns-then-stopped : goal.returns-then-stopped
returns-then-stopped c =
    λ r h new.
    let made = compiled-as c.args.s _ c.compile.ensures _ c.in_ok-next.was new in
    let alike = alike-of r c.args.s _ _ h new (c.mismatched.ensures r c.args.s h made) c.if-mismatched.false in
    over-stopped r _ _ _ _ alike _ c.open_case.ensures _ c.in_ok-open_case.was (sym (c.stopped.ensures r h) ∙ c.if-stopped.true)

pub returns-then-entry_at : goal.returns-then-entry_at
returns-then-entry_at c =
    λ r h new.
    let made = compiled-as c.args.s _ c.compile.ensures _ c.in_ok-next.was new in
    let alike = alike-of r c.args.s _ _ h new (c.mismatched.ensures r c.args.s h made) c.if-mismatched.false in
    let sound = over-sound r _ c.args.self.now _ _ alike _ c.open_case.ensures _ c.in_ok-open_case.was (sym (c.stopped.ensures r h) ∙ c.if-stopped.false) in
    over-stranded r _ _ _ _ sound _ _ (c.code_of-p.ensures c.args.s made) c.entry_at.ensures c.if-entry_at.true

pub returns : goal.returns
returns c =
    λ r h new.
    let made = compiled-as c.args.s _ c.compile.ensures _ c.in_ok-next.was new in
    let alike = alike-of r c.args.s _ _ h new (c.mismatched.ensures r c.args.s h made) c.if-mismatched.false in
    let sound = over-sound r _ c.args.self.now _ _ alike _ c.open_case.ensures _ c.in_ok-open_case.was (sym (c.stopped.ensures r h) ∙ c.if-stopped.false) in
    over-made r _ _ _ _ sound _ _ (c.code_of-p.ensures c.args.s made) c.entry_at.ensures
    c.if-entry_at.false _ (c.desk_on.ensures c.args.s made)
