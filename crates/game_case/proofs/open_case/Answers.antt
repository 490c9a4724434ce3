-- `game_case::open_case` meets its contract: the record's test comes first, then the length of the two tables; each return is one law of Opening.
-- Assumes nothing.
use Rattle.std.proofs.Common.{refl, inl, inr}
use Rattle.std.proofs.lemmas.Result.{err_from_is_err_and}
use Rattle.game_case.proofs.Opening.{record-refused, too_short, opened}
use Rattle.game_case.proofs.open_case.Goals as goal

pub returns-in_err-table : goal.returns-in_err-table
returns-in_err-table c =
    let p = err_from_is_err_and c.from_residual.result c.from_residual.ensures.1 in
    rw (p.1, p.2) (record-refused c.args.r _ _ _ _ c.in_err-table.ensures refl)

pub returns-then-figures-n : goal.returns-then-figures-n
returns-then-figures-n c =
    too_short c.args.r c.args.figures.now c.args.settings.now _ c.in_ok-table.ensures
    refl _ c.placements-n.ensures (elim c.then-figures-n.either [ inl x ↦ inl x | inr y ↦ inr y.1 ])
    _ (refl, refl)

pub returns : goal.returns
returns c =
    opened c.args.r _ _ _ c.in_ok-table.ensures
    refl _ c.placements-n.ensures c.if-figures-n.false c.if-settings-n.false
