-- `desk_text::state_text` meets its contract, by the answer to the call for the setting.
-- Assumes nothing.
use Rattle.desk_calls.specs.Answers.{desk_at}
use Rattle.desk_text.proofs.Said.{refused-said, given-accepted, setting-said}
use Rattle.desk_text.proofs.state_text.Goals as goal

pub returns-in-Ok : goal.returns-in-Ok
returns-in-Ok c =
    let accepted = given-accepted c.args.r _ _ (desk_at c.args.desk) _ c.setting.ensures _ c.in-Ok.is in
    setting-said c.args.r _ _ (desk_at c.args.desk) _ c.setting.ensures _ c.in-Ok.is
    (c.given_text.ensures accepted)

pub returns-in-Err : goal.returns-in-Err
returns-in-Err c =
    setting-said c.args.r _ _ (desk_at c.args.desk) _ c.setting.ensures _ c.in-Err.is
    (refused-said _ _ _ c.in-Err.f (desk_at c.args.desk) _ c.refusal_line.ensures)
