-- `desk_text::given_text` meets its contract: `home` if all trains have arrived, else the line of the state, by the code that the desk carries.
-- Assumes nothing.
use Rattle.desk_calls.specs.Answers.{desk_at}
use Rattle.desk_text.proofs.Said.{given-home, given-away}
use Rattle.desk_text.proofs.given_text.Goals as goal

pub returns-then-desk-r : goal.returns-then-desk-r
returns-then-desk-r c =
    λ accepted.
    given-home c.args.r c.args.figures.now (desk_at c.args.desk) c.args.v _ _ _ c.if-desk-r.true c.home_line.ensures

pub returns : goal.returns
returns c =
    λ accepted.
    given-away c.args.r c.args.figures.now (desk_at c.args.desk) c.args.v _ _ _ accepted c.if-desk-r.false _ c.entry_at-n.ensures
    c.put_state.ensures
