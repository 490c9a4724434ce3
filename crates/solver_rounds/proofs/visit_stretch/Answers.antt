-- `solver_rounds::visit_stretch` meets its contract: the stretch is not due by the weight, or its codes are visited, and it is
-- marked when it is due again. Assumes nothing.
use Rattle.railway.proofs.Rows.{accepted-facts}
use Rattle.solver_rounds.proofs.Visits.{visited-less, visited-marked}
use Rattle.solver_rounds.proofs.Rounds.{due-again}
use Rattle.solver_rounds.proofs.visit_stretch.Goals as goal

pub returns : goal.returns
returns c =
    λ r o runs first st.
    let x = c.visit_codes.ensures r (record { train = c.args.t; code = c.args.codes.from }) o in
    visited-marked (visited-less x (λ q l k. rw (c.weight_in-w.ensures r o.compiled) k))
    (due-again r c.args.this.now c.args.t c.args.codes o.counted c.requires.2 st c.requires.3 runs first x.marked _
    c.most_at-most.ensures _ (c.due_behind-due.ensures r o.compiled) _ c.set_due.ensures
    (accepted-facts r o.compiled.accepted).bounds.few-trains)
