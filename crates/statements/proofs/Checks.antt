-- Demand 2's sentence on the checker: calls that keep their promises are those of the functions in plan/Checker, of which plan/Checked has it. Assumes nothing.
use mathlib.Core.Path.{◌≡◌, sym, ◌∙◌}
use Rattle.plan.specs.Checker.{call_lines, taken_texts}
use Rattle.plan.specs.Checked.{Checked}
use Rattle.plan.proofs.Calls.{taking-one}
use Rattle.plan.proofs.Fresh.{fresh-made}
use Rattle.plan.proofs.Checked.{checked-holds}
use Rattle.statements.specs.Checks.{CheckerHolds, CheckerRuns}
use Rattle.statements.proofs.Running.{end-to-end-runs}

pub checker-holds : CheckerHolds
checker-holds r accepted lent₁ lent₂ made c i j fresh texts u calls a c' post =
    let t : u ≡ call_lines r texts c = taking-one r c texts u calls in
    let h : Checked r texts u.answers (taken_texts u.answers texts) u.end = rw t (checked-holds r accepted c (fresh-made r lent₁ lent₂ made c accepted i j fresh) texts) in (
      h,
      record {
        passes = (λ e. h.passes.0 (sym post.answer ∙ e), λ e. post.answer ∙ h.passes.1 e);
        faulty = (λ e. h.faulty.0 (sym post.answer ∙ e), λ e. post.answer ∙ h.faulty.1 e);
        early = (λ e. h.early.0 (sym post.answer ∙ e), λ e. post.answer ∙ h.early.1 e);
      },
    )

pub checker-runs : CheckerRuns
checker-runs = record { whole = checker-holds; fresh = end-to-end-runs.fresh; take = end-to-end-runs.take; test = end-to-end-runs.test }
