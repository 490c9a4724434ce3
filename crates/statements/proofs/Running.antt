-- Demand 3 of the calls that run: each contract computes to its promise, and asks nothing, so what plan/EndToEnd has of any solver, emitter and checker that
-- keep their promises holds of these; that the routines meet their contracts the prover has shown of each. Assumes nothing.
use mathlib.Core.Path.{refl}
use Rattle.solver.proofs.solve.Met as solve
use Rattle.plan_emitter.proofs.emit_line.Met as emit
use Rattle.plan_emitter.proofs.emit_lines.Met as lines
use Rattle.plan_checker.proofs.Checker.fresh.Met as fresh
use Rattle.plan_checker.proofs.Checker.take.Met as take
use Rattle.plan_checker.proofs.Checker.take_front.Met as front
use Rattle.plan_checker.proofs.Checker.test.Met as test
use Rattle.plan.proofs.EndToEnd.{end-to-end-holds}
use Rattle.statements.specs.Running.{SolvedHolds, EndToEndRuns}

pub solved-holds : SolvedHolds
solved-holds κs a answer left accepted figs sets learnt =
    end-to-end-holds a.0 answer a.1.0.now a.1.1.0.now left.1.0.now left.1.1.0.now accepted figs sets learnt

pub end-to-end-runs : EndToEndRuns
end-to-end-runs =
    record {
      whole = solved-holds;
      solver = record { asks = λ κs a. tt; tells = λ κs a answer left. refl; meets = solve.met };
      emitter = record { asks = λ κs a. tt; tells = λ κs a answer left. refl; meets = emit.met };
      fresh = record { asks = λ κs a. tt; tells = λ κs a answer left. refl; meets = fresh.met };
      take = record { asks = λ κs a. tt; tells = λ κs a answer left. refl; meets = take.met };
      test = record { asks = λ κs a. tt; tells = λ κs a answer left. refl; meets = test.met };
      lines = record { asks = λ κs a. tt; tells = λ κs a answer left. refl; meets = lines.met };
      front = record { asks = λ κs a. tt; tells = λ κs a answer left. refl; meets = front.met };
    }
