-- Q-1, Q-9 and Q-11 of the calls that run: each contract computes to its promise, and asks nothing. Assumes nothing.
use mathlib.Core.Path.{refl}
use Rattle.desk_calls.proofs.Desk.open.Met as opened
use Rattle.desk_calls.proofs.Desk.setting.Met as setting
use Rattle.desk_calls.proofs.Desk.report.Met as report
use Rattle.desk_calls.proofs.Desk.change.Met as change
use Rattle.desk.proofs.Following.{desk-holds}
use Rattle.desk.proofs.Change.{change-holds}
use Rattle.statements.specs.Desks.{DesksRun}
use Rattle.statements.proofs.Running.{end-to-end-runs}

pub desks-run : DesksRun
desks-run =
    record {
      whole = desk-holds;
      change = change-holds;
      solver = end-to-end-runs.solver;
      opens = record { asks = λ κs a. tt; tells = λ κs a answer left. refl; meets = opened.met };
      settings = record { asks = λ κs a. tt; tells = λ κs a answer left. refl; meets = setting.met };
      reports = record { asks = λ κs a. tt; tells = λ κs a answer left. refl; meets = report.met };
      changes = record { asks = λ κs a. tt; tells = λ κs a answer left. refl; meets = change.met };
    }
