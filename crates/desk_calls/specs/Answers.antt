-- The desk of the calls, and what they answer, as desk/Desk speaks of them (document 02, Q-1, Q-9 and Q-11). Assumes nothing.
use Rattle.std.specs.Prelude.{Option, Some, None, Result, Ok, Err}
use Rattle.railway.specs.declared.Refusal.{Refusal}
use Rattle.desk.specs.OpenAnswer.{Opened, NoFigure, Refused}
use Rattle.desk.specs.ReportAnswer.{ReportAnswer, Counted, Refused as NotCounted}
use Rattle.desk.specs.ChangeAnswer.{ChangeAnswer}
use Rattle.desk.specs.Desk.{Desk as DeskAt, no_desk, Opening, Reply}
use Rattle.desk.specs.Change.{Changing}
use Rattle.desk_calls.specs.declared.Desk.{Desk}

-- A desk, all of it.
abbrev pub desk_at : Desk → DeskAt
desk_at d = record { at = d.at; code = d.code; arrived = d.arrived }

-- What opening answers. Where no desk is opened, one that stands nowhere is beside the answer.
abbrev pub opening : Result (Option Desk) Refusal → Opening
opening (Ok (Some d)) = record { answer = Opened; desk = desk_at d }
opening (Ok None) = record { answer = NoFigure; desk = no_desk }
opening (Err f) = record { answer = Refused f; desk = no_desk }

-- What a report answers, and the desk behind it.
abbrev pub replied : ReportAnswer → Desk → Reply
replied a d = record { answer = a; desk = desk_at d }

-- The same of the desk that a report leads to, or its refusal.
abbrev pub behind : Desk → Result Desk Refusal → Reply
behind d (Ok e) = replied Counted e
behind d (Err f) = replied (NotCounted f) d

-- What a change of case answers, and the desk behind it.
abbrev pub changing : ChangeAnswer → Desk → Changing
changing a d = record { answer = a; desk = desk_at d }
