-- What the answers of the line functions stand for. Contracts cite these; nothing of document 01 rests on them. Assumes nothing.
use Rattle.std.specs.Prelude.{ℕ}
use Rattle.std.proofs.Math.Option.{Option, none, some}
use Rattle.text.specs.Reading.{Got, bad, got}
use Rattle.railway.specs.declared.Side.{Side}
use Rattle.railway.specs.declared.Leg.{Leg}
use Rattle.case_file.specs.Form.{EndField, section, port, JoinLine, SignalLine, TrainLine}
use Rattle.case_file.specs.Reading.{Counts}
use Rattle.case_lines.specs.SideRead.{SideRead, NoSide, SideIs}
use Rattle.case_lines.specs.LegRead.{LegRead, NoLeg, LegIs}
use Rattle.case_lines.specs.declared.NamedEnd.{NamedEnd}
use Rattle.case_lines.specs.declared.NamedEnd.TheVariants.{OfSection, OfPoint}
use Rattle.case_lines.specs.EndRead.{EndRead, NoEnd, EndIs}
use Rattle.case_lines.specs.HeaderRead.{HeaderRead, NoHeader, CountsAre}
use Rattle.case_lines.specs.JoinRead.{JoinRead, NoJoin, EndsAre}
use Rattle.case_lines.specs.SignalRead.{SignalRead, NoSignal, SignalIs}
use Rattle.case_lines.specs.NamedWeight.{NamedWeight, Unsaid, Said}
use Rattle.case_lines.specs.WeightRead.{WeightRead, NoWeight, WeightIs}
use Rattle.case_lines.specs.TrainRead.{TrainRead, NoTrain, TrainIs}

-- `u` or `d`, as it was read.
abbrev pub side_got : SideRead → Got Side
side_got NoSide = bad
side_got (SideIs s c) = got s c.at

-- `s`, `+` or `-`, as it was read.
abbrev pub leg_got : LegRead → Got Leg
leg_got NoLeg = bad
leg_got (LegIs l c) = got l c.at

-- An end that code names, as a case file does.
abbrev pub end_named : NamedEnd → EndField
end_named (OfSection n s) = section n s
end_named (OfPoint n l) = port n l

-- An end, as it was read.
abbrev pub end_got : EndRead → Got EndField
end_got NoEnd = bad
end_got (EndIs e c) = got (end_named e) c.at

-- The H line's counts, as they were read.
abbrev pub counts_got : HeaderRead → Got Counts
counts_got NoHeader = bad
counts_got (CountsAre s p k c) = got (record { sections = s; points = p; trains = k }) c.at

-- The J line of two ends that code names.
abbrev pub join_named : NamedEnd → NamedEnd → JoinLine
join_named a b = record { one = end_named a; other = end_named b }

-- A J line, as it was read.
abbrev pub join_got : JoinRead → Got JoinLine
join_got NoJoin = bad
join_got (EndsAre a b c) = got (join_named a b) c.at

-- A G line, as it was read.
abbrev pub signal_got : SignalRead → Got SignalLine
signal_got NoSignal = bad
signal_got (SignalIs n s c) = got (record { number = n; side = s }) c.at

-- A weight that code names, as a case file does.
abbrev pub weight_named : NamedWeight → Option ℕ
weight_named Unsaid = none
weight_named (Said w) = some w

-- A weight, as it was read.
abbrev pub weight_got : WeightRead → Got (Option ℕ)
weight_got NoWeight = bad
weight_got (WeightIs w c) = got (weight_named w) c.at

-- The T line of what code names.
abbrev pub train_named : Side → ℕ → ℕ → NamedWeight → TrainLine
train_named heading start destination weight = record { heading = heading; start = start; destination = destination; weight = weight_named weight }

-- A T line, as it was read.
abbrev pub train_got : TrainRead → Got TrainLine
train_got NoTrain = bad
train_got (TrainIs h s d w c) = got (train_named h s d w) c.at
