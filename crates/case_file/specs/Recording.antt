-- The railway of a description (document 01, "The railway" and "The case file"): the record that a case text is read into, with its legs, joins,
-- signals, closed sections and trains from the P, J, G, X and T lines. It counts from 0. `Claims` has what it answers, field by field, in words of its own.
-- Assumes nothing.
use Rattle.std.specs.Prelude.{cond, List, [], ◌∷◌, ℕ, suc, ◌-◌, ◌/◌, ◌%◌, eqb, get_or}
use Rattle.std.proofs.Math.Option.{none}
use Rattle.laws.specs.Below.{list_below}
use Rattle.laws.specs.Lists.{any}
use Rattle.railway.specs.declared.Side.TheVariants.{Up}
use Rattle.railway.specs.declared.End.{End}
use Rattle.railway.specs.declared.End.TheVariants.{Section, Port}
use Rattle.railway.specs.Joined.{Joined, Nothing, With}
use Rattle.railway.specs.declared.Train.{Train}
use Rattle.railway.specs.declared.Railway.{Railway}
use Rattle.railway.specs.Bounds.{most_sections, most_points, most_trains, section_ends, all_ends}
use Rattle.railway.specs.Ends.{side_at, end_at}
use Rattle.railway.specs.Record.{link_byte}
use Rattle.case_file.specs.Form.{EndField, section, port, JoinLine, SignalLine, TrainLine, Description, said_weight, same_end, same_signal}

-- An end as written, in the record: its number less one.
abbrev pub end_of : EndField → End
end_of (section n s) = Section (record { 0 = n - 1 }) s
end_of (port n l) = Port (record { 0 = n - 1 }) l

-- An end of the record, as it is written.
abbrev pub field_of : End → EndField
field_of (Section n s) = section (suc n.0) s
field_of (Port n l) = port (suc n.0) l

-- What the J lines join an end to.
unfoldable pub partner : List JoinLine → EndField → Joined
partner [] e = Nothing
partner (j ∷ js) e = cond (same_end e j.one) (With (end_of j.other)) (cond (same_end e j.other) (With (end_of j.one)) (partner js e))

-- The G line that names the section end of an index.
abbrev pub signal_of : ℕ → SignalLine
signal_of i = record { number = suc (i / 2); side = side_at (i % 2) }

-- What a T line says of its train, in the record.
abbrev pub train_of_line : TrainLine → Train
train_of_line t = record { heading = t.heading; start = record { 0 = t.start - 1 }; destination = record { 0 = t.destination - 1 }; weight = said_weight t.weight }

-- What stands for a T line that is not there.
abbrev pub no_train_line : TrainLine
no_train_line = record { heading = Up; start = 1; destination = 1; weight = none }

-- The railway of a description.
unfoldable pub railway_of : Description → Railway
railway_of d =
    record {
      sections = d.sections;
      points = d.points;
      trains = d.trains;
      legs = list_below (λ n. record { side = get_or d.legs n Up }) most_points;
      links = list_below (λ i. link_byte (partner d.joins (field_of (end_at i)))) all_ends;
      signals = list_below (λ i. any (same_signal (signal_of i)) d.signals) section_ends;
      closed = list_below (λ x. any (eqb (suc x)) d.closed) most_sections;
      roster = list_below (λ t. train_of_line (get_or d.roster t no_train_line)) most_trains;
    }
