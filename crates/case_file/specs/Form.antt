-- The form of a case text (document 01, "The case file"; document 02, Q-5 and Q-12): what such a text says, and how it is spelled. A text is in form if some well-formed
-- description spells it. Sections, points and trains count from 1 here, as in the text, and 0 can be written. Assumes nothing.
use Rattle.std.specs.Prelude.{◌≡◌, Bool, false, ◌&&◌, ℕ, suc, ◌<◌, eqb, length}
use mathlib.Core.List.{List, [], ◌∷◌, ◌++◌, flat_map}
use Rattle.std.proofs.Math.Option.{Option, none, some}
use Rattle.laws.specs.Lists.{Every}
use Rattle.text.specs.Text.{byte, decimal, line}
use Rattle.railway.specs.declared.Side.{Side}
use Rattle.railway.specs.declared.Side.TheVariants.{Up, Down}
use Rattle.railway.specs.declared.Leg.{Leg}
use Rattle.railway.specs.declared.Leg.TheVariants.{Stem, Plus, Minus}
use Rattle.railway.specs.Ends.{same_side, leg_index}

-- WHAT A TEXT SAYS. An end as it is written: a section's `7u`, `7d`, or a point's `2s`, `2+`, `2-`.
pub data EndField : Type 0 where
  section : ℕ → Side → EndField
  port : ℕ → Leg → EndField

-- A J line: its two ends, as they follow each other there.
pub record JoinLine : Type 0 where
  pub one : EndField
  pub other : EndField

-- A G line: the section end that it names.
pub record SignalLine : Type 0 where
  pub number : ℕ
  pub side : Side

-- A T line but for its train number, which is its place among the T lines. Its weight may be written or not.
pub record TrainLine : Type 0 where
  pub heading : Side
  pub start : ℕ
  pub destination : ℕ
  pub weight : Option ℕ

-- The whole: the counts of the H line, the side of the legs from each P line, the J and G lines, the section of each X line, and the T lines, all in the
-- text's order.
pub record Description : Type 0 where
  pub sections : ℕ
  pub points : ℕ
  pub trains : ℕ
  pub legs : List Side
  pub joins : List JoinLine
  pub signals : List SignalLine
  pub closed : List ℕ
  pub roster : List TrainLine

-- WHAT NAMES THE SAME. Two fields name one end.
abbrev pub same_end : EndField → EndField → Bool
same_end (section m s) (section n t) = eqb m n && same_side s t
same_end (section m s) (port n l) = false
same_end (port m l) (section n s) = false
same_end (port m l) (port n k) = eqb m n && eqb (leg_index l) (leg_index k)

-- Two G lines name one section end.
abbrev pub same_signal : SignalLine → SignalLine → Bool
same_signal g h = eqb g.number h.number && same_side g.side h.side

-- THE WEIGHT that a T line says (document 02, Q-12). That of a train whose line has none: 1.
abbrev pub unsaid_weight : ℕ
unsaid_weight = 1

-- What the line says: the weight that is written, or else this one.
abbrev pub said_weight : Option ℕ → ℕ
said_weight none = unsaid_weight
said_weight (some w) = w

-- FIELDS. A side or a heading: `u` or `d`.
abbrev pub side_byte : Side → ℕ
side_byte Up = byte "u"
side_byte Down = byte "d"

-- A point's port: `s` is the stem, `+` plus, `-` minus.
abbrev pub leg_byte : Leg → ℕ
leg_byte Stem = byte "s"
leg_byte Plus = byte "+"
leg_byte Minus = byte "-"

-- A section end: the number, its side behind it.
abbrev pub section_field : ℕ → Side → List ℕ
section_field n s = decimal n ++ (side_byte s ∷ [])

-- Either kind of end.
abbrev pub end_field : EndField → List ℕ
end_field (section n s) = section_field n s
end_field (port n l) = decimal n ++ (leg_byte l ∷ [])

-- The field of a weight, if one is written.
abbrev pub weight_field : Option ℕ → List (List ℕ)
weight_field none = []
weight_field (some w) = decimal w ∷ []

-- LINES. H: the three counts.
abbrev pub header_line : Description → List ℕ
header_line d = line ((byte "H" ∷ []) ∷ decimal d.sections ∷ decimal d.points ∷ decimal d.trains ∷ [])

-- P: a point's number, and on which side its legs are.
abbrev pub point_line : ℕ → Side → List ℕ
point_line n s = line ((byte "P" ∷ []) ∷ decimal n ∷ (side_byte s ∷ []) ∷ [])

-- J: the ends that are tied.
abbrev pub join_line : JoinLine → List ℕ
join_line j = line ((byte "J" ∷ []) ∷ end_field j.one ∷ end_field j.other ∷ [])

-- G: where the signal stands.
abbrev pub signal_line : SignalLine → List ℕ
signal_line g = line ((byte "G" ∷ []) ∷ section_field g.number g.side ∷ [])

-- X: a closed section (document 02, Q-5).
abbrev pub closed_line : ℕ → List ℕ
closed_line n = line ((byte "X" ∷ []) ∷ decimal n ∷ [])

-- T: a train's number, which way it heads, from which section and to which; the weight behind them, if it is written.
abbrev pub train_line : ℕ → TrainLine → List ℕ
train_line n t = line ((byte "T" ∷ []) ∷ decimal n ∷ (side_byte t.heading ∷ []) ∷ decimal t.start ∷ decimal t.destination ∷ weight_field t.weight)

-- THE TEXT. Lines numbered from n upwards, as P and T lines are.
unfoldable pub rising : {A : Type 0} → (ℕ → A → List ℕ) → ℕ → List A → List ℕ
rising f n [] = []
rising f n (x ∷ xs) = f n x ++ rising f (suc n) xs

-- The lines in their order; J, G and X lines as they come.
unfoldable pub spell : Description → List ℕ
spell d =
    header_line d
    ++ (rising point_line 1 d.legs
    ++ (flat_map join_line d.joins
    ++ (flat_map signal_line d.signals
    ++ (flat_map closed_line d.closed
    ++ rising train_line 1 d.roster))))

-- WELL FORMED. A number that one to three digits can write.
abbrev pub Writable : ℕ → Type 0
Writable n = n < 1000

-- An end whose number can be written.
abbrev pub WritableEnd : EndField → Type 0
WritableEnd (section n s) = Writable n
WritableEnd (port n l) = Writable n

-- A J line whose two numbers can be written.
abbrev pub WritableJoin : JoinLine → Type 0
WritableJoin j = WritableEnd j.one × WritableEnd j.other

-- A G line whose number can be written.
abbrev pub WritableSignal : SignalLine → Type 0
WritableSignal g = Writable g.number

-- No weight, or one that can be written.
abbrev pub WritableWeight : Option ℕ → Type 0
WritableWeight none = Unit {0}
WritableWeight (some w) = Writable w

-- A T line whose start, destination and weight can be written; its own number is at most the H line's.
abbrev pub WritableTrain : TrainLine → Type 0
WritableTrain t = Writable t.start × Writable t.destination × WritableWeight t.weight

-- Every number can be written, and there is one P line a point and one T line a train.
pub record WellFormed (d : Description) : Type 0 where
  pub sections : Writable d.sections
  pub points : Writable d.points
  pub trains : Writable d.trains
  pub joins : Every WritableJoin d.joins
  pub signals : Every WritableSignal d.signals
  pub closed : Every Writable d.closed
  pub roster : Every WritableTrain d.roster
  pub one-a-point : length d.legs ≡ d.points
  pub one-a-train : length d.roster ≡ d.trains

-- A text says what a well-formed description says that spells it.
pub record Describes (text : List ℕ) (d : Description) : Type 0 where
  pub well-formed : WellFormed d
  pub spelling : spell d ≡ text
