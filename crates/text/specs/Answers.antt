-- What the answers of the reading functions stand for. Contracts cite these; nothing of document 01 rests on them. Assumes nothing.
use Rattle.std.specs.Prelude.{cond, List, ℕ, ltb, length}
use Rattle.text.specs.declared.Width.{Width}
use Rattle.text.specs.declared.Width.TheVariants.{Three, Ten}
use Rattle.std.specs.Prelude.{None}
use Rattle.text.specs.Number.{Number, Value}
use Rattle.text.specs.Byte.{Byte, Other, Past}
use Rattle.text.specs.Reading.{Got, bad, got, byte_at}

-- The digits that a number may have behind its first.
abbrev pub more_digits : Width → ℕ
more_digits Three = 2
more_digits Ten = 9

-- A number, if one was read.
abbrev pub number_got : Number → Got ℕ
number_got None = bad
number_got (Value n c) = got n c.at

-- The byte b, if it was passed.
abbrev pub byte_got : ℕ → Byte → Got ℕ
byte_got b Other = bad
byte_got b (Past c) = got b c.at

-- The byte b, inside the text. For every b but 0 that is `byte_at`.
unfoldable pub byte_inside : List ℕ → ℕ → ℕ → Got ℕ
byte_inside s b c = cond (ltb c (length s)) (byte_at s b c) bad
