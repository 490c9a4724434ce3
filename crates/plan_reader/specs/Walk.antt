-- Reading a line of a plan at a cursor, field by field, as the code does it. Contracts cite this file; nothing of document 01 rests on it: the laws in
-- proofs/ say that what is read so is how a line is spelled. Assumes nothing.
use Rattle.std.specs.Prelude.{◌≡◌, cond, List, [], ◌∷◌, ℕ, zero, suc, ◌+◌, ◌-◌, ◌^◌, eqb, ltb, get_or}
use Rattle.text.specs.Byte.{Byte, Other, Past}
use Rattle.text.specs.Text.{byte, tab, line_end}
use Rattle.text.specs.Reading.{Got, bad, got, then, byte_at, number_at}
use Rattle.text.specs.Answers.{byte_inside}
use Rattle.railway.specs.Bounds.{most_points, most_trains}
use Rattle.game_tables.specs.Entries.{train_bits}
use Rattle.game_tables.specs.Tables.{no_figure}
use Rattle.plan.specs.Lines.{train_digit}
use Rattle.plan_reader.specs.Sections.{Sections, NoSections, SectionsAre}

-- A section from 1 to s, less one.
abbrev pub to_section : ℕ → ℕ → ℕ → Got ℕ
to_section s n c = cond (eqb n 0) bad (cond (ltb (n - 1) s) (got (n - 1) c) bad)

-- A figure that is not none.
abbrev pub to_figure : ℕ → ℕ → Got ℕ
to_figure n c = cond (ltb n no_figure) (got n c) bad

-- The bits of open trains, of which there is one at least.
abbrev pub to_opens : ℕ → ℕ → Got ℕ
to_opens v c = cond (eqb v 0) bad (got v c)

module _ (text : List ℕ) where
  -- A line begins at the cursor like a first line, with its letter `p`.
  abbrev pub BeginsLikeStart : ℕ → Type 0
  BeginsLikeStart c = get_or text c 0 ≡ byte "p"

  -- These bytes, one after the other.
  unfoldable pub word_at : List ℕ → ℕ → Got ℕ
  word_at [] c = got 0 c
  word_at (b ∷ bs) c = then (byte_inside text b c) (λ x c. word_at bs c)

  -- A number of 1 + most digits at most, and the tab behind it.
  unfoldable pub number_tab : ℕ → ℕ → Got ℕ
  number_tab most c = then (number_at text most c) (λ n c. then (byte_at text tab c) (λ b c. got n c))

  -- The section of train t; 0, and nothing is read, for a train that is not one of k.
  unfoldable pub section_at : ℕ → ℕ → ℕ → ℕ → Got ℕ
  section_at s k t c = cond (ltb t k) (then (number_tab 2 c) (to_section s)) (got 0 c)

  -- The sections of four trains, one behind the other.
  unfoldable pub sections_at : ℕ → ℕ → ℕ → Got (List ℕ)
  sections_at s k c =
      then (section_at s k 0 c) (λ x c.
      then (section_at s k 1 c) (λ y c.
      then (section_at s k 2 c) (λ z c.
      then (section_at s k 3 c) (λ w c. got (x ∷ y ∷ z ∷ w ∷ []) c))))

  -- A figure at the cursor.
  unfoldable pub figure_at : ℕ → Got ℕ
  figure_at c = then (number_at text 9 c) to_figure

  -- The digits of those of so many trains, from train t on, that are open, rising; their bits, with those before them, which make v.
  unfoldable pub trains_at : ℕ → ℕ → ℕ → ℕ → Got ℕ
  trains_at zero t v c = got v c
  trains_at (suc left) t v c = cond (eqb (get_or text c 0) (train_digit t)) (trains_at left (suc t) (v + 2 ^ (train_bits + t)) (c + 1)) (trains_at left (suc t) v c)

  -- Open trains of k: `0` for none, or their digits.
  unfoldable pub opens_at : ℕ → ℕ → Got ℕ
  opens_at k c = cond (eqb (get_or text c 0) (byte "0")) (got 0 (c + 1)) (then (trains_at k 0 0 c) to_opens)

  -- The signs of so many points, from point i on; the bits of those at plus, with those before them, which make v.
  unfoldable pub signs_at : ℕ → ℕ → ℕ → ℕ → Got ℕ
  signs_at zero i v c = got v c
  signs_at (suc left) i v c =
      cond (eqb (get_or text c 0) (byte "+"))
      (signs_at left (suc i) (v + 2 ^ i) (c + 1))
      (cond (eqb (get_or text c 0) (byte "-")) (signs_at left (suc i) v (c + 1)) bad)

  -- The points: `.` for none, or their signs.
  unfoldable pub points_at : ℕ → ℕ → Got ℕ
  points_at m c = cond (eqb m 0) (then (byte_at text (byte ".") c) (λ b c. got 0 c)) (signs_at m 0 0 c)

  -- The entry of the setting table that open trains and points make, each behind a tab, and the line end behind them.
  unfoldable pub fields_at : ℕ → ℕ → ℕ → Got ℕ
  fields_at k m c =
      then (byte_at text tab c) (λ b c.
      then (opens_at k c) (λ o c.
      then (byte_at text tab c) (λ b c.
      then (points_at m c) (λ p c.
      then (byte_at text line_end c) (λ b c. got (p + o) c)))))

  -- It, of no more trains and points than a case can have.
  unfoldable pub entry_at : ℕ → ℕ → ℕ → Got ℕ
  entry_at k m c = cond (ltb most_trains k) bad (cond (ltb most_points m) bad (fields_at k m c))

-- What the answer on the sections stands for.
abbrev pub sections_got : Sections → Got (List ℕ)
sections_got NoSections = bad
sections_got (SectionsAre q c) = got q.sections c.at

-- What passing a word stands for.
abbrev pub word_got : Byte → Got ℕ
word_got Other = bad
word_got (Past c) = got 0 c.at
