-- HOW MANY STARTS ARE GOOD (document 02, Q-8): in which count a placement is, the counts of a figure table, what a call for them promises; and the statement that each is the number of
-- placements with that figure, by whole plays where a solver filled the table, and that they add up. Assumes nothing.
use Rattle.std.specs.Prelude.{◌≡◌, ◌↔◌, Bool, true, cond, List, [], ◌∷◌, ◌++◌, ℕ, ◌≤◌, ◌<◌, length, get_or, replicate, ltb, eqb, Result, Ok, Err}
use Rattle.std.proofs.Math.Option.{Option, none, some}
use Rattle.laws.specs.Below.{count_below, sum_below, list_below}
use Rattle.railway.specs.declared.Railway.{Railway}
use Rattle.railway.specs.declared.Refusal.{Refusal}
use Rattle.railway.specs.declared.Refusal.TheVariants.{Space}
use Rattle.railway.specs.Refusals.{number, number_of, Row, row, first}
use Rattle.railway.specs.Rows.{record_rows, record_refusal}
use Rattle.game.specs.Game.{IsFigure}
use Rattle.game.specs.Placement.{placements, shared}
use Rattle.game.specs.Moves.{game_of}
use Rattle.game_tables.specs.SolverAnswer.{SolverAnswer}
use Rattle.game_tables.specs.Tables.{no_figure, figure_in}
use Rattle.game_tables.specs.Solver.{SolverPost}
use Rattle.counts.specs.CountAnswer.{CountAnswer, Counted, Refused}

-- THE COUNTS. So many figures have a count of their own: 0 to 254.
abbrev pub alone : ℕ
alone = 255

-- Behind these stands the count of all greater figures, and last that of the placements without one.
abbrev pub classes : ℕ
classes = 257

-- In which count a placement is, by its figure, or that it has none.
abbrev pub class_of : Option ℕ → ℕ
class_of none = 256
class_of (some n) = cond (ltb n alone) n 255

-- The placement of code p is in count i, by a figure table.
unfoldable pub in_class : List ℕ → ℕ → ℕ → Bool
in_class figs i p = eqb (class_of (figure_in figs p)) i

-- Count i of a railway: so many of its placements are in it, those that count as lost among them, and no entry past the last code.
abbrev pub count_of : Railway → List ℕ → ℕ → ℕ
count_of r figs i = count_below (in_class figs i) (placements r)

-- THE ROWS. 9, space: the figure table, which alone is lent, has fewer entries than there are placements.
abbrev pub table_short : Railway → List ℕ → Bool
table_short r figs = ltb (length figs) (placements r)

-- Those that judge a record, then 9.
abbrev pub count_rows : Railway → List ℕ → List Row
count_rows r figs = record_rows r ++ (row Space (table_short r figs) ∷ [])

-- The first of them that applies.
unfoldable pub count_refusal : Railway → List ℕ → Option Refusal
count_refusal r figs = first (count_rows r figs)

-- THE REPLY: an answer, and the counts.
pub record CountReply : Type 0 where
  pub answer : CountAnswer
  pub counts : List ℕ

-- With the counts; or a refusal, with zeros.
abbrev pub reply_of : Result (List ℕ) Refusal → CountReply
reply_of (Ok counts) = record { answer = Counted; counts = counts }
reply_of (Err f) = record { answer = Refused f; counts = replicate classes 0 }

-- By what is refused: all counts beside the answer; or the refusal, with zeros.
abbrev pub reply_by : Railway → List ℕ → Option Refusal → CountReply
reply_by r figs none = record { answer = Counted; counts = list_below (count_of r figs) classes }
reply_by r figs (some f) = record { answer = Refused f; counts = replicate classes 0 }

-- The number, in the table, of the refusal that an answer gives, if it does.
abbrev pub count_number : CountAnswer → Option ℕ
count_number Counted = none
count_number (Refused f) = some (number f)

-- COUNTING PROMISES that, of a record and a figure table. The table is only read.
pub record CountPost (r : Railway) (figs : List ℕ) (x : CountReply) : Type 0 where
  pub numbered : count_number x.answer ≡ number_of (count_refusal r figs)
  pub replied : x ≡ reply_by r figs (count_refusal r figs)

-- THE CLAIMS. Of the codes below m there are n that are such: a test passes just these, and n pass it.
pub record NumberOf (Such : ℕ → Type 0) (m n : ℕ) : Type 0 where
  pub test : ℕ → Bool
  pub exact : (p : ℕ) → p < m → (test p ≡ true) ↔ Such p
  pub many : n ≡ count_below test m

-- The counts say how the figures of m placements are spread; `Is p f` says that the placement of code p has figure f, or none.
pub record Spread (Is : ℕ → Option ℕ → Type 0) (m : ℕ) (counts : List ℕ) : Type 0 where
  -- count n is the number of placements with figure n, from 0 to 254
  pub each : (n : ℕ) → n ≤ 254 → NumberOf (λ p. Is p (some n)) m (get_or counts n 0)
  -- count 255 is the number of those with a greater one
  pub greater : NumberOf (λ p. (n : ℕ) × (254 < n) × Is p (some n)) m (get_or counts 255 0)
  -- count 256 is the number of those with none
  pub without : NumberOf (λ p. Is p none) m (get_or counts 256 0)
  -- there are no further counts
  pub sized : length counts ≡ 257
  -- they add up to all placements
  pub adds-up : sum_below (λ i. get_or counts i 0) 257 ≡ m

-- Of any figure table.
pub record CountClaims (r : Railway) (figs : List ℕ) (x : CountReply) : Type 0 where
  -- there are counts exactly if the record is accepted and the table long enough
  pub counted : (x.answer ≡ Counted) ↔ ((record_refusal r ≡ none) × (placements r ≤ length figs))
  -- they are those of the table's entries
  pub spread : x.answer ≡ Counted → Spread (λ p f. figure_in figs p ≡ f) (placements r) x.counts
  -- what the test of a record gives is given before 9
  pub record-first : (f : Refusal) → record_refusal r ≡ some f → x.answer ≡ Refused f
  -- 9 exactly if the record is accepted and the table too short
  pub nine : (count_number x.answer ≡ some 9) ↔ ((record_refusal r ≡ none) × (length figs < placements r))
  -- a refusal has zeros beside it
  pub zeros : (f : Refusal) → x.answer ≡ Refused f → (i : ℕ) → get_or x.counts i 0 ≡ 0
  -- no entry past the last code is read: with another table that is long enough, and has the same below, the reply is the same
  pub unread : (other : List ℕ) → placements r ≤ length figs → placements r ≤ length other → ((p : ℕ) → p < placements r → get_or other p no_figure ≡ get_or figs p no_figure)
      → (y : CountReply) → CountPost r other y → y ≡ x

-- WITH THE SOLVER'S TABLE, in an accepted case with tables that are long enough: there are counts, and they are those of the figures by whole plays.
abbrev pub SolvedCounts : Type 0
SolvedCounts =
    (r : Railway) (a : SolverAnswer) (figs sets figs₁ sets₁ : List ℕ) → record_refusal r ≡ none → placements r ≤ length figs → placements r ≤ length sets
    → SolverPost r a figs sets figs₁ sets₁ → (x : CountReply) → CountPost r figs₁ x → (x.answer ≡ Counted) × Spread (IsFigure (game_of r)) (placements r) x.counts

-- Q-8.
pub record CountsHold : Type 1 where
  pub claims : (r : Railway) (figs : List ℕ) (x : CountReply) → CountPost r figs x → CountClaims r figs x
  pub solved : SolvedCounts
  -- a placement that counts as lost has no figure, so it is counted last
  pub lost : (r : Railway) (p : ℕ) → shared r p ≡ true → IsFigure (game_of r) p none
  -- how many are such is one number
  pub one_number : (Such : ℕ → Type 0) (m a b : ℕ) → NumberOf Such m a → NumberOf Such m b → a ≡ b
  -- there is such a reply, for every record and any table
  pub answered : (r : Railway) (figs : List ℕ) → (x : CountReply) × CountPost r figs x
