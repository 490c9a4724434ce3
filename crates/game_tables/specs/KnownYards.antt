-- What document 01, "Yards to try", gives as known of its yards, with parking (document 02, Q-2), as one table: figures, and the plan's text
-- where it is written out. Here is what the figures say; what the texts say, and the statement for the whole, is in Outputs of crate plan, which knows a plan's text.
-- Assumes nothing.
use Rattle.std.specs.Prelude.{◌≡◌, Bool, true, false, ◌&&◌, List, [], ◌∷◌, map, ℕ, ◌-◌, length, leb}
use Rattle.std.proofs.Math.Option.{Option, none, some}
use Prim.Native.String.{String}
use Rattle.laws.specs.Lists.{all}
use Rattle.railway.specs.declared.Railway.{Railway}
use Rattle.railway.specs.Rows.{record_refusal}
use Rattle.game.specs.Game.{IsFigure}
use Rattle.game.specs.Placement.{code_of, start_code}
use Rattle.game.specs.Moves.{game_of}
use Rattle.railway.specs.Yards.{yard_a, yard_aless, yard_one, yard_one_down, up_one_two, up_two_one, up_two_one_held, head_on}

-- A known figure: in this yard the placement, with the document's section numbers, has this figure; it is said of the start or of any placement,
-- and the plan's text for the yard is said or not.
pub record KnownFigure : Type 0 where
  pub yard : Railway
  pub of_start : Bool
  pub sections : List ℕ
  pub figure : Option ℕ
  pub text : Option String

-- A figure said of a placement.
abbrev pub placed : Railway → List ℕ → Option ℕ → KnownFigure
placed r xs f = record { yard = r; of_start = false; sections = xs; figure = f; text = none }

-- A figure said of the start.
abbrev pub started : Railway → List ℕ → Option ℕ → KnownFigure
started r xs f = record { yard = r; of_start = true; sections = xs; figure = f; text = none }

-- The start's, with the plan's text.
abbrev pub started_with : Railway → List ℕ → ℕ → String → KnownFigure
started_with r xs n text = record { yard = r; of_start = true; sections = xs; figure = some n; text = some text }

-- What Yard A gives, with its signal at 1d and without it.
abbrev pub plan_a : String
plan_a = "plan\t2\n2\t1\t1\t1\t-\n3\t1\t0\t0\t-\n2\t3\t2\t0\t+\n"

-- What the yard with one section gives, whose train starts at home.
abbrev pub plan_one : String
plan_one = "plan\t0\n1\t0\t0\t.\n"

-- The known figures, in the document's order. The train of the yard with one section may head either way.
abbrev pub known_figures : List KnownFigure
known_figures =
    started_with yard_a (2 ∷ 3 ∷ []) 2 plan_a
    ∷ placed yard_a (2 ∷ 1 ∷ []) (some 1)
    ∷ placed yard_a (3 ∷ 1 ∷ []) (some 0)
    ∷ placed yard_a (1 ∷ 3 ∷ []) none
    ∷ placed yard_a (3 ∷ 2 ∷ []) none
    ∷ placed yard_a (1 ∷ 1 ∷ []) none
    ∷ started_with yard_aless (2 ∷ 3 ∷ []) 2 plan_a
    ∷ started_with yard_one (1 ∷ []) 0 plan_one
    ∷ started_with yard_one_down (1 ∷ []) 0 plan_one
    ∷ started up_one_two (1 ∷ []) (some 1)
    ∷ started up_two_one (2 ∷ []) none
    ∷ started up_two_one_held (2 ∷ []) none
    ∷ started head_on (1 ∷ 2 ∷ []) none
    ∷ []

-- The code of that placement.
abbrev pub known_code : KnownFigure → ℕ
known_code x = code_of x.yard.sections (map (λ n. n - 1) x.sections)

-- A known figure holds: the yard is accepted; the placement is one of its own, with a section that is there for each train, so that its
-- code is one of the yard's; it is the start where that is meant; and it has the figure by the rules for whole plays.
pub record Holds (x : KnownFigure) : Type 0 where
  pub accepted : record_refusal x.yard ≡ none
  pub each-train : length x.sections ≡ x.yard.trains
  pub there : all (λ n. leb 1 n && leb n x.yard.sections) x.sections ≡ true
  pub start : x.of_start ≡ true → start_code x.yard ≡ known_code x
  pub figure : IsFigure (game_of x.yard) (known_code x) x.figure

-- Each of a list of known figures holds.
abbrev pub AllHold : List KnownFigure → Type 0
AllHold [] = Unit {0}
AllHold (x ∷ xs) = Holds x × AllHold xs

-- So does each of the table.
abbrev pub KnownFiguresHold : Type 0
KnownFiguresHold = AllHold known_figures
