-- What the exported calls for a search promise, by what reader and searcher promise: the reader's rows judge the case text, those of the case its railway and the tables. The
-- search and a placement are handed over as numbers, of which any may come. Assumes nothing.
use Rattle.std.specs.Prelude.{◌≡◌, cond, not, List, [], ◌∷◌, ℕ, ◌-◌, get_or, eqb}
use Rattle.std.proofs.Math.Option
use Rattle.std.proofs.Math.Option.{none}
use Rattle.railway.specs.declared.Railway.{Railway}
use Rattle.railway.specs.Refusals.{number}
use Rattle.case_reader.specs.Answers.{ByCase}
use Rattle.game_placement.specs.declared.Placement.{Placement}
use Rattle.game_placement.specs.ByValue.{section_in}
use Rattle.search.specs.declared.Search.{Search}
use Rattle.search.specs.SearchAnswer.{SearchAnswer, Going, Ended, Refused}
use Rattle.search.specs.Shown.{Shown, Figure, NotYet, NoFigure, Refused as ShownRefused}
use Rattle.search.specs.Searching.{State, number_given, OpenPost, SearchPost, looked_up}

-- THE SEARCH as three numbers: the rounds finished, 1 if it has ended and else 0, and what is coming.
abbrev pub search_numbers : Search → List ℕ
search_numbers s = s.rounds ∷ cond s.ended 1 0 ∷ s.coming ∷ []

-- The search that three numbers stand for: it has ended, unless the second is 0.
abbrev pub search_of : List ℕ → Search
search_of ns = record { rounds = get_or ns 0 0; ended = not (eqb (get_or ns 1 0) 0); coming = get_or ns 2 0 }

-- A search in numbers stands for itself.
abbrev pub AllStandForThemselves : Type 0
AllStandForThemselves = (s : Search) → search_of (search_numbers s) ≡ s

-- What is lent: these numbers, the two tables and the marks.
pub record Lent : Type 0 where
  pub state : List ℕ
  pub figs : List ℕ
  pub sets : List ℕ
  pub marks : List ℕ

-- They by themselves.
abbrev pub lent : List ℕ → List ℕ → List ℕ → List ℕ → Lent
lent state figs sets marks = record { state = state; figs = figs; sets = sets; marks = marks }

-- The search with what it is lent, as its definitions have it.
abbrev pub state_of : Lent → State
state_of l = record { search = search_of l.state; figs = l.figs; sets = l.sets; marks = l.marks }

-- And back.
abbrev pub lent_of : State → Lent
lent_of s = lent (search_numbers s.search) s.figs s.sets s.marks

-- What a call leaves: refused, all as it was.
abbrev pub left_with : Lent → SearchAnswer → State → Lent
left_with old Going new = lent_of new
left_with old Ended new = lent_of new
left_with old (Refused f) new = old

-- OPENING: a railway is answered with n, the number that is given, or 0.
pub record OpenedRailway (r : Railway) (old : Lent) (n : ℕ) (new : Lent) : Type 0 where
  pub answer : SearchAnswer
  pub state : State
  pub opened : OpenPost r old.figs old.sets old.marks answer state
  pub numbered : n ≡ Option.get_or (number_given answer) 0
  pub leaves : new ≡ left_with old answer state

-- A case text: a refused one by its number, all as it was; else as its railway.
abbrev pub OpenedText : List ℕ → Lent → ℕ → Lent → Type 0
OpenedText text old n new = ByCase text (λ f. (n ≡ number f) × (new ≡ old)) (λ r. OpenedRailway r old n new)

-- A ROUND. What is answered: 0 if the search goes on, 255 if it has ended, and else the refusal's number.
abbrev pub round_number : SearchAnswer → ℕ
round_number Going = 0
round_number Ended = 255
round_number (Refused f) = number f

-- A railway is answered with n: what the searcher answers that is asked for a round.
pub record RoundedRailway (r : Railway) (old : Lent) (n : ℕ) (new : Lent) : Type 0 where
  pub answer : SearchAnswer
  pub state : State
  pub rounded : SearchPost r (state_of old) answer state
  pub numbered : n ≡ round_number answer
  pub leaves : new ≡ left_with old answer state

-- A case text.
abbrev pub RoundedText : List ℕ → Lent → ℕ → Lent → Type 0
RoundedText text old n new = ByCase text (λ f. (n ≡ number f) × (new ≡ old)) (λ r. RoundedRailway r old n new)

-- LOOKING UP. A section by its number in the document; 0 is the number of none.
abbrev pub section_named : ℕ → ℕ
section_named n = cond (eqb n 0) 255 (n - 1)

-- The placement that four such numbers name.
abbrev pub placement_of : List ℕ → Placement
placement_of ns = record { sections = section_named (get_or ns 0 0) ∷ section_named (get_or ns 1 0) ∷ section_named (get_or ns 2 0) ∷ section_named (get_or ns 3 0) ∷ [] }

-- What is answered: 0 for a figure, 254 if none has come yet, 255 if there is none, and else the refusal's number.
abbrev pub shown_number : Shown → ℕ
shown_number (Figure n) = 0
shown_number NotYet = 254
shown_number NoFigure = 255
shown_number (ShownRefused f) = number f

-- What is left in the number for the figure: as it was, if there is none to be shown.
abbrev pub figure_left : ℕ → Shown → ℕ
figure_left old (Figure n) = n
figure_left old NotYet = old
figure_left old NoFigure = old
figure_left old (ShownRefused f) = old

-- A railway is answered with n: what the searcher answers that is asked for the placement.
pub record LookedRailway (r : Railway) (state figs sets sections : List ℕ) (figure n figure' : ℕ) : Type 0 where
  pub numbered : n ≡ shown_number (looked_up r (section_in (placement_of sections)) (search_of state) figs sets)
  pub leaves : figure' ≡ figure_left figure (looked_up r (section_in (placement_of sections)) (search_of state) figs sets)

-- A case text.
abbrev pub LookedText : List ℕ → List ℕ → List ℕ → List ℕ → List ℕ → ℕ → ℕ → ℕ → Type 0
LookedText text state figs sets sections figure n figure' = ByCase text (λ f. (n ≡ number f) × (figure' ≡ figure)) (λ r. LookedRailway r state figs sets sections figure n figure')

-- WHAT A CALLER LEARNS from these numbers, of an opening and of a round:
pub record AnswerToldApart (a : SearchAnswer) : Type 0 where
  pub opened : Option.get_or (number_given a) 0 ≡ 0 → number_given a ≡ none
  pub going : round_number a ≡ 0 → a ≡ Going
  pub ended : round_number a ≡ 255 → a ≡ Ended

-- and of a placement that is looked up.
pub record ShownToldApart (a : Shown) (figure : ℕ) : Type 0 where
  pub shown : shown_number a ≡ 0 → a ≡ Figure (figure_left figure a)
  pub not_yet : shown_number a ≡ 254 → a ≡ NotYet
  pub without : shown_number a ≡ 255 → a ≡ NoFigure

-- No refusal has the number of another answer.
abbrev pub AllToldApart : Type 0
AllToldApart = ((a : SearchAnswer) → AnswerToldApart a) × ((a : Shown) (figure : ℕ) → ShownToldApart a figure)
