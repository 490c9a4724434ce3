-- A search that is looked into between its rounds (document 02, Q-7; round n brings the figures n, Q-12): its calls, and the statement over whole lists of them. Assumes nothing.
use Rattle.std.specs.Prelude.{◌≡◌, ◌↔◌, Bool, true, false, cond, List, ℕ, suc, ◌≤◌, ◌<◌, length, get_or}
use Rattle.std.proofs.Math.Option.{Option, none, some}
use Rattle.railway.specs.declared.Railway.{Railway}
use Rattle.railway.specs.declared.Refusal.{Refusal}
use Rattle.railway.specs.Refusals.{number, number_of}
use Rattle.railway.specs.Rows.{record_refusal}
use Rattle.game.specs.Game.{IsFigure}
use Rattle.game.specs.Placement.{code_on, placements, names_none}
use Rattle.game.specs.Moves.{game_of}
use Rattle.game_tables.specs.Tables.{no_figure, figure_in, case_refusal, Filled}
use Rattle.game_tables.specs.Solver.{Kept, SolverPost}
use Rattle.game_tables.specs.SolverAnswer.{SolverAnswer}
use Rattle.game_tables.specs.Rounds.{Cleared, RoundTables, HasFigure, AllBelow, most_figure}
use Rattle.solver_rounds.specs.Visits.{MarkedFor}
use Rattle.search.specs.declared.Search.{Search}
use Rattle.search.specs.SearchAnswer.{SearchAnswer, Going, Ended, Refused}
use Rattle.search.specs.Shown.{Shown, Figure, NotYet, NoFigure, Refused as ShownRefused}

-- A search with what it is lent: the two tables, and the marks of its rounds.
pub record State : Type 0 where
  pub search : Search
  pub figs : List ℕ
  pub sets : List ℕ
  pub marks : List ℕ

-- The number, in the table, of the refusal that an answer gives, if it does.
abbrev pub number_given : SearchAnswer → Option ℕ
number_given Going = none
number_given Ended = none
number_given (Refused f) = some (number f)

-- The answer beside a search that is not refused: whether it has ended.
abbrev pub going_on : Search → SearchAnswer
going_on s = cond s.ended Ended Going

-- WHERE A SEARCH STANDS. Behind n no round brings a figure before c, which is a later one; if it is not the very next, it brings one, or no round does and it is the number
-- for none.
pub record Coming (r : Railway) (n c : ℕ) : Type 0 where
  pub later : n < c
  pub first : (j : ℕ) → HasFigure r j → n < j → c ≤ j
  pub brings : suc n < c → c < no_figure → HasFigure r c

-- What it carries for the rounds to come: that round, and marks that are right for it.
pub record Carried (r : Railway) (n : ℕ) (s : State) : Type 0 where
  pub coming : Coming r n s.search.coming
  pub marked : s.search.coming < no_figure → MarkedFor r s.search.coming s.figs s.marks

-- n rounds are finished: the tables are those of round n, and the search has ended exactly if every figure is below n.
pub record Standing (r : Railway) (n : ℕ) (s : State) : Type 0 where
  pub rounds : s.search.rounds ≡ n
  pub tables : RoundTables r n s.figs s.sets
  pub ended : (s.search.ended ≡ true) ↔ AllBelow r n
  pub carried : s.search.ended ≡ false → Carried r n s

-- OPENING. No round is finished; home has figure 0, every other placement none, and no setting is set.
pub record Opened (r : Railway) (figs sets : List ℕ) (a : SearchAnswer) (s : State) : Type 0 where
  pub stands : Standing r 0 s
  pub cleared : Cleared r s.figs s.sets
  pub told : a ≡ going_on s.search
  pub kept-figs : Kept r figs s.figs
  pub kept_sets : Kept r sets s.sets

-- The search that a refused opening hands out: it has ended, so that no call with it alters anything.
abbrev pub unopened : Search
unopened = record { rounds = 0; ended = true; coming = no_figure }

-- What opening leaves, by the refusal: refused, all that is lent is as it was.
abbrev pub OpenLeaves : Railway → List ℕ → List ℕ → List ℕ → SearchAnswer → State → Option Refusal → Type 0
OpenLeaves r figs sets marks a s (some f) = s ≡ record { search = unopened; figs = figs; sets = sets; marks = marks }
OpenLeaves r figs sets marks a s none = Opened r figs sets a s

-- Opening a search promises that.
pub record OpenPost (r : Railway) (figs sets marks : List ℕ) (a : SearchAnswer) (s : State) : Type 0 where
  pub numbered : number_given a ≡ number_of (case_refusal r figs sets)
  pub leaves : OpenLeaves r figs sets marks a s (case_refusal r figs sets)

-- A ROUND. A search that stands after n rounds, and has not ended, stands after one more. Of searches and tables that no call left this is promised, as of all: one that has ended
-- stays as it is, and so does one that says it has finished more rounds than there can be; else one round more is counted; the answer says whether it has ended; the tables are as
-- long as before, and the same past the last code.
pub record Rounded (r : Railway) (old : State) (a : SearchAnswer) (new : State) : Type 0 where
  pub done : old.search.ended ≡ true → new ≡ old
  pub one_more : (n : ℕ) → Standing r n old → old.search.ended ≡ false → Standing r (suc n) new
  pub too_many : most_figure < old.search.rounds → new ≡ old
  pub counted : old.search.ended ≡ false → old.search.rounds ≤ most_figure → new.search.rounds ≡ suc old.search.rounds
  pub told : a ≡ going_on new.search
  pub kept-figs : Kept r old.figs new.figs
  pub kept_sets : Kept r old.sets new.sets

-- What the call for a round leaves, by the refusal: refused, the search and all that is lent are as they were.
abbrev pub RoundLeaves : Railway → State → SearchAnswer → State → Option Refusal → Type 0
RoundLeaves r old a new (some f) = new ≡ old
RoundLeaves r old a new none = Rounded r old a new

-- The call for a round promises that.
pub record SearchPost (r : Railway) (old : State) (a : SearchAnswer) (new : State) : Type 0 where
  pub numbered : number_given a ≡ number_of (case_refusal r old.figs old.sets)
  pub leaves : RoundLeaves r old a new (case_refusal r old.figs old.sets)

-- LOOKING UP a placement, by the section of each train. What its figure in the table shows, if it has one there, else by whether the search has ended.
abbrev pub shown_by : Option ℕ → Bool → Shown
shown_by (some n) ended = Figure n
shown_by none true = NoFigure
shown_by none false = NotYet

-- What a placement shows, by the refusal.
abbrev pub shown : Railway → (ℕ → ℕ) → Search → List ℕ → Option Refusal → Shown
shown r section s figs (some f) = ShownRefused f
shown r section s figs none = cond (names_none r section) NoFigure (shown_by (figure_in figs (code_on r section)) s.ended)

-- What the call for it answers, with a search and two tables; nothing is written.
unfoldable pub looked_up : Railway → (ℕ → ℕ) → Search → List ℕ → List ℕ → Shown
looked_up r section s figs sets = shown r section s figs (case_refusal r figs sets)

-- The number, in the table, of the refusal that it gives, if it does.
abbrev pub number_shown : Shown → Option ℕ
number_shown (Figure n) = none
number_shown NotYet = none
number_shown NoFigure = none
number_shown (ShownRefused f) = some (number f)

-- The figure that it shows, if it does.
abbrev pub figure_shown : Shown → Option ℕ
figure_shown (Figure n) = some n
figure_shown NotYet = none
figure_shown NoFigure = none
figure_shown (ShownRefused f) = none

-- The call promises that.
pub record LookPost (r : Railway) (section : ℕ → ℕ) (s : Search) (figs sets : List ℕ) (a : Shown) : Type 0 where
  pub numbered : number_shown a ≡ number_of (case_refusal r figs sets)
  pub answers : a ≡ looked_up r section s figs sets

-- What a look-up answers with what a call left.
abbrev pub look_up : Railway → (ℕ → ℕ) → State → Shown
look_up r section s = looked_up r section s.search s.figs s.sets

-- THE CALLS for rounds, one after the other, each with the search that the last one handed back and what is lent as it left it: so many with this case, and among them any
-- that were refused, with whatever record.
pub data Searching (r : Railway) : State → ℕ → State → Type 0 where
  begun : {s : State} → Searching r s 0 s
  call : {s u v : State} {k : ℕ} (a : SearchAnswer) → Searching r s k u → SearchPost r u a v → Searching r s (suc k) v
  refused : {s u v : State} {k : ℕ} (o : Railway) (f : Refusal) (a : SearchAnswer) → Searching r s k u → case_refusal o u.figs u.sets ≡ some f → SearchPost o u a v → Searching r s k v

-- The tables after n rounds beside those of an uninterrupted search: the same entries where the figure is at most n, else none and zero.
pub record UpToRound (r : Railway) (n : ℕ) (figs sets figs₁ sets₁ : List ℕ) : Type 0 where
  pub come : (p j : ℕ) → p < placements r → figure_in figs₁ p ≡ some j → j ≤ n → (get_or figs p no_figure ≡ j) × (get_or sets p 0 ≡ get_or sets₁ p 0)
  pub to-come : (p j : ℕ) → p < placements r → figure_in figs₁ p ≡ some j → n < j → (get_or figs p no_figure ≡ no_figure) × (get_or sets p 0 ≡ 0)
  pub without : (p : ℕ) → p < placements r → figure_in figs₁ p ≡ none → (get_or figs p no_figure ≡ no_figure) × (get_or sets p 0 ≡ 0)

-- AFTER k CALLS for rounds:
pub record SearchAt (r : Railway) (figs sets : List ℕ) (k : ℕ) (s : State) : Type 0 where
  -- each has finished a round, unless the search had ended before
  pub rounds : s.search.rounds ≤ k
  pub each-call : s.search.ended ≡ false → s.search.rounds ≡ k
  -- it has ended exactly if all figures are below the number of a round that is finished, and with the first such round
  pub ended : (s.search.ended ≡ true) ↔ AllBelow r k
  pub finished : s.search.ended ≡ true → AllBelow r s.search.rounds
  pub at_once : (n : ℕ) → AllBelow r n → s.search.rounds ≤ n
  -- a placement shows its figure exactly when that is at most the number of rounds finished
  pub shows : (section : ℕ → ℕ) → names_none r section ≡ false → (j : ℕ) → IsFigure (game_of r) (code_on r section) (some j) → (look_up r section s ≡ Figure j) ↔ (j ≤ s.search.rounds)
  -- else it shows that none has come yet, and once the search has ended, that it has none
  pub not_yet : (section : ℕ → ℕ) → names_none r section ≡ false → (j : ℕ) → IsFigure (game_of r) (code_on r section) (some j) → s.search.rounds < j → look_up r section s ≡ NotYet
  pub none_yet : (section : ℕ → ℕ) → names_none r section ≡ false → IsFigure (game_of r) (code_on r section) none → look_up r section s ≡ cond s.search.ended NoFigure NotYet
  -- one that names a section that is not there shows none, always
  pub nowhere : (section : ℕ → ℕ) → names_none r section ≡ true → look_up r section s ≡ NoFigure
  -- what stands in the tables: where a figure is shown, that figure and its setting; everywhere else none and zero
  pub tables : (figs₁ sets₁ : List ℕ) → Filled r figs₁ sets₁ → UpToRound r s.search.rounds s.figs s.sets figs₁ sets₁
  pub kept-figs : Kept r figs s.figs
  pub kept_sets : Kept r sets s.sets
  -- ended, they are those of the solver, whatever tables it was lent, and a further call alters nothing
  pub as-solved : s.search.ended ≡ true → (a : SolverAnswer) (f₀ s₀ f₁ s₁ : List ℕ) → placements r ≤ length f₀ → placements r ≤ length s₀ → SolverPost r a f₀ s₀ f₁ s₁
      → (p : ℕ) → p < placements r → (get_or s.figs p no_figure ≡ get_or f₁ p no_figure) × (get_or s.sets p 0 ≡ get_or s₁ p 0)
  pub no_more : s.search.ended ≡ true → (a : SearchAnswer) (u : State) → SearchPost r s a u → u ≡ s
  -- a figure shown remains, whatever calls follow
  pub remains : (m : ℕ) (u : State) → Searching r s m u → (section : ℕ → ℕ) (j : ℕ) → look_up r section s ≡ Figure j → look_up r section u ≡ Figure j

-- Q-7, of a case with tables that are lent: from the opening on, after every number of calls.
abbrev pub SearchRuns : Railway → List ℕ → List ℕ → Type 0
SearchRuns r figs sets = (marks : List ℕ) (a : SearchAnswer) (s : State) → OpenPost r figs sets marks a s → (k : ℕ) (u : State) → Searching r s k u → SearchAt r figs sets k u

-- So it is in every accepted case with tables that are long enough.
abbrev pub SearchHolds : Type 0
SearchHolds = (r : Railway) → record_refusal r ≡ none → (figs sets : List ℕ) → placements r ≤ length figs → placements r ≤ length sets → SearchRuns r figs sets
