-- What the steps of a call leave, for contracts. Nothing of the documents rests on this file but `searching`, `opening_answer` and `opening_search`: what a search promises is in search/Searching. Assumes nothing.
use Rattle.std.specs.Prelude.{◌≡◌, ◌↔◌, true, List, ℕ, ◌≤◌, ◌<◌, Result, Ok, Err}
use Rattle.railway.specs.declared.Railway.{Railway}
use Rattle.railway.specs.declared.Refusal.{Refusal}
use Rattle.game_tables.specs.Tables.{no_figure}
use Rattle.game_tables.specs.Solver.{Kept}
use Rattle.game_tables.specs.Rounds.{RoundTables, HasFigure, AllBelow}
use Rattle.solver_rounds.specs.Visits.{MarkedFor}
use Rattle.search.specs.declared.Search.{Search}
use Rattle.search.specs.SearchAnswer.{SearchAnswer, Refused}
use Rattle.search.specs.Searching.{State, going_on, Coming, unopened}

-- A search by value with what is lent to it.
abbrev pub searching : Search → List ℕ → List ℕ → List ℕ → State
searching s figs sets marks = record { search = s; figs = figs; sets = sets; marks = marks }

-- What opening answers, a search or a refusal, as search/Searching speaks of it: an answer,
abbrev pub opening_answer : Result Search Refusal → SearchAnswer
opening_answer (Ok s) = going_on s
opening_answer (Err f) = Refused f

-- and a search beside it: where it is refused, one that has ended.
abbrev pub opening_search : Result Search Refusal → Search
opening_search (Ok s) = s
opening_search (Err f) = unopened

-- n rounds are finished, no round behind them brings a figure before round d, and the marks are right for that one.
pub record Ready (r : Railway) (n d : ℕ) (figs sets marks : List ℕ) : Type 0 where
  pub later : n < d
  pub tables : RoundTables r n figs sets
  pub between : (j : ℕ) → HasFigure r j → n < j → d ≤ j
  pub marked : MarkedFor r d figs marks

-- The tables show n rounds, and c is the next that brings figures.
pub record Shows (r : Railway) (n c : ℕ) (figs sets figs' sets' marks' : List ℕ) : Type 0 where
  pub tables : RoundTables r n figs' sets'
  pub kept-figs : Kept r figs figs'
  pub kept_sets : Kept r sets sets'
  pub coming : Coming r n c
  pub sure : c < no_figure → HasFigure r c
  pub marked : c < no_figure → MarkedFor r c figs' marks'

-- Round n is finished, with the search behind it: what comes next, and whether that was the end.
pub record Finished (r : Railway) (n : ℕ) (next : Search) (figs sets figs' sets' marks' : List ℕ) : Type 0 where
  pub tables : RoundTables r n figs' sets'
  pub kept-figs : Kept r figs figs'
  pub kept_sets : Kept r sets sets'
  pub ended : (next.ended ≡ true) ↔ AllBelow r n
  pub coming : Coming r n next.coming
  pub marked : next.coming < no_figure → MarkedFor r next.coming figs' marks'
