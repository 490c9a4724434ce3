-- Which signal would help (document 02, Q-10): which cases are tried and in which order, what the call promises, and what is claimed of every answer that keeps the promise. Sections count
-- from 0, the document's numbers less one. Assumes nothing.
use Rattle.std.specs.Prelude.{◌≡◌, ◌⊎◌, ◌↔◌, Bool, true, false, cond, not, List, ℕ, zero, suc, ◌*◌, ◌≤◌, ◌<◌}
use Rattle.std.proofs.Math.Option.{Option, none, some}
use Rattle.railway.specs.declared.Side.{Side}
use Rattle.railway.specs.declared.Side.TheVariants.{Up, Down}
use Rattle.railway.specs.declared.SectionNo.{SectionNo}
use Rattle.railway.specs.declared.End.TheVariants.{Section}
use Rattle.railway.specs.declared.Railway.{Railway}
use Rattle.railway.specs.declared.Refusal.{Refusal}
use Rattle.railway.specs.Ends.{end_index, end_at}
use Rattle.railway.specs.Refusals.{number, number_of}
use Rattle.railway.specs.Record.{flag_at, has_signal, with_signal}
use Rattle.railway.specs.Rows.{record_refusal}
use Rattle.game.specs.Game.{IsFigure}
use Rattle.game.specs.Placement.{placements, start_code}
use Rattle.game.specs.Moves.{game_of}
use Rattle.game_tables.specs.Tables.{case_refusal, Filled}
use Rattle.game_tables.specs.Solver.{Kept, SolverTables}
use Rattle.advice.specs.Advice.{Advice, NotNeeded, Signal, NoneHelps, Refused}

-- THE START of a case has a figure: home can be forced, over whole plays, and within no smaller total.
pub record HasFigure (r : Railway) : Type 0 where
  pub total : ℕ
  pub figure : IsFigure (game_of r) (start_code r) (some total)

-- It has none.
abbrev pub HasNone : Railway → Type 0
HasNone r = IsFigure (game_of r) (start_code r) none

-- THE CASES THAT ARE TRIED. Section ends by their index, 1d, 1u, 2d and on: so many has the case.
abbrev pub ends_of : Railway → ℕ
ends_of r = 2 * r.sections

-- An end is tried if no signal stands there, whatever else is so of it.
abbrev pub tries : Railway → ℕ → Bool
tries r i = not (flag_at r i)

-- The case with one signal more, at the end of this index.
abbrev pub with_one : Railway → ℕ → Railway
with_one r i = with_signal r (end_at i)

-- No end before index i helps: each that is tried leaves the start without a figure.
abbrev pub NoneBefore : Railway → ℕ → Type 0
NoneBefore r i = (j : ℕ) → j < i → tries r j ≡ true → HasNone (with_one r j)

-- The end of index i is the first that helps.
pub record FirstHelp (r : Railway) (i : ℕ) : Type 0 where
  pub there : i < ends_of r
  pub tried : tries r i ≡ true
  pub helps : HasFigure (with_one r i)
  pub before : NoneBefore r i

-- The last index below i that is tried, if one is.
unfoldable pub last_tried : Railway → ℕ → Option ℕ
last_tried r zero = none
last_tried r (suc i) = cond (tries r i) (some i) (last_tried r i)

-- The case of a try; without one the case itself.
abbrev pub case_of : Railway → Option ℕ → Railway
case_of r none = r
case_of r (some i) = with_one r i

-- THE ANSWER: the number, in the table, of the refusal that it gives, if it does.
abbrev pub number_said : Advice → Option ℕ
number_said NotNeeded = none
number_said (Signal n s) = none
number_said NoneHelps = none
number_said (Refused f) = some (number f)

-- What is so of the start by what is said.
abbrev pub Said : Railway → Advice → Type 0
Said r NotNeeded = HasFigure r
Said r (Signal n s) = HasNone r × FirstHelp r (end_index (Section n s))
Said r NoneHelps = HasNone r × NoneBefore r (ends_of r)
Said r (Refused f) = ⊥

-- The last case tried, to which the tables belong: with a signal at the end named; where none helps, at the last end that is tried; the case itself where no other was tried.
abbrev pub last_case : Railway → Advice → Railway
last_case r NotNeeded = r
last_case r (Signal n s) = with_signal r (Section n s)
last_case r NoneHelps = case_of r (last_tried r (ends_of r))
last_case r (Refused f) = r

-- Refused: both tables as they were. Else what is said is so, and the tables are as the solver fills them for the last case tried.
abbrev pub AdviceLeaves : Railway → Advice → List ℕ → List ℕ → List ℕ → List ℕ → Option Refusal → Type 0
AdviceLeaves r a figs sets figs' sets' (some f) = (figs' ≡ figs) × (sets' ≡ sets)
AdviceLeaves r a figs sets figs' sets' none = Said r a × SolverTables (last_case r a) figs sets figs' sets'

-- THE PROMISE of the call, with a record and two lent tables: it refuses with the first of the case's rows that applies, by its number, and only then.
pub record AdvicePost (r : Railway) (a : Advice) (figs sets figs' sets' : List ℕ) : Type 0 where
  pub numbered : number_said a ≡ number_of (case_refusal r figs sets)
  pub leaves : AdviceLeaves r a figs sets figs' sets' (case_refusal r figs sets)

-- THE CLAIMS, by section ends as they are named. An end of the case.
abbrev pub There : Railway → SectionNo → Type 0
There r n = n.0 < r.sections

-- One without a signal.
pub record Bare (r : Railway) (n : SectionNo) (s : Side) : Type 0 where
  pub there : There r n
  pub no-signal : has_signal r (Section n s) ≡ false

-- One end comes before another: its section does, or it is the down end of the same and the other the up end.
abbrev pub Earlier : SectionNo → Side → SectionNo → Side → Type 0
Earlier m d n s = (m.0 < n.0) ⊎ ((m.0 ≡ n.0) × (d ≡ Down) × (s ≡ Up))

-- The case with a signal more at an end.
abbrev pub signalled : Railway → SectionNo → Side → Railway
signalled r n s = with_signal r (Section n s)

-- The first end that helps: it has no signal, with one there home can be forced from the start, and with one at any end before it, that has none, it cannot.
pub record FirstHelping (r : Railway) (n : SectionNo) (s : Side) : Type 0 where
  pub bare : Bare r n s
  pub helps : HasFigure (signalled r n s)
  pub before : (m : SectionNo) (d : Side) → Bare r m d → Earlier m d n s → HasNone (signalled r m d)

-- The last end without a signal.
pub record LastBare (r : Railway) (n : SectionNo) (s : Side) : Type 0 where
  pub bare : Bare r n s
  pub behind : (m : SectionNo) (d : Side) → Bare r m d → Earlier n s m d → ⊥

-- Of an answer that keeps the promise, in an accepted case with tables that are long enough.
pub record AdviceClaims (r : Railway) (a : Advice) (figs sets figs' sets' : List ℕ) : Type 0 where
  -- no signal is needed exactly where the start has a figure
  pub not-needed : (a ≡ NotNeeded) ↔ HasFigure r
  -- an end is named exactly if the start has none and this is the first that helps
  pub named : (n : SectionNo) (s : Side) → (a ≡ Signal n s) ↔ (HasNone r × FirstHelping r n s)
  -- no single one exactly where the start has none, and has none with one signal more at any end that lacks one
  pub none-helps : (a ≡ NoneHelps) ↔ (HasNone r × ((n : SectionNo) (s : Side) → Bare r n s → HasNone (signalled r n s)))
  -- at every code the tables have figure and setting of the case itself, where no signal is needed
  pub own-tables : a ≡ NotNeeded → Filled r figs' sets'
  -- of the case with a signal at the end named
  pub named-tables : (n : SectionNo) (s : Side) → a ≡ Signal n s → Filled (signalled r n s) figs' sets'
  -- of the case with one at the last end that has none, where none helps
  pub last-tables : a ≡ NoneHelps → (n : SectionNo) (s : Side) → LastBare r n s → Filled (signalled r n s) figs' sets'
  -- and again of the case itself where every end has one
  pub full-tables : a ≡ NoneHelps → ((n : SectionNo) (s : Side) → There r n → has_signal r (Section n s) ≡ true) → Filled r figs' sets'
  -- past the last code both are as they were, and as long
  pub kept-figs : Kept r figs figs'
  pub kept_sets : Kept r sets sets'

-- A case with one signal more, at an end that is there, is accepted if it is, with the same placements and the same start.
pub record StillAccepted (r : Railway) (q : Railway) : Type 0 where
  pub accepted : record_refusal q ≡ none
  pub placements : placements q ≡ placements r
  pub start : start_code q ≡ start_code r

-- The start of a case has a figure, and it is at most m.
pub record NoWorse (m : ℕ) (q : Railway) : Type 0 where
  pub has : HasFigure q
  pub at-most : has.total ≤ m

-- THE STATEMENT, of every record and any two tables.
pub record AdviceHolds : Type 0 where
  -- where nothing is refused
  pub claims : (r : Railway) (a : Advice) (figs sets figs' sets' : List ℕ) → case_refusal r figs sets ≡ none → AdvicePost r a figs sets figs' sets' → AdviceClaims r a figs sets figs' sets'
  -- where something is, that is the answer, and not an entry has changed
  pub refused : (r : Railway) (a : Advice) (figs sets figs' sets' : List ℕ) (f : Refusal) → case_refusal r figs sets ≡ some f → AdvicePost r a figs sets figs' sets'
      → (a ≡ Refused f) × (figs' ≡ figs) × (sets' ≡ sets)
  -- a promise can always be kept, and by one answer alone
  pub answered : (r : Railway) (figs sets : List ℕ) → (a : Advice) × (figs' : List ℕ) × (sets' : List ℕ) × AdvicePost r a figs sets figs' sets'
  pub only : (r : Railway) (a b : Advice) (figs sets figs₁ sets₁ figs₂ sets₂ : List ℕ) → AdvicePost r a figs sets figs₁ sets₁ → AdvicePost r b figs sets figs₂ sets₂ → a ≡ b
  -- no case that is tried is refused
  pub still-accepted : (r : Railway) (n : SectionNo) (s : Side) → record_refusal r ≡ none → There r n → StillAccepted r (signalled r n s)
  -- one signal more takes no figure away, and makes none larger
  pub never-worse : (r : Railway) (n : SectionNo) (s : Side) → record_refusal r ≡ none → Bare r n s → (x : HasFigure r) → NoWorse x.total (signalled r n s)
