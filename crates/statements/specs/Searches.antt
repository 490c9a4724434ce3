-- Looking in while it searches (document 02, Q-7), of the calls that run: what search/Searching says of an opening, of the calls for rounds one after the other and of look-ups
-- between them is said of the contracts of `open`, `round` and `look_up`, which ask nothing and are met. Arguments are written as in Running. Assumes nothing.
use Rattle.std.specs.Prelude.{◌≡◌}
use denote.Triple.Clauses.{AtExit}
use contract.Lifetimes.{Lfts}
use borrow.Fn.Kinds.{Dens, res_t, ended_of}
use Rattle.game_placement.specs.ByValue.{section_in}
use Rattle.search.specs.Searching.{OpenPost, SearchPost, LookPost, SearchHolds}
use Rattle.search_calls.specs.Steps.{searching, opening_answer, opening_search}
use Rattle.statements.specs.Running.{SolverRuns}
use Rattle.search_calls.proofs.open.Kinds as opening
use Rattle.search_calls.proofs.open.Reads.{Asked as OpenAsked, Learnt as OpenLearnt}
use Rattle.search_calls.proofs.open.Statement.{statement as OpenMeets}
use Rattle.search_calls.proofs.round.Kinds as round
use Rattle.search_calls.proofs.round.Reads.{Asked as RoundAsked, Learnt as RoundLearnt}
use Rattle.search_calls.proofs.round.Statement.{statement as RoundMeets}
use Rattle.search_calls.proofs.look_up.Kinds as looking
use Rattle.search_calls.proofs.look_up.Reads.{Asked as LookAsked, Learnt as LookLearnt}
use Rattle.search_calls.proofs.look_up.Statement.{statement as LookMeets}

-- `search_calls::open`: the record, the figures, the settings, the marks.
pub record OpenRuns : Type 2 where
  pub asks : (κs : Lfts 3) (a : Dens κs opening.ps) → OpenAsked κs a
  pub tells : (κs : Lfts 3) (a : Dens κs opening.ps) (answer : (res_t opening.r κs).Denot) (left : AtExit (ended_of 3 opening.ps opening.r) κs)
      → OpenLearnt κs a answer left
      ≡ OpenPost a.0 a.1.0.now a.1.1.0.now a.1.1.1.0.now (opening_answer answer) (searching (opening_search answer) left.1.0.now left.1.1.0.now left.1.1.1.0.now)
  pub meets : {M : Type 1} → OpenMeets M

-- `search_calls::round`: the search, the record, the figures, the settings, the marks.
pub record RoundRuns : Type 2 where
  pub asks : (κs : Lfts 4) (a : Dens κs round.ps) → RoundAsked κs a
  pub tells : (κs : Lfts 4) (a : Dens κs round.ps) (answer : (res_t round.r κs).Denot) (left : AtExit (ended_of 4 round.ps round.r) κs)
      → RoundLearnt κs a answer left
      ≡ SearchPost a.1.0 (searching a.0.now a.1.1.0.now a.1.1.1.0.now a.1.1.1.1.0.now) answer
      (searching left.0.now left.1.1.0.now left.1.1.1.0.now left.1.1.1.1.0.now)
  pub meets : {M : Type 1} → RoundMeets M

-- `search_calls::look_up`: the search, the record, the figures and the settings, which it only reads, and the placement.
pub record LookRuns : Type 2 where
  pub asks : (κs : Lfts 2) (a : Dens κs looking.ps) → LookAsked κs a
  pub tells : (κs : Lfts 2) (a : Dens κs looking.ps) (answer : (res_t looking.r κs).Denot) (left : AtExit (ended_of 2 looking.ps looking.r) κs)
      → LookLearnt κs a answer left ≡ LookPost a.1.0 (section_in a.1.1.1.1.0) a.0 a.1.1.0.now a.1.1.1.0.now answer
  pub meets : {M : Type 1} → LookMeets M

-- Q-7, of the calls that run; where it speaks of the solver, it speaks of the contract of `solve`.
pub record SearchesRun : Type 2 where
  pub whole : SearchHolds
  pub solver : SolverRuns
  pub opens : OpenRuns
  pub rounds : RoundRuns
  pub looks : LookRuns
