-- What passing answers (document 02, Q-6): the section that a train comes to or none, and the points that it meets, in order, as a record of fixed size.
-- What is followed is railway/Passing. Assumes nothing.
use Rattle.std.specs.Prelude.{◌≡◌, Result, Ok, Err, List, [], ◌∷◌, ℕ, zero, suc, length}
use Rattle.std.proofs.Math.Option.{Option, none, some}
use Rattle.laws.specs.Bits.{bit}
use Rattle.railway.specs.declared.Leg.{Leg}
use Rattle.railway.specs.declared.SectionNo.{SectionNo}
use Rattle.railway.specs.declared.End.{End}
use Rattle.railway.specs.declared.Railway.{Railway}
use Rattle.railway.specs.declared.Refusal.{Refusal}
use Rattle.railway.specs.Passing.{Passage, most_met, nowhere, passes}
use Rattle.railway.specs.Rows.{record_refusal}
use Rattle.railway_acceptance.specs.Answers.{Judged}
use Rattle.railway_passing.specs.Reached.{Reached, Nowhere, Section}
use Rattle.railway_passing.specs.declared.Passed.{Passed}
use Rattle.railway.specs.CaseAnswer.{CaseAnswer, Accepted, Refused}
use Rattle.railway_passing.specs.Onward.{Onward, Derails, By}

-- The section that is reached, or none.
abbrev pub reached_of : Option ℕ → Reached
reached_of none = Nowhere
reached_of (some x) = Section (record { 0 = x })

-- The first k of a list, with 0 for those that are not there.
unfoldable pub padded : ℕ → List ℕ → List ℕ
padded zero xs = []
padded (suc k) [] = 0 ∷ padded k []
padded (suc k) (x ∷ xs) = x ∷ padded k xs

-- A passage as it is answered: its points and how many they are, and where it ends.
abbrev pub answer_of : Passage → Passed
answer_of w = record { reached = reached_of w.reached; count = length w.met; points = padded most_met w.met }

-- What passing answers: a passage, or the refusal of the record.
abbrev pub Passing : Type 0
Passing = Result Passed Refusal

-- The test of the record in it.
abbrev pub tested : Passing → CaseAnswer
tested (Ok p) = Accepted
tested (Err f) = Refused f

-- The passage in it; where there is none nothing is met and nowhere reached.
abbrev pub passed : Passing → Passed
passed (Ok p) = p
passed (Err f) = answer_of nowhere

-- WHAT PASSING ANSWERS: the record is judged by its test; accepted, the passage is told; refused, none is.
pub record PassPost (r : Railway) (e : End) (points : ℕ) (a : Passing) : Type 0 where
  pub judged : Judged r (tested a)
  pub accepted : record_refusal r ≡ none → passed a ≡ answer_of (passes r (bit points) e)
  pub refused : (f : Refusal) → record_refusal r ≡ some f → passed a ≡ answer_of nowhere

-- ON THE WAY. Into section n, with no point met.
abbrev pub arriving : SectionNo → Passage
arriving n = record { met = []; reached = some n.0 }

-- The port by which a point is left.
abbrev pub onward : Onward → Option Leg
onward Derails = none
onward (By l) = some l
