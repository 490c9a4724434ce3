-- The comparison of two logs as a computation, which is what code is held to. Nothing of document 02 rests on this file: it is tied to logs/Logs by `compare-keeps` in
-- logs/proofs/Computed. Assumes nothing.
use Rattle.std.specs.Prelude.{Bool, true, false, not, ◌&&◌, List, [], ◌∷◌, ℕ, eqb}
use Rattle.std.proofs.Math.Option.{Option, none, some}
use Rattle.laws.specs.Below.{lowest}
use Rattle.railway.specs.declared.Railway.{Railway}
use Rattle.railway.specs.declared.Refusal.{Refusal}
use Rattle.railway.specs.Refusals.{first}
use Rattle.logs.specs.declared.Entry.{Entry}
use Rattle.logs.specs.LogAnswer.{LogAnswer, Agree, Differ, Refused}
use Rattle.logs.specs.Logs.{sections_for, log_rows}

-- Two lists of numbers are the same.
unfoldable pub same_list : List ℕ → List ℕ → Bool
same_list [] [] = true
same_list [] (y ∷ ys) = false
same_list (x ∷ xs) [] = false
same_list (x ∷ xs) (y ∷ ys) = eqb x y && same_list xs ys

-- Train t differs.
unfoldable pub differs : List Entry → List Entry → ℕ → Bool
differs a b t = not (same_list (sections_for t a) (sections_for t b))

-- The answer by the refusal, and by the lowest train that differs.
abbrev pub answer_by : Option Refusal → Option ℕ → LogAnswer
answer_by (some f) d = Refused f
answer_by none none = Agree
answer_by none (some t) = Differ t

-- The answer.
unfoldable pub compare : Railway → List Entry → List Entry → LogAnswer
compare r a b = answer_by (first (log_rows r a b)) (lowest (differs a b) r.trains)
