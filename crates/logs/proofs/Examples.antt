-- Values by computation, for the definitions of logs/Logs: what a log gives for a train, logs that are not the same for one, logs of 256 and of 257 entries, entries that Yard A
-- has and lacks, the lowest of two trains that differ, the order of the rows. They are checked before the laws, so that a wrong definition shows at a value. Assumes nothing.
use mathlib.Core.Path.{◌≡◌, refl, sym}
use mathlib.Core.Bool.{true, false}
use mathlib.Core.List.{List, [], ◌∷◌, map, cons-ne-nil, tail-eq_of_cons-eq}
use Prim.Native.Nat.{ℕ, ◌-◌}
use native.Mathlib.Nat.{not-suc-le-zero}
use lib.ListN.{replicate}
use Rattle.laws.specs.Lists.{any}
use Rattle.railway.specs.declared.Railway.{Railway}
use Rattle.railway.specs.Refusals.{number, Row}
use Rattle.railway.specs.Record.{with_join, with_signal, with_legs, with_train}
use Rattle.railway.specs.Yards.{yard_a}
use Rattle.logs.specs.declared.Entry.{Entry}
use Rattle.logs.specs.Logs.{sections_for, SameFor, LowestDiffering, faulty, log_row, log_rows}

-- an entry by the document's numbers, train and section
abbrev pub entered : ℕ → ℕ → Entry
entered t s = record { train = t - 1; section = s - 1 }

-- two logs that agree: train 1 enters 2, then 3, and train 2 enters 1
abbrev pub panel : List Entry
panel = entered 1 2 ∷ entered 2 1 ∷ entered 1 3 ∷ []

abbrev pub axles : List Entry
axles = entered 2 1 ∷ entered 1 2 ∷ entered 1 3 ∷ []

-- the panel's, with the entries of train 1 in the other order
abbrev pub crossed : List Entry
crossed = entered 1 3 ∷ entered 2 1 ∷ entered 1 2 ∷ []

-- the panel's without its last entry
abbrev pub shorter : List Entry
shorter = entered 1 2 ∷ entered 2 1 ∷ []

-- one entry, so many times
abbrev pub many : ℕ → List Entry
many n = replicate n (entered 1 2)

given : (sections_for 0 panel ≡ 1 ∷ 2 ∷ []) × (sections_for 1 panel ≡ 0 ∷ []) × (sections_for 0 crossed ≡ 2 ∷ 1 ∷ []) × (sections_for 2 panel ≡ [])
unfolding sections_for
given = (refl, refl, refl, refl)

longer : (SameFor shorter panel 0 → ⊥) × (SameFor panel shorter 0 → ⊥)
unfolding sections_for
longer = ((λ e. cons-ne-nil _ _ (sym (tail-eq_of_cons-eq e))), (λ e. cons-ne-nil _ _ (tail-eq_of_cons-eq e)))

faults : (faulty yard_a (many 256) ≡ false) × (faulty yard_a (many 257) ≡ true) × (faulty yard_a (entered 3 1 ∷ []) ≡ true)
    × (faulty yard_a (entered 1 4 ∷ []) ≡ true) × (faulty yard_a (entered 2 3 ∷ []) ≡ false)
    × (faulty yard_a [] ≡ false)
unfolding faulty any with_join with_signal with_legs with_train
faults = (refl, refl, refl, refl, refl, refl)

either : (log_row yard_a (many 257) [] ≡ true) × (log_row yard_a [] (many 257) ≡ true) × (log_row yard_a (many 256) (many 256) ≡ false)
unfolding faulty any with_join with_signal with_legs with_train
either = (refl, refl, refl)

-- where both trains differ it is the lower one
both-differ : LowestDiffering panel [] 0
unfolding sections_for
both-differ = record { differs = λ e. cons-ne-nil _ _ e; below = λ u l. absurd (not-suc-le-zero l) }

order : (r : Railway) (a b : List Entry) → map (λ (x : Row). number x.refusal) (log_rows r a b) ≡ 3 ∷ 16 ∷ 4 ∷ 5 ∷ 6 ∷ 13 ∷ 7 ∷ 8 ∷ 17 ∷ []
order r a b = refl
