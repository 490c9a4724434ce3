-- Counts by computation: in Yard A, of the solver's figures and of figures about the last that has a count of its own, with an entry past the last code; the order of the rows, and when 9
-- applies. No theorem rests on these; they show what the definitions say. Assumes nothing.
use mathlib.Core.Path.{◌≡◌, refl}
use mathlib.Core.Bool.{true, false}
use mathlib.Core.List.{List, [], ◌∷◌, ◌++◌, map}
use mathlib.Core.Option.{none, some}
use Prim.Native.Nat.{ℕ}
use lib.ListN.{replicate}
use Rattle.laws.specs.Below.{any_below, count_below}
use Rattle.railway.specs.declared.Railway.{Railway}
use Rattle.railway.specs.Refusals.{number, Row}
use Rattle.railway.specs.Record.{with_join, with_signal, with_legs, with_train}
use Rattle.railway.specs.Yards.{yard_a}
use Rattle.game.specs.Placement.{sections_in, stands_on, shared}
use Rattle.game_tables.specs.Tables.{no_figure}
use Rattle.game_tables.proofs.Examples.{weighed, figs_w}
use Rattle.game_tables.proofs.KnownYards.{figs_a}
use Rattle.counts.specs.Counts.{class_of, in_class, count_of, table_short, count_rows}

abbrev N : ℕ
N = no_figure

-- Yard A's table with an entry more
abbrev pub long_a : List ℕ
long_a = figs_a ++ (5 ∷ [])

-- a table about 254
abbrev pub figs_high : List ℕ
figs_high = 254 ∷ 255 ∷ 256 ∷ 4294967294 ∷ N ∷ 253 ∷ N ∷ 254 ∷ 0 ∷ []

-- which figure is counted where
in-which : (class_of (some 0) ≡ 0) × (class_of (some 254) ≡ 254) × (class_of (some 255) ≡ 255) × (class_of (some 256) ≡ 255) × (class_of (some 4294967294) ≡ 255) × (class_of none ≡ 256)
in-which = (refl, refl, refl, refl, refl, refl)

-- Yard A: figure 0, 1 and 2 once each; of its 9 placements 6 have none, three of which count as lost
pub yard-a : (count_of yard_a figs_a 0 ≡ 1) × (count_of yard_a figs_a 1 ≡ 1) × (count_of yard_a figs_a 2 ≡ 1) × (count_of yard_a figs_a 3 ≡ 0) × (count_of yard_a figs_a 255 ≡ 0) × (count_of yard_a figs_a 256 ≡ 6)
unfolding in_class count_below shared any_below stands_on sections_in with_join with_signal with_legs with_train
yard-a = (refl, refl, refl, refl, refl, refl)

-- what stands past the last code is in no count
past : (count_of yard_a long_a 5 ≡ 0) × (count_of yard_a long_a 0 ≡ 1) × (count_of yard_a long_a 256 ≡ 6)
unfolding in_class count_below shared any_below stands_on sections_in with_join with_signal with_legs with_train
past = (refl, refl, refl)

-- 254 is counted for itself, what is greater together
pub high : (count_of yard_a figs_high 253 ≡ 1) × (count_of yard_a figs_high 254 ≡ 2) × (count_of yard_a figs_high 255 ≡ 3) × (count_of yard_a figs_high 256 ≡ 2)
unfolding in_class count_below shared any_below stands_on sections_in with_join with_signal with_legs with_train
high = (refl, refl, refl, refl)

-- with weights 5 and 2 the figures are 0, 5 and 7
with-weights : (count_of weighed figs_w 0 ≡ 1) × (count_of weighed figs_w 1 ≡ 0) × (count_of weighed figs_w 5 ≡ 1) × (count_of weighed figs_w 7 ≡ 1) × (count_of weighed figs_w 256 ≡ 6)
unfolding in_class count_below shared any_below stands_on sections_in with_join with_signal with_legs with_train
with-weights = (refl, refl, refl, refl, refl)

-- both trains on one section: lost
pub lost-ones : (shared yard_a 0 ≡ true) × (shared yard_a 4 ≡ true) × (shared yard_a 8 ≡ true) × (shared yard_a 1 ≡ false)
unfolding shared any_below stands_on sections_in with_join with_signal with_legs with_train
lost-ones = (refl, refl, refl, refl)

-- 9 entries are enough, 8 are not
short : (table_short yard_a (replicate 9 0) ≡ false) × (table_short yard_a (replicate 8 0) ≡ true) × (table_short yard_a [] ≡ true)
unfolding with_join with_signal with_legs with_train
short = (refl, refl, refl)

order : (r : Railway) (figs : List ℕ) → map (λ (x : Row). number x.refusal) (count_rows r figs) ≡ 3 ∷ 16 ∷ 4 ∷ 5 ∷ 6 ∷ 13 ∷ 7 ∷ 8 ∷ 9 ∷ []
order r figs = refl
