-- The text written out, by computation: Yard A's counts, and rows and bars of others. Assumes nothing.
use mathlib.Core.Path.{◌≡◌, refl}
use mathlib.Core.List.{[], ◌∷◌, ◌++◌}
use lib.ListN.{replicate}
use Rattle.laws.specs.Below.{sum_below, gather_below}
use Rattle.text.specs.Text.{digits, line, bytes}
use Rattle.counts_text.specs.Chart.{marks, row_text, span, first_of, label, together, more_row, counts_text}

-- a fortieth that is begun has its mark, and no bar is longer than that of all
bar-for : (marks 1 8000 ≡ 1) × (marks 200 8000 ≡ 1) × (marks 201 8000 ≡ 2) × (marks 7999 8000 ≡ 40) × (marks 8000 8000 ≡ 40) × (marks 5 0 ≡ 40)
bar-for = (refl, refl, refl, refl, refl, refl)

-- a count of nothing has no row; figures without a count of their own have one row
row-for : (row_text 8 (label 0 3) 0 ≡ []) × (row_text 8 (label 0 3) 1 ≡ bytes "3\t1\t#####\n")
    × (row_text 80 (label 14 240) 2 ≡ bytes "240-254\t2\t#\n") × (more_row 80 20 ≡ bytes "more\t20\t##########\n")
unfolding gather_below bytes line digits
row-for = (refl, refl, refl, refl)

-- up to the largest figure 16 a row has one figure, from 238 on it has 15
in_rows : (span 0 ≡ 0) × (span 16 ≡ 0) × (span 17 ≡ 1) × (span 237 ≡ 13) × (span 238 ≡ 14) × (span 254 ≡ 14) × (span 255 ≡ 14) × (span 1000000 ≡ 14) × (first_of 14 16 ≡ 240)
in_rows = (refl, refl, refl, refl, refl, refl, refl, refl, refl)

-- the counts of a row's figures, together
summed : (together (3 ∷ 1 ∷ 4 ∷ 1 ∷ 5 ∷ []) 1 2 ≡ 5) × (together (3 ∷ 1 ∷ 4 ∷ []) 0 1 ≡ 1) × (together (3 ∷ 1 ∷ 4 ∷ []) 3 2 ≡ 4) × (together (4294967295 ∷ 4294967295 ∷ []) 1 0 ≡ 4294967295)
unfolding sum_below
summed = (refl, refl, refl, refl)

-- three of nine lead home, one each of figure 0, 1 and 2
pub yard-a : counts_text 9 (record { count = 3; largest = 2 }) (1 ∷ 1 ∷ 1 ∷ (replicate 253 0 ++ (6 ∷ [])))
    ≡ bytes "placements\t9\nlead home\t3\nnone\t6\nlargest figure\t2\n0\t1\t##############\n1\t1\t##############\n2\t1\t##############\n"
unfolding counts_text gather_below sum_below bytes line digits
yard-a = refl
