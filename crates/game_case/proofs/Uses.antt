-- The promise of a case handed in, put to use in Yard A: eight entries are too few for its nine placements, which is number 9, and the table beside the
-- refusal is zero throughout; with nine the table is Yard A's. Assumes nothing.
use mathlib.Core.Path.{◌≡◌, refl, ap}
use mathlib.Core.List.{List}
use mathlib.Core.Option.{none, some}
use Prim.Native.Nat.{ℕ}
use lib.ListN.{get_or, replicate}
use Rattle.laws.specs.Below.{any_below}
use Rattle.railway.specs.declared.Refusal.TheVariants.{Space}
use Rattle.railway.specs.Ends.{end_at}
use Rattle.railway.specs.Refusals.{first, number_given}
use Rattle.railway.specs.Record.{is_closed, joined_by, joined, has_signal, legs_of, train_of, weight_of, with_join, with_signal, with_legs, with_train}
use Rattle.railway.specs.Rows.{weight_row, unknown_row, join_row, loose_row, longer, chain_row, place_row}
use Rattle.railway.specs.Yards.{yard_a}
use Rattle.game_tables.specs.Tables.{tables_short, case_refusal}
use Rattle.railway_compiled.specs.Compilation.{Compilation}
use Rattle.railway_compiled.specs.Table.{Compiled}
use Rattle.game_case.specs.Cases.{CasePost}

judged : (case_refusal yard_a (replicate 8 5) (replicate 9 6) ≡ some Space) × (case_refusal yard_a (replicate 9 5) (replicate 9 6) ≡ none)
unfolding case_refusal tables_short first weight_row weight_of unknown_row join_row loose_row chain_row longer place_row end_at
    joined_by joined has_signal legs_of train_of with_join with_signal with_legs with_train any_below is_closed
judged = (refl, refl)

short-nine : (c : Compilation) → CasePost yard_a (replicate 8 5) (replicate 9 6) c → number_given c.tested ≡ some 9
unfolding case_refusal tables_short first weight_row weight_of unknown_row join_row loose_row chain_row longer place_row end_at
    joined_by joined has_signal legs_of train_of with_join with_signal with_legs with_train any_below is_closed
short-nine c p = p.numbered

short-zero : (c : Compilation) → CasePost yard_a (replicate 8 5) (replicate 9 6) c → get_or c.table 0 7 ≡ 0
short-zero c p = ap (λ (t : List ℕ). get_or t 0 7) (p.zero Space judged.0)

enough-compiled : (c : Compilation) → CasePost yard_a (replicate 9 5) (replicate 9 6) c → Compiled yard_a c.table
enough-compiled c p = p.compiled judged.1
