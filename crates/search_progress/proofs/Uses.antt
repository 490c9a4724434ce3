-- What is told of a table that is written out, by each sentence of the promise and by nothing else: how many figures it has, that the largest is no
-- smaller, that it is no larger, and that it is 0 where there is none. And a line's bytes. Assumes nothing.
use mathlib.Core.Path.{◌≡◌, refl}
use mathlib.Core.List.{List, [], ◌∷◌}
use mathlib.Core.Option.{some}
use Prim.Native.Nat.{ℕ, ◌≤◌, ◌<◌}
use native.Mathlib.Omega.{arith}
use Rattle.laws.specs.Below.{count_below}
use Rattle.laws.proofs.Below.{upto}
use Rattle.laws.proofs.Bools.{some-none, some_one}
use Rattle.text.specs.Text.{digits, line, bytes}
use Rattle.game_tables.specs.Tables.{no_figure, figure_in}
use Rattle.search_progress.specs.declared.Progress.{Progress}
use Rattle.search_progress.specs.Telling.{Tells, round_line}

-- the line
spelled : round_line 12 (record { count = 304; largest = 9 }) ≡ bytes "round\t12\t304\t9\n"
unfolding bytes line digits
spelled = refl

-- four placements, one without a figure
abbrev four : List ℕ
four = 0 ∷ no_figure ∷ 7 ∷ 5 ∷ []

-- no figure in it is above 7
abbrev Below : ℕ → Type 0
Below p = (j : ℕ) → figure_in four p ≡ some j → j ≤ 7

figure-small : (x : ℕ) → x ≤ 7 → (j : ℕ) → some x ≡ some j → j ≤ 7
figure-small x l j e = omega (arith, some_one e, l)

at-most : (p : ℕ) → p < 4 → Below p
at-most =
    upto Below (upto Below (upto Below (upto Below (λ p l. absurd (omega arith)) (figure-small 0 (omega arith))) (λ j e. some-none e refl)) (figure-small 7 (omega arith)))
    (figure-small 5 (omega arith))

module _ (a : Progress) where
  three : Tells four 4 a → a.count ≡ 3
  unfolding count_below
  three t = t.count

  -- past the table's end there is no figure
  still-three : Tells four 6 a → a.count ≡ 3
  unfolding count_below
  still-three t = t.count

  not-less : Tells four 4 a → 7 ≤ a.largest
  not-less t = t.most 2 (omega arith) 7 refl

  not_more : Tells four 4 a → a.count ≡ 3 → a.largest ≤ 7
  not_more t c = let h = t.reached (omega (arith, c)) in at-most h.code h.below a.largest h.has

  nothing_yet : Tells (no_figure ∷ no_figure ∷ []) 2 a → a.count ≡ 0 → a.largest ≡ 0
  nothing_yet t c = t.without c
