-- A figure looked for in the table, stretch after stretch: where the marks say that all are smaller it cannot stand.
-- Assumes nothing.
use mathlib.Core.Path.{◌≡◌, refl, ◌∙◌, ap}
use mathlib.Core.Logic.{inl, inr, ◌↔◌}
use mathlib.Core.Bool.{Bool, true, false}
use mathlib.Core.List.{List}
use mathlib.Core.Option.{some}
use Prim.Native.Nat.{ℕ, ◌+◌, ◌*◌, ◌≤◌, ◌<◌}
use native.Mathlib.Omega.{arith}
use lib.ListN.{get_or}
use Rattle.laws.proofs.Bools.{eq?, lt?, clash}
use Rattle.railway.specs.declared.Railway.{Railway}
use Rattle.railway.specs.Bounds.{most_trains}
use Rattle.game.specs.Placement.{placements}
use Rattle.game_tables.specs.Tables.{no_figure, figure_entry, figure_in}
use Rattle.railway_compiled.specs.Table.{Compiled}
use Rattle.solver_marks.specs.Marks.{stretch_of, stretches, most_at}
use Rattle.solver_rounds.specs.Visits.{MarkedFor}
use Rattle.solver_rounds.proofs.Entries.{entry-some, entry-is}
use Rattle.search_ahead.specs.Bringing.{Stands, StandsIn, stands, none-stands}

-- CODE AFTER CODE: no entry from `from` to c is n
abbrev pub Others : List ℕ → ℕ → ℕ → ℕ → Type 0
Others figs n from c = (q : ℕ) → from ≤ q → q < c → get_or figs q no_figure ≡ n → ⊥

pub others-next : (figs : List ℕ) (n from c e : ℕ) → Others figs n from c → e ≡ get_or figs c no_figure → (e ≡ n → ⊥)
    → Others figs n from (c + 1)
others-next figs n from c e o is other q l h z =
    elim (eq? q c) [ inl y ↦ other (is ∙ (rw y at z)) | inr y ↦ o q l (omega (arith, y)) z ]

-- STRETCH AFTER STRETCH: no placement below c has figure n
abbrev pub NoneTo : List ℕ → List ℕ → List ℕ → ℕ → ℕ → Type 0
NoneTo table figs marks n c =
    (r : Railway) (d : ℕ) → Compiled r table → MarkedFor r d figs marks → (q : ℕ) → q < placements r → q < c
    → figure_in figs q ≡ some n → ⊥

module _ (table figs marks : List ℕ) (n c upto : ℕ) (o : NoneTo table figs marks n c) where
  -- its figures are smaller
  pub none-smaller : (top : ℕ) → top ≡ most_at marks c → top < n
      → ((q : ℕ) → c ≤ q → q < upto → stretch_of q ≡ stretch_of c) → NoneTo table figs marks n upto
  none-smaller top is l own r d h k q lq lu e = elim (lt? q c) [
    | inl y ↦ o r d h k q lq y e
    | inr y ↦
        let same : most_at marks q ≡ most_at marks c =
        ap (λ (i : ℕ). get_or marks (most_trains * stretches + i) 0) (own q y lu) in
        omega (arith, k.most q n lq e)
  ]

  -- it has been looked through
  pub none_seen : (b : Bool) → StandsIn figs n c upto b → b ≡ false → NoneTo table figs marks n upto
  none_seen b (stands q l e) f = clash refl f
  none_seen b (none-stands h) f = λ r d t k q lq lu e. elim (lt? q c) [
    | inl y ↦ o r d t k q lq y e
    | inr y ↦ h q y lu (entry-is (get_or figs q no_figure) n e)
  ]

-- FOUND, or not
module _ (figs : List ℕ) (n m : ℕ) (r : Railway) (counted : m ≡ placements r) (small : n < no_figure) where
  pub found-there : (c upto : ℕ) (b : Bool) → StandsIn figs n c upto b → b ≡ true → upto ≤ m
      → (true ≡ true) ↔ Stands r n figs
  found-there c upto b (none-stands h) f l = clash f refl
  found-there c upto b (stands q lq e) f l = (
    (λ z. record { code = q; there = omega arith; is = ap figure_entry e ∙ entry-some n (λ y. omega arith) }),
    (λ z. refl),
  )

pub found_nowhere : (table figs marks : List ℕ) (n c m : ℕ) → NoneTo table figs marks n c → m ≤ c
    → (r : Railway) (d : ℕ) → Compiled r table → MarkedFor r d figs marks → m ≡ placements r
    → (false ≡ true) ↔ Stands r n figs
found_nowhere table figs marks n c m o l r d h k e =
    ((λ z. clash z refl), (λ s. absurd (o r d h k s.code s.there (omega (arith, s.there)) s.is)))
