-- A round that is finished: whether it brought figures shows in the tables; what comes next, and whether that was the end, by a look ahead where one was taken. Assumes nothing.
use mathlib.Core.Path.{◌≡◌, refl, sym, ◌∙◌}
use mathlib.Core.Logic.{inl, inr, ◌↔◌}
use mathlib.Core.Bool.{Bool, true, false}
use mathlib.Core.List.{List}
use mathlib.Core.Option.{none, some}
use Prim.Native.Nat.{ℕ, suc, ◌≤◌, ◌<◌}
use native.Mathlib.Omega.{arith}
use lib.Dec.{eqb}
use borrow.Author.Tests.{eqb-true, eq-eqb}
use Rattle.laws.proofs.Bools.{lt?, eq?, clash}
use Rattle.railway.specs.declared.Railway.{Railway}
use Rattle.railway.specs.Rows.{record_refusal}
use Rattle.game_tables.specs.Tables.{no_figure}
use Rattle.game_tables.specs.Rounds.{RoundTables, HasFigure, AllBelow}
use Rattle.game_tables.proofs.Exists.{solution}
use Rattle.game_tables.proofs.RoundTables.{up-to, of-up-to}
use Rattle.solver_rounds.specs.Rounds.{RoundPost}
use Rattle.solver_rounds.specs.Visits.{MarkedFor}
use Rattle.solver_rounds.proofs.Clearing.{kept_on}
use Rattle.search_ahead.specs.Bringing.{Stands}
use Rattle.search_calls.specs.Steps.{Shows, Finished}
use Rattle.search_calls.proofs.Looking.{round-ready, next-coming}
use Rattle.search_calls.proofs.Standings.{none_after, some_after}

module _ (r : Railway) (accepted : record_refusal r ≡ none) (n e : ℕ) (figs sets figs₁ sets₁ marks₁ : List ℕ)
    (on : n < e) (post : RoundPost r n figs sets figs₁ sets₁ e) (marked : MarkedFor r e figs₁ marks₁) (b : Bool)
    (came : (b ≡ true) ↔ Stands r n figs₁) where
  tables : RoundTables r n figs₁ sets₁
  tables = post.after.tables

  has : b ≡ true → HasFigure r n
  has t =
      let s = came.0 t in
      let x = solution r accepted in
      let z = of-up-to n (x.figure s.code) n (sym (tables.figures s.code s.there (x.figure s.code) (x.figures s.code s.there)) ∙ s.is) in
      record { code = s.code; there = s.there; is = rw z.0 at (x.figures s.code s.there) }

  has-none : b ≡ false → HasFigure r n → ⊥
  has-none f h = clash (came.1 (record { code = h.code; there = h.there; is = tables.figures h.code h.there (some n) h.is ∙ up-to n (some n) n refl (omega arith) })) f

  goes_on : b ≡ true → (false ≡ true) ↔ AllBelow r n
  goes_on t = let h = has t in ((λ z. clash z refl), (λ below. absurd (let z : n < n = below h.code n h.there h.is in omega arith)))

  -- it brought figures, and the very next is due
  pub finished-next : b ≡ true → e ≡ suc n → Finished r n (record { rounds = n; ended = false; coming = e }) figs sets figs₁ sets₁ marks₁
  finished-next t z =
      record {
        tables = tables;
        kept-figs = post.after.kept-figs;
        kept_sets = post.after.kept_sets;
        ended = goes_on t;
        coming = next-coming r n e figs₁ sets₁ marks₁ (round-ready r accepted n e figs sets figs₁ sets₁ marks₁ on post marked) z;
        marked = λ l. marked;
      }

  module _ (c : ℕ) (small : c ≤ no_figure) (figs₂ sets₂ marks₂ : List ℕ) (x : Shows r n c figs₁ sets₁ figs₂ sets₂ marks₂) where
    finished-by : (ended : Bool) → (ended ≡ true) ↔ AllBelow r n → Finished r n (record { rounds = n; ended = ended; coming = c }) figs sets figs₂ sets₂ marks₂
    finished-by ended y =
        record {
          tables = x.tables;
          kept-figs = kept_on r figs figs₁ figs₂ post.after.kept-figs x.kept-figs;
          kept_sets = kept_on r sets sets₁ sets₂ post.after.kept_sets x.kept_sets;
          ended = y;
          coming = x.coming;
          marked = x.marked;
        }

    -- it brought figures
    pub finished-came : b ≡ true → Finished r n (record { rounds = n; ended = false; coming = c }) figs sets figs₂ sets₂ marks₂
    finished-came t = finished-by false (goes_on t)

    -- it brought none
    pub finished-none : b ≡ false → Finished r n (record { rounds = n; ended = eqb c no_figure; coming = c }) figs sets figs₂ sets₂ marks₂
    finished-none f =
        finished-by (eqb c no_figure) (
          (λ z p j l i.
              elim (eq? j n) [
                | inl y ↦ absurd (has-none f (record { code = p; there = l; is = rw y at i }))
                | inr y ↦ omega (arith, y, none_after r accepted n c x.coming (eqb-true c no_figure z) p j l i)
              ]),
          (λ below. elim (lt? c no_figure) [
            | inr a ↦ eq-eqb c no_figure (omega arith)
            | inl a ↦ absurd (some_after r accepted n c x.coming.later (x.sure a) (λ p j l i. omega (arith, below p j l i)))
          ]),
        )
