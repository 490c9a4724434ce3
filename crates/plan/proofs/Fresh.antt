-- Tables that a call has made fresh, and tables filled with none and zero throughout, list nothing: each has at every code what it is to have.
-- Assumes nothing.
use mathlib.Core.Path.{◌≡◌, refl, sym, ◌∙◌, ap, subst}
use mathlib.Core.List.{List}
use mathlib.Core.Option.{none}
use Prim.Native.Nat.{ℕ, ◌-◌, ◌≤◌, ◌<◌}
use native.Mathlib.Omega.{arith}
use lib.ListN.{length, get_or, replicate, drop, length-append, length-drop, length-replicate, get_or-replicate, get_or-append}
use Rattle.railway.specs.declared.Railway.{Railway}
use Rattle.railway.specs.CaseAnswer.{CaseAnswer}
use Rattle.railway.specs.Rows.{record_refusal}
use Rattle.game.specs.Placement.{placements}
use Rattle.game_tables.specs.Tables.{no_figure}
use Rattle.plan.specs.Checker.{Checking, fresh_checking, fresh_table, freshened}
use Rattle.plan.specs.Checked.{FreshTables}
use Rattle.plan.specs.Promises.{FreshPost}
use Rattle.plan.proofs.Emitter.{none-refused}

module _ (r : Railway) where
  pub fresh-length : (v : ℕ) (table : List ℕ) → placements r ≤ length table → length (fresh_table r v table) ≡ length table
  fresh-length v table l =
      let n : length (replicate (placements r) v) ≡ placements r = length-replicate {A = ℕ} (placements r) v in
      let m : length (drop (placements r) table) ≡ length table - placements r = length-drop (placements r) table in
      length-append (replicate (placements r) v) (drop (placements r) table) ∙ omega (arith, n, m, l)

  fresh-below : (v d : ℕ) (table : List ℕ) (p : ℕ) → p < placements r → get_or (fresh_table r v table) p d ≡ v
  fresh-below v d table p l =
      let n : length (replicate (placements r) v) ≡ placements r = length-replicate {A = ℕ} (placements r) v in
      get_or-append (replicate (placements r) v) (drop (placements r) table) d p (omega (arith, n, l)) ∙ get_or-replicate (placements r) p v d l

  -- filled throughout
  pub fresh-all : (n m : ℕ) → placements r ≤ n → placements r ≤ m → FreshTables r (fresh_checking n m)
  fresh-all n m i j =
      record {
        state = refl;
        enough-figs = rw (length-replicate {A = ℕ} n no_figure) i;
        enough-sets = rw (length-replicate {A = ℕ} m 0) j;
        figures = λ p l. get_or-replicate n p no_figure no_figure (omega (arith, i, l));
        settings = λ p l. get_or-replicate m p 0 0 (omega (arith, j, l));
      }

  -- made fresh, in a case that is not refused
  fresh-both : (figs sets : List ℕ) → placements r ≤ length figs → placements r ≤ length sets → FreshTables r (freshened r figs sets none)
  fresh-both figs sets i j =
      record {
        state = refl;
        enough-figs = rw (fresh-length no_figure figs i) i;
        enough-sets = rw (fresh-length 0 sets j) j;
        figures = λ p l. fresh-below no_figure no_figure figs p l;
        settings = λ p l. fresh-below 0 0 sets p l;
      }

  pub fresh-made : (figs sets : List ℕ) (a : CaseAnswer) (c : Checking) → record_refusal r ≡ none → placements r ≤ length figs → placements r ≤ length sets
      → FreshPost r figs sets a c → FreshTables r c
  fresh-made figs sets a c accepted i j p =
      subst (FreshTables r) (sym (p.checking ∙ ap (freshened r figs sets) (none-refused r figs sets accepted i j))) (fresh-both figs sets i j)
