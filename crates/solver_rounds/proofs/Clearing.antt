-- Clearing two lent tables from the first code on: what is behind is cleared, what is ahead is as it was.
-- Assumes nothing.
use mathlib.Core.Path.{◌≡◌, refl, ◌∙◌}
use mathlib.Core.Logic.{inl, inr}
use mathlib.Core.List.{List}
use Prim.Native.Nat.{ℕ, ◌+◌, ◌≤◌, ◌<◌}
use native.Mathlib.Omega.{arith}
use lib.ListN.{length, get_or, set, length-set}
use lib.Seq.{get_or-set_same, get_or-set_other}
use Rattle.laws.proofs.Bools.{lt?}
use Rattle.railway.specs.declared.Railway.{Railway}
use Rattle.game.specs.Placement.{placements}
use Rattle.game_tables.specs.Tables.{no_figure}
use Rattle.game_tables.specs.Solver.{Kept}
use Rattle.game_tables.specs.Rounds.{first_figure}
use Rattle.game_tables.proofs.Rounds.{cleared-round}
use Rattle.railway_compiled.specs.Table.{Compiled}
use Rattle.solver_rounds.specs.Rounds.{After}

-- one table below p as a function has it, whatever is read past its end, and as it was from p on
pub record Written (f : ℕ → ℕ) (p : ℕ) (old new : List ℕ) : Type 0 where
  pub as_long : length new ≡ length old
  pub behind : (q d : ℕ) → q < p → get_or new q d ≡ f q
  pub ahead : (q d : ℕ) → p ≤ q → get_or new q d ≡ get_or old q d

pub written_none : (f : ℕ → ℕ) (old : List ℕ) → Written f 0 old old
written_none f old = record { as_long = refl; behind = λ q d h. absurd (omega arith); ahead = λ q d h. refl }

pub written_one : (f : ℕ → ℕ) (p : ℕ) (old new : List ℕ) (x : ℕ) → Written f p old new → p < length old → x ≡ f p
    → Written f (p + 1) old (set new p x)
written_one f p old new x w l e =
    record {
      as_long = length-set new p x ∙ w.as_long;
      behind = λ q d h. elim (lt? q p) [
        | inl m ↦ get_or-set_other new p q x d (λ z. omega arith) ∙ w.behind q d m
        | inr m ↦ let z : q ≡ p = omega arith in rw z (get_or-set_same new p x d (omega (arith, w.as_long)) ∙ e)
      ];
      ahead = λ q d h. get_or-set_other new p q x d (λ z. omega arith) ∙ w.ahead q d (omega arith);
    }

pub written-kept : (r : Railway) (f : ℕ → ℕ) (old new : List ℕ) → Written f (placements r) old new → Kept r old new
written-kept r f old new w = record { as_long = w.as_long; past = λ p l. w.ahead p 0 l }

pub kept_self : (r : Railway) (a : List ℕ) → Kept r a a
kept_self r a = record { as_long = refl; past = λ p l. refl }

pub kept_on : (r : Railway) (a b c : List ℕ) → Kept r a b → Kept r b c → Kept r a c
kept_on r a b c x y = record { as_long = y.as_long ∙ x.as_long; past = λ p l. y.past p l ∙ x.past p l }

-- both tables, of every railway that has m placements and this table
pub record Clearing (table : List ℕ) (m : ℕ) (figs₀ sets₀ figs sets : List ℕ) (p : ℕ) : Type 0 where
  pub within : p ≤ m
  pub long-figs : length figs ≡ length figs₀
  pub long-sets : length sets ≡ length sets₀
  pub unset : Written (λ q. 0) p sets₀ sets
  pub first : (r : Railway) → Compiled r table → m ≡ placements r → Written (first_figure r) p figs₀ figs

module _ (table : List ℕ) (m : ℕ) (figs₀ sets₀ : List ℕ) where
  module _ (figs sets : List ℕ) (p : ℕ) (c : Clearing table m figs₀ sets₀ figs sets p) where
    pub clearing-end : m ≤ p → (r : Railway) → Compiled r table → m ≡ placements r → After r 0 figs₀ sets₀ figs sets
    clearing-end l r h e =
        let z : p ≡ placements r = omega (arith, c.within) in
        let wf : Written (first_figure r) (placements r) figs₀ figs = rw z at (c.first r h e) in
        let ws : Written (λ q. 0) (placements r) sets₀ sets = rw z at c.unset in
        record {
          tables =
              cleared-round r h.accepted figs sets
              (record { first = λ q b. wf.behind q no_figure b; unset = λ q b. ws.behind q 0 b });
          kept-figs = written-kept r (first_figure r) figs₀ figs wf;
          kept_sets = written-kept r (λ q. 0) sets₀ sets ws;
        }
