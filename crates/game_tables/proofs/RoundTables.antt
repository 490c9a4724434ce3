-- Round by round: for every n there are tables as they stand after round n, and where no figure is larger than n these are filled tables.
-- They are the case's figures and entries up to n. A plan's entry looks at smaller figures alone, and those are there from their own round
-- on. Assumes nothing.
use mathlib.Core.Path.{◌≡◌, refl, ◌∙◌, ap}
use mathlib.Core.Logic.{inl, inr}
use mathlib.Core.Bool.{Bool, true, false, cond}
use mathlib.Core.List.{List}
use mathlib.Core.Option.{Option, none, some}
use Prim.Native.Nat.{ℕ, ◌≤◌, ◌<◌}
use native.Mathlib.Omega.{arith}
use lib.ListN.{length}
use lib.Dec.{leb}
use borrow.Author.Tests.{leb-true, le-leb}
use Rattle.laws.proofs.Bools.{bool?, some-none}
use Rattle.railway.specs.declared.Railway.{Railway}
use Rattle.railway.specs.Rows.{record_refusal}
use Rattle.game.specs.Game.{IsFigure}
use Rattle.game.specs.Placement.{placements}
use Rattle.game.specs.Moves.{game_of}
use Rattle.game.proofs.Accepted.{facts}
use Rattle.game.proofs.Figures.{figure-one}
use Rattle.game_tables.specs.Tables.{no_figure, figure_in, IsPlanEntry, Filled}
use Rattle.game_tables.specs.Rounds.{up_to, RoundTables}
use Rattle.game_tables.proofs.Carry.{entry-carry}
use Rattle.game_tables.proofs.Exists.{Solution, solution, figures-written, entries-written, figure-at, settings-written}

-- figures up to n
pub up-to : (n : ℕ) (f : Option ℕ) (j : ℕ) → f ≡ some j → j ≤ n → up_to n f ≡ some j
up-to n f j e l = rw (e, le-leb j n l)

pub of-up-to : (n : ℕ) (f : Option ℕ) (j : ℕ) → up_to n f ≡ some j → (f ≡ some j) × (j ≤ n)
of-up-to n none j e = some-none e refl
of-up-to n (some i) j e = elim (bool? (leb i n)) [
  | inl y ↦ let s : up_to n (some i) ≡ some i = rw y in let z : i ≡ j = cc in (rw z, (let b : i ≤ n = leb-true i n y in omega arith))
  | inr y ↦ some-none e (rw y)
]

-- an entry that stands where the figure is at most n, else zero
abbrev entry_up_to : ℕ → Option ℕ → ℕ → ℕ
entry_up_to n none v = 0
entry_up_to n (some j) v = cond (leb j n) v 0

module _ (r : Railway) (accepted : record_refusal r ≡ none) (n : ℕ) where
  module _ (x : Solution r) where
    abbrev F : ℕ → Option ℕ
    F p = up_to n (x.figure p)

    abbrev E : ℕ → ℕ
    E p = entry_up_to n (x.figure p) (x.entry p)

    pub small : (p j : ℕ) → p < placements r → F p ≡ some j → j < no_figure
    small p j l e = x.small p j l (of-up-to n (x.figure p) j e).0

    plan-at : (p : ℕ) → p < placements r → (f : Option ℕ) → x.figure p ≡ f → IsPlanEntry r F p (up_to n f) (entry_up_to n f (x.entry p))
    plan-at p l none e = refl
    plan-at p l (some j) e = go (leb j n) refl
      where
        go : (b : Bool) → leb j n ≡ b → IsPlanEntry r F p (cond b (some j) none) (cond b (x.entry p) 0)
        go false y = refl
        go true y =
            let le : j ≤ n = leb-true j n y in
            entry-carry r (facts r accepted) x.figure F p l (some j) (x.entry p)
            (λ m em q i lq b h. let z : j ≡ m = cc in up-to n (x.figure q) i h (omega arith))
            (λ m em q i lq b h. (of-up-to n (x.figure q) i h).0) (rw e at (x.entries p l))

    -- AFTER EVERY ROUND there are such tables
    module _ (figs sets : List ℕ) (lf : placements r ≤ length figs) (ls : placements r ≤ length sets) where
      pub round-written : RoundTables r n (figures-written r F E small figs sets lf ls) (entries-written r F E small figs sets lf ls)
      round-written =
          record {
            figures = λ p l f i. figure-at r F E small figs sets lf ls p l ∙ ap (up_to n) (figure-one (game_of r) p (x.figure p) f (x.figures p l) i);
            settings = settings-written r F E small figs sets lf ls (facts r accepted) (λ p l. plan-at p l (x.figure p) refl);
          }

  pub round-exists : (figs sets : List ℕ) → placements r ≤ length figs → placements r ≤ length sets → (new-figs : List ℕ) × (new-sets : List ℕ) × RoundTables r n new-figs new-sets
  round-exists figs sets lf ls = (_, _, round-written (solution r accepted) figs sets lf ls)

  -- THE LAST ROUND: where no figure is larger than n, the tables after round n are filled tables
  module _ (most : (p j : ℕ) → p < placements r → IsFigure (game_of r) p (some j) → j ≤ n) where
    all : (p : ℕ) → p < placements r → (f : Option ℕ) → IsFigure (game_of r) p f → up_to n f ≡ f
    all p l none i = refl
    all p l (some j) i = up-to n (some j) j refl (most p j l i)

    pub round_filled : (figs sets : List ℕ) → RoundTables r n figs sets → Filled r figs sets
    round_filled figs sets t =
        record {
          figures = λ p l.
              let i : IsFigure (game_of r) p ((solution r accepted).figure p) = (solution r accepted).figures p l in
              let e : figure_in figs p ≡ (solution r accepted).figure p = t.figures p l ((solution r accepted).figure p) i ∙ all p l ((solution r accepted).figure p) i in
              rw e i;
          settings = t.settings;
        }
