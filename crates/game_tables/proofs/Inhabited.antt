-- The hypotheses of the theorems can be met: Yard A has filled tables (KnownYards), every accepted case has (Exists), tables after every
-- round exist (RoundTables). Here are the rounds: tables can be cleared, and every round can be played from any tables, of which the last gives
-- no figure in the yard of one section. Whatever stands at a placement, one of the two steps applies. Assumes nothing.
use mathlib.Core.Path.{refl}
use mathlib.Core.Logic.{inl, inr}
use mathlib.Core.List.{List, [], ◌∷◌}
use Prim.Native.Nat.{ℕ, zero, suc}
use native.Mathlib.Omega.{arith}
use lib.ListN.{get_or}
use Rattle.laws.specs.Below.{list_below}
use Rattle.laws.proofs.Bools.{bool?, option?, clash, some-none}
use Rattle.laws.proofs.Below.{list_get}
use Rattle.railway.specs.declared.Railway.{Railway}
use Rattle.railway.specs.Record.{with_train}
use Rattle.game.specs.Game.{over}
use Rattle.game.specs.Placement.{placements}
use Rattle.game.specs.Moves.{game_of}
use Rattle.railway.specs.Yards.{yard_one}
use Rattle.game_tables.specs.Tables.{no_figure, figure_in}
use Rattle.game_tables.specs.Find.{find}
use Rattle.game_tables.specs.Rounds.{first_figure, Cleared, Step, stays, gains, Stepped}

pub cleared-exists : (r : Railway) → Cleared r (list_below (first_figure r) (placements r)) (list_below (λ p. 0) (placements r))
cleared-exists r =
    record {
      first = λ p l. list_get (first_figure r) (placements r) p no_figure l;
      unset = λ p l. list_get (λ p. 0) (placements r) p 0 l;
    }

module _ (r : Railway) (n : ℕ) (figs sets : List ℕ) where
  record At (p : ℕ) : Type 0 where
    f' : ℕ
    v' : ℕ
    step : Step r (figure_in figs) n p (get_or figs p no_figure) (get_or sets p 0) f' v'

  at : (p : ℕ) → At p
  at p = elim (bool? (over (game_of r) p)) [
    | inl o ↦ record { f' = get_or figs p no_figure; v' = get_or sets p 0; step = stays refl refl (λ e going. clash o going) }
    | inr o ↦ elim (option? (figure_in figs p)) [
      | inr x ↦ record { f' = get_or figs p no_figure; v' = get_or sets p 0; step = stays refl refl (λ e going. some-none x.1 e) }
      | inl x ↦ elim (option? (find r (figure_in figs) p n)) [
        | inl y ↦ record { f' = get_or figs p no_figure; v' = get_or sets p 0; step = stays refl refl (λ e going. y) }
        | inr y ↦ record { f' = n; v' = y.0; step = gains x o refl y.1 }
      ]
    ]
  ]

  pub next-figs : List ℕ
  next-figs = list_below (λ p. (at p).f') (placements r)

  pub next-sets : List ℕ
  next-sets = list_below (λ p. (at p).v') (placements r)

  pub stepped-exists : Stepped r n figs sets next-figs next-sets
  unfolding next-figs next-sets
  stepped-exists p l = rw (list_get (λ p. (at p).f') (placements r) p no_figure l, list_get (λ p. (at p).v') (placements r) p 0 l) (at p).step

-- one section, one train at home: round 1 leaves the tables as they are
pub quiet-exists : Stepped yard_one 1 (0 ∷ []) (0 ∷ []) (0 ∷ []) (0 ∷ [])
unfolding with_train
quiet-exists zero l = stays refl refl (λ e going. some-none refl e)
quiet-exists (suc p) l = absurd (omega arith)
