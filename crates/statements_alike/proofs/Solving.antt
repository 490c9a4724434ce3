-- What a solver promises for one record it promises for another of the same railway: the game is one, and so are the settings that entries stand for,
-- their order and the rows.
-- Assumes nothing.
use Prim.Native.Nat.{ℕ, zero, suc, ◌<◌}
use mathlib.Core.Path.{◌≡◌, refl, sym, ◌∙◌, ap, fun_ext, subst}
use mathlib.Core.Bool.{Bool, true, false, ◌&&◌}
use mathlib.Core.List.{List, [], ◌∷◌, ◌++◌}
use mathlib.Core.Option.{Option, none, some}
use native.Mathlib.Omega.{arith}
use lib.Dec.{eqb}
use lib.ListN.{get_or}
use Rattle.laws.specs.Below.{any_below, count_below}
use Rattle.laws.specs.Bits.{bit}
use Rattle.laws.proofs.Below.{any_same}
use Rattle.railway.specs.declared.End.{End}
use Rattle.railway.specs.declared.Railway.{Railway}
use Rattle.railway.specs.declared.Refusal.{Refusal}
use Rattle.railway.specs.Bounds.{section_ends}
use Rattle.railway.specs.Ends.{end_index}
use Rattle.railway.specs.Refusals.{Row, refuse_if, first}
use Rattle.railway.specs.Rows.{record_rows, record_refusal}
use Rattle.railway.specs.Same.{SameRailway}
use Rattle.railway.proofs.Same.{refusal-same}
use Rattle.game.specs.Game.{Game, IsFigure}
use Rattle.game.specs.Claim.{Keeps}
use Rattle.game.specs.Placement.{placements}
use Rattle.game.specs.Setting.{Setting, signal_open}
use Rattle.game.specs.Moves.{game_of}
use Rattle.game_tables.specs.SolverAnswer.{SolverAnswer}
use Rattle.game_tables.specs.Entries.{opens_end, setting_at, entry_from, entry_of, opens_in}
use Rattle.game_tables.specs.Tables.{figure_in, tables_short, case_refusal, opens_signal, open_signals, lowest_open, no_later, IsPlanSetting, Planned, IsPlanEntry, Filled}
use Rattle.game_tables.specs.Solver.{Kept, SolverLeaves, SolverPost}
use Rattle.statements_alike.proofs.Playing.{placements-same, start-same, heads-same, open-same, game-same}

-- ROWS behind those of the record
or_row : Option Refusal → Option Refusal → Option Refusal
or_row none b = b
or_row (some f) b = some f

refuse-or : (b : Bool) (f : Refusal) (x y : Option Refusal) → refuse_if b f (or_row x y) ≡ or_row (refuse_if b f x) y
unfolding or_row
refuse-or true f x y = refl
refuse-or false f x y = refl

first-append : (xs ys : List Row) → first (xs ++ ys) ≡ or_row (first xs) (first ys)
unfolding first or_row
first-append [] ys = refl
first-append (x ∷ xs) ys = ap (refuse_if x.applies x.refusal) (first-append xs ys) ∙ refuse-or x.applies x.refusal (first xs) (first ys)

-- two records get the same from their rows and others behind them
pub rows_same : (r q : Railway) → SameRailway r q → (ys zs : List Row) → ys ≡ zs → first (record_rows r ++ ys) ≡ first (record_rows q ++ zs)
unfolding record_refusal
rows_same r q h ys zs e =
    first-append (record_rows r) ys ∙ ap (λ (o : Option Refusal). or_row o (first ys)) (refusal-same r q h) ∙ ap (λ (l : List Row). or_row (first (record_rows q)) (first l)) e
    ∙ sym (first-append (record_rows q) zs)

count_same : (f g : ℕ → Bool) (k : ℕ) → ((i : ℕ) → i < k → f i ≡ g i) → count_below f k ≡ count_below g k
unfolding count_below
count_same f g zero h = refl
count_same f g (suc k) h = rw (count_same f g k (λ i l. h i (omega arith)), h k (omega arith))

module _ (r q : Railway) (h : SameRailway r q) where
  case_same : (figs sets : List ℕ) → case_refusal r figs sets ≡ case_refusal q figs sets
  unfolding case_refusal tables_short
  case_same figs sets = rows_same r q h _ _ (rw (placements-same r q h))

  -- SETTINGS of entries, and entries of settings
  module _ (p : ℕ) where
    end_same : (v i t : ℕ) → opens_end r p (opens_in v) i t ≡ opens_end q p (opens_in v) i t
    end_same v i t = ap (λ (e : End). opens_in v t && eqb i (end_index e)) (heads-same r q h p t)

    open-ends : (v i : ℕ) → any_below (opens_end r p (opens_in v) i) r.trains ≡ any_below (opens_end q p (opens_in v) i) q.trains
    open-ends v i =
        any_same (opens_end r p (opens_in v) i) (opens_end q p (opens_in v) i) r.trains (λ t l. end_same v i t)
        ∙ ap (any_below (opens_end q p (opens_in v) i)) h.trains

    setting_same : (v : ℕ) → setting_at r p v ≡ setting_at q p v
    unfolding setting_at
    setting_same v = ap (λ (f : ℕ → Bool). record { plus = bit v; is_open = f }) (fun_ext (open-ends v))

    opens-same : (s : Setting) → signal_open r p s ≡ signal_open q p s
    opens-same s = fun_ext (open-same r q h p s)

    entry-same : (s : Setting) → entry_of r p s ≡ entry_of q p s
    unfolding entry_from
    entry-same s = rw (opens-same s, h.points, h.trains)

    -- their order
    signals-same : (s : Setting) → open_signals r s ≡ open_signals q s
    unfolding open_signals
    signals-same s = count_same (opens_signal r s) (opens_signal q s) section_ends (λ i l. let z = h.signals i l in rw z)

    lowest-same : (s : Setting) → lowest_open r p s ≡ lowest_open q p s
    unfolding lowest_open
    lowest-same s = rw (opens-same s, h.trains)

    order_same : (a b : Setting) → no_later r p a b ≡ no_later q p a b
    unfolding no_later
    order_same a b = rw (signals-same a, signals-same b, lowest-same a, lowest-same b, h.points)

    keeps_same : (F : ℕ → Option ℕ) (s : Setting) (n : ℕ) → Keeps (game_of r) F p s n ≡ Keeps (game_of q) F p s n
    keeps_same F s n = ap (λ (g : Game Setting). Keeps g F p s n) (game-same r q h)

    plan-same : (F : ℕ → Option ℕ) (n : ℕ) (s : Setting) → IsPlanSetting r F p n s → IsPlanSetting q F p n s
    plan-same F n s x =
        record {
          keeps = subst (λ (T : Type 0). T) (keeps_same F s n) x.keeps;
          earliest = λ o k. sym (order_same s o) ∙ x.earliest o (subst (λ (T : Type 0). T) (sym (keeps_same F o n)) k);
        }

    planned-same : (F : ℕ → Option ℕ) (n v : ℕ) → Planned r F p n v → Planned q F p n v
    planned-same F n v x =
        let e = setting_same v in
        (plan-same F n (setting_at q p v) (rw e at x.0), sym (entry-same (setting_at q p v)) ∙ (rw e at x.1))

    entry-planned : (F : ℕ → Option ℕ) (f : Option ℕ) (v : ℕ) → IsPlanEntry r F p f v → IsPlanEntry q F p f v
    entry-planned F none v x = x
    entry-planned F (some zero) v x = x
    entry-planned F (some (suc n)) v x = planned-same F (suc n) v x

    figure-same : (f : Option ℕ) → IsFigure (game_of r) p f ≡ IsFigure (game_of q) p f
    figure-same f = ap (λ (g : Game Setting). IsFigure g p f) (game-same r q h)

  -- TABLES
  below-same : (p : ℕ) → p < placements q → p < placements r
  below-same p l = rw (placements-same r q h) l

  filled-same : (figs sets : List ℕ) → Filled r figs sets → Filled q figs sets
  filled-same figs sets x =
      record {
        figures = λ p l. subst (λ (T : Type 0). T) (figure-same p (figure_in figs p)) (x.figures p (below-same p l));
        settings = λ p l. entry-planned p (figure_in figs) (figure_in figs p) (get_or sets p 0) (x.settings p (below-same p l));
      }

  kept_same : (old new : List ℕ) → Kept r old new → Kept q old new
  kept_same old new x = record { as_long = x.as_long; past = λ p l. x.past p (rw (placements-same r q h) l) }

  leaves-same : (a : SolverAnswer) (figs sets figs' sets' : List ℕ) (o : Option Refusal) → SolverLeaves r a figs sets figs' sets' o → SolverLeaves q a figs sets figs' sets' o
  leaves-same a figs sets figs' sets' (some f) x = x
  leaves-same a figs sets figs' sets' none x = (
    record { filled = filled-same figs' sets' x.0.filled; kept-figs = kept_same figs figs' x.0.kept-figs; kept_sets = kept_same sets sets' x.0.kept_sets },
    x.1 ∙ ap (figure_in figs') (start-same r q h),
  )

  pub solved-same : (a : SolverAnswer) (figs sets figs' sets' : List ℕ) → SolverPost r a figs sets figs' sets' → SolverPost q a figs sets figs' sets'
  solved-same a figs sets figs' sets' x =
      let e = case_same figs sets in
      record { numbered = rw e at x.numbered; leaves = leaves-same a figs sets figs' sets' (case_refusal q figs sets) (rw e at x.leaves) }
