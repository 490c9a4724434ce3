-- Looking ahead, round after round: none of those that are passed brings a figure, so the tables show what they showed, up to the first that does, or to the last that there can
-- be. Assumes nothing.
use mathlib.Core.Path.{◌≡◌, refl, sym, ◌∙◌}
use mathlib.Core.Logic.{inl, inr, ◌↔◌}
use mathlib.Core.Bool.{Bool, true, false}
use mathlib.Core.List.{List}
use mathlib.Core.Option.{Option, none, some}
use Prim.Native.Nat.{ℕ, suc, ◌-◌, ◌≤◌, ◌<◌}
use native.Mathlib.Omega.{arith}
use lib.ListN.{length}
use Rattle.laws.proofs.Bools.{lt?, eq?, clash, some-none}
use Rattle.railway.specs.declared.Railway.{Railway}
use Rattle.railway.specs.Record.{is_closed}
use Rattle.railway.specs.Rows.{record_refusal}
use Rattle.game.specs.Game.{IsFigure}
use Rattle.game.specs.Placement.{placements}
use Rattle.game.specs.Moves.{game_of}
use Rattle.game_tables.specs.Tables.{no_figure}
use Rattle.game_tables.specs.Solver.{Kept}
use Rattle.game_tables.specs.Rounds.{up_to, RoundTables, HasFigure, most_figure}
use Rattle.game_tables.proofs.RoundTables.{up-to}
use Rattle.game_tables.proofs.Rounds.{above, accepted-go}
use Rattle.railway_routes.specs.Routes.{Laid}
use Rattle.railway_compiled.specs.Table.{Compiled}
use Rattle.solver_predecessors.specs.Behind.{Behind}
use Rattle.solver_rounds.specs.Rounds.{RoundPost}
use Rattle.solver_rounds.specs.Visits.{MarkedFor}
use Rattle.solver_rounds.proofs.Clearing.{kept_self, kept_on}
use Rattle.search.specs.Searching.{Coming}
use Rattle.search_calls.specs.Steps.{Ready, Shows}

-- ROUNDS THAT BRING NOTHING, behind n up to m, leave the same tables
module _ (r : Railway) (n m : ℕ) (le : n ≤ m) (none_between : (j : ℕ) → HasFigure r j → n < j → m < j) where
  upto-same : (p : ℕ) → p < placements r → (f : Option ℕ) → IsFigure (game_of r) p f → up_to n f ≡ up_to m f
  upto-same p l none i = refl
  upto-same p l (some j) i = elim (lt? n j) [
    | inr b ↦ up-to n (some j) j refl b ∙ sym (up-to m (some j) j refl (omega arith))
    | inl b ↦ above n (some j) j refl b ∙ sym (above m (some j) j refl (none_between j (record { code = p; there = l; is = i }) b))
  ]

  pub tables-later : (figs sets : List ℕ) → RoundTables r n figs sets → RoundTables r m figs sets
  tables-later figs sets t = record { figures = λ p l f i. t.figures p l f i ∙ upto-same p l f i; settings = t.settings }

  pub tables-earlier : (figs sets : List ℕ) → RoundTables r m figs sets → RoundTables r n figs sets
  tables-earlier figs sets t = record { figures = λ p l f i. t.figures p l f i ∙ sym (upto-same p l f i); settings = t.settings }

-- behind a round no figure comes before the next that it names
pub none_before : (r : Railway) → record_refusal r ≡ none → (n e : ℕ) (figs sets figs' sets' : List ℕ) → n < e → RoundPost r n figs sets figs' sets' e → (j : ℕ) → HasFigure r j → n < j → e ≤ j
none_before r accepted n e figs sets figs' sets' l post j h b = elim (lt? j e) [
  | inr z ↦ z
  | inl z ↦
      let t : RoundTables r n figs' sets' = post.after.tables in
      let later : RoundTables r (e - 1) figs' sets' = (accepted-go r accepted).quiet n (e - 1) figs' sets' t (omega arith) (λ k due lk. omega (arith, post.quiet k due lk)) in
      some-none
      (later.figures h.code h.there (some j) h.is ∙ up-to (e - 1) (some j) j refl (omega arith))
      (t.figures h.code h.there (some j) h.is ∙ above n (some j) j refl b)
]

-- BEHIND A ROUND
pub round-ready : (r : Railway) → record_refusal r ≡ none → (n e : ℕ) (figs sets figs' sets' marks' : List ℕ) → n < e
    → RoundPost r n figs sets figs' sets' e → MarkedFor r e figs' marks' → Ready r n e figs' sets' marks'
round-ready r accepted n e figs sets figs' sets' marks' l post marked =
    record { later = l; tables = post.after.tables; between = none_before r accepted n e figs sets figs' sets' l post; marked = marked }

-- BEFORE ROUND d
module _ (r : Railway) (n d : ℕ) (figs sets marks : List ℕ) (y : Ready r n d figs sets marks) where
  pub ready-tables : RoundTables r (d - 1) figs sets
  ready-tables = tables-later r n (d - 1) (omega (arith, y.later)) (λ j h b. omega (arith, y.between j h b)) figs sets y.tables

  -- it brings none
  module _ (accepted : record_refusal r ≡ none) (brings-none : HasFigure r d → ⊥) (e : ℕ) (figs' sets' marks' : List ℕ)
      (onward : d < e) (post : RoundPost r d figs sets figs' sets' e) (marked : MarkedFor r e figs' marks') where
    not-d : (j : ℕ) → HasFigure r j → n < j → d < j
    not-d j h b = elim (eq? j d) [ inl z ↦ absurd (brings-none (rw z at h)) | inr z ↦ omega (arith, y.between j h b, z) ]

    pub passed-ready : Ready r n e figs' sets' marks'
    passed-ready =
        record {
          later = omega (arith, y.later);
          tables = tables-earlier r n d (omega (arith, y.later)) not-d figs' sets' post.after.tables;
          between = λ j h b. none_before r accepted d e figs sets figs' sets' onward post j h (not-d j h b);
          marked = marked;
        }

  -- it is the next that brings one
  pub found-coming : HasFigure r d → Coming r n d
  found-coming h = record { later = y.later; first = y.between; brings = λ a l. h }

  -- it is the very next, and may bring one
  pub next-coming : d ≡ suc n → Coming r n d
  next-coming e = record { later = y.later; first = y.between; brings = λ a l. absurd (omega arith) }

  -- there is none
  pub none-coming : record_refusal r ≡ none → n < no_figure → most_figure < d → Coming r n no_figure
  none-coming accepted room l =
      record {
        later = room;
        first = λ j h b. absurd (omega (arith, y.between j h b, (accepted-go r accepted).small h.code j h.there h.is));
        brings = λ a k. absurd (omega arith);
      }

-- THE LOOP, come to round d
pub record LookedTo (table ways behind : List ℕ) (figs₀ sets₀ marks₀ figs sets marks : List ℕ) (from d : ℕ) : Type 0 where
  pub long-figs : length figs ≡ length figs₀
  pub long-sets : length sets ≡ length sets₀
  pub long-marks : length marks ≡ length marks₀
  pub looked : (r : Railway) (n : ℕ) → Compiled r table → Laid r (is_closed r) ways → Behind r behind → placements r ≤ length figs₀ → placements r ≤ length sets₀ → Ready r n from figs₀ sets₀ marks₀
      → Ready r n d figs sets marks × Kept r figs₀ figs × Kept r sets₀ sets

-- what the calls in it promise
abbrev pub Brings : List ℕ → List ℕ → List ℕ → List ℕ → List ℕ → ℕ → Bool → Type 0
Brings table ways behind figs marks n b =
    (r : Railway) (k : ℕ) (sets : List ℕ) → Compiled r table → Laid r (is_closed r) ways → Behind r behind → n ≡ suc k
    → RoundTables r k figs sets → MarkedFor r n figs marks → (b ≡ true) ↔ HasFigure r n

abbrev pub Rounds : List ℕ → List ℕ → List ℕ → ℕ → List ℕ → List ℕ → List ℕ → List ℕ → List ℕ → List ℕ → ℕ → Type 0
Rounds table ways behind n figs sets marks figs' sets' marks' e =
    (r : Railway) (k : ℕ) → Compiled r table → Laid r (is_closed r) ways → Behind r behind → placements r ≤ length figs
    → placements r ≤ length sets → n ≤ most_figure → n ≡ suc k → RoundTables r k figs sets
    → MarkedFor r n figs marks → RoundPost r n figs sets figs' sets' e × MarkedFor r e figs' marks'

module _ (table ways behind : List ℕ) (figs₀ sets₀ marks₀ : List ℕ) (from : ℕ) where
  pub looked-start : LookedTo table ways behind figs₀ sets₀ marks₀ figs₀ sets₀ marks₀ from from
  looked-start = record { long-figs = refl; long-sets = refl; long-marks = refl; looked = λ r n h w b lf ls y. (y, kept_self r figs₀, kept_self r sets₀) }

  module _ (figs sets marks : List ℕ) (d : ℕ) (x : LookedTo table ways behind figs₀ sets₀ marks₀ figs sets marks from d)
      (b : Bool) (brings : Brings table ways behind figs marks d b) (few : d ≤ most_figure) where
    pub looked-found : b ≡ true → (r : Railway) (n : ℕ) → Compiled r table → Laid r (is_closed r) ways → Behind r behind
        → placements r ≤ length figs₀ → placements r ≤ length sets₀ → Ready r n from figs₀ sets₀ marks₀
        → Shows r n d figs₀ sets₀ figs sets marks
    looked-found told r n h w back lf ls y₀ =
        let y = x.looked r n h w back lf ls y₀ in
        let has : HasFigure r d = (brings r (d - 1) sets h w back (omega (arith, y.0.later)) (ready-tables r n d figs sets marks y.0) y.0.marked).0 told in
        record {
          tables = y.0.tables;
          kept-figs = y.1;
          kept_sets = y.2;
          coming = found-coming r n d figs sets marks y.0 has;
          sure = λ l. has;
          marked = λ l. y.0.marked;
        }

    pub looked-next : b ≡ false → (figs' sets' marks' : List ℕ) (e : ℕ) → length figs' ≡ length figs → length sets' ≡ length sets → length marks' ≡ length marks → d < e
        → Rounds table ways behind d figs sets marks figs' sets' marks' e → LookedTo table ways behind figs₀ sets₀ marks₀ figs' sets' marks' from e
    looked-next told figs' sets' marks' e ef es em on round =
        record {
          long-figs = ef ∙ x.long-figs;
          long-sets = es ∙ x.long-sets;
          long-marks = em ∙ x.long-marks;
          looked = λ r n h w back lf ls y₀.
              let y = x.looked r n h w back lf ls y₀ in
              let t : RoundTables r (d - 1) figs sets = ready-tables r n d figs sets marks y.0 in
              let z = round r (d - 1) h w back (omega (arith, x.long-figs)) (omega (arith, x.long-sets)) few (omega (arith, y.0.later)) t y.0.marked in
              let none-there : HasFigure r d → ⊥ = λ f. clash ((brings r (d - 1) sets h w back (omega (arith, y.0.later)) t y.0.marked).1 f) told in (
                passed-ready r n d figs sets marks y.0 h.accepted none-there e figs' sets' marks' on z.0 z.1,
                kept_on r figs₀ figs figs' y.1 z.0.after.kept-figs,
                kept_on r sets₀ sets sets' y.2 z.0.after.kept_sets,
              );
        }

  pub looked-over : (figs sets marks : List ℕ) (d : ℕ) → LookedTo table ways behind figs₀ sets₀ marks₀ figs sets marks from d → most_figure < d
      → (r : Railway) (n : ℕ) → n < no_figure → Compiled r table → Laid r (is_closed r) ways → Behind r behind
      → placements r ≤ length figs₀ → placements r ≤ length sets₀ → Ready r n from figs₀ sets₀ marks₀
      → Shows r n no_figure figs₀ sets₀ figs sets marks
  looked-over figs sets marks d x l r n room h w back lf ls y₀ =
      let y = x.looked r n h w back lf ls y₀ in
      record {
        tables = y.0.tables;
        kept-figs = y.1;
        kept_sets = y.2;
        coming = none-coming r n d figs sets marks y.0 h.accepted room l;
        sure = λ k. absurd (omega arith);
        marked = λ k. absurd (omega arith);
      }
