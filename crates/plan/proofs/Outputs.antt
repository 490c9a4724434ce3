-- The plan texts that are written out hold for all filled tables: they are computed for one pair, which is
-- certified, and all filled tables make the same plan. Assumes nothing.
use mathlib.Core.Path.{◌≡◌, refl, ◌∙◌, ap}
use mathlib.Core.List.{List, [], ◌∷◌, flatten}
use mathlib.Core.Option.{none, some}
use Prim.Native.Nat.{ℕ}
use Prim.Native.String.{String}
use Rattle.laws.specs.Below.{sum_below, which_below, list_below}
use Rattle.text.specs.Text.{digits, line, bytes}
use Rattle.railway.specs.declared.Railway.{Railway}
use Rattle.railway.specs.Record.{train_of, with_join, with_signal, with_legs, with_train}
use Rattle.railway.specs.Rows.{record_refusal}
use Rattle.game.specs.Placement.{code_of, sections_in, start_code}
use Rattle.railway.specs.Yards.{yard_a, yard_aless, yard_one, yard_one_down}
use Rattle.game_tables.specs.Tables.{Filled}
use Rattle.game_tables.specs.KnownYards.{plan_a, plan_one}
use Rattle.game_tables.proofs.KnownYards.{figs_a, sets_a, zeros, yard_a-accepted, yard_a-filled, yard_aless-filled, one-filled, one-down-filled, known-figures}
use Rattle.plan.specs.Lines.{spell}
use Rattle.plan.specs.Text.{line_for, plan_lines, plan_texts, plan_text}
use Rattle.plan.specs.Outputs.{Writes, KnownYardsHold}
use Rattle.plan.proofs.Text.{texts-one}

-- a text that one pair of filled tables makes
writes : (r : Railway) (s : String) (figs sets : List ℕ) → record_refusal r ≡ none → Filled r figs sets → plan_text r figs sets ≡ bytes s → Writes r (some s)
writes r s figs sets a f e = λ figs' sets' g. ap flatten (texts-one r a figs' sets' figs sets g f) ∙ e

computed : (plan_text yard_a figs_a sets_a ≡ bytes plan_a) × (plan_text yard_aless figs_a sets_a ≡ bytes plan_a)
    × (plan_text yard_one (0 ∷ []) zeros ≡ bytes plan_one) × (plan_text yard_one_down (0 ∷ []) zeros ≡ bytes plan_one)
unfolding flatten bytes plan_texts plan_lines line_for spell digits line sum_below which_below list_below sections_in start_code code_of train_of with_join with_signal with_legs with_train
computed = (refl, refl, refl, refl)

-- FIGURES AND TEXTS
pub known-yards : KnownYardsHold
known-yards =
    record {
      figures = known-figures;
      texts = (
        writes yard_a plan_a figs_a sets_a yard_a-accepted yard_a-filled computed.0,
        (
          tt,
          (
            tt,
            (
              tt,
              (
                tt,
                (
                  tt,
                  (
                    writes yard_aless plan_a figs_a sets_a yard_aless-filled.0 yard_aless-filled.1 computed.1,
                    (
                      writes yard_one plan_one (0 ∷ []) zeros one-filled.0 one-filled.1 computed.2,
                      (writes yard_one_down plan_one (0 ∷ []) zeros one-down-filled.0 one-down-filled.1 computed.3, (tt, (tt, (tt, (tt, tt))))),
                    ),
                  ),
                ),
              ),
            ),
          ),
        ),
      );
    }
