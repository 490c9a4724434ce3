-- One placement looked at: it is no code, has a figure, finds nothing, or gains. Assumes nothing.
use mathlib.Core.Path.{◌≡◌, refl, sym, ◌∙◌, ap}
use mathlib.Core.Bool.{Bool, true, false}
use mathlib.Core.Option.{none, some}
use Prim.Native.Nat.{ℕ, ◌≤◌, ◌<◌}
use native.Mathlib.Omega.{arith}
use lib.ListN.{get_or}
use Rattle.std.specs.Prelude.{is_some}
use Rattle.laws.proofs.Bools.{some-none}
use Rattle.railway.specs.declared.Railway.{Railway}
use Rattle.railway.specs.Record.{is_closed}
use Rattle.game.specs.Game.{over}
use Rattle.game.specs.Placement.{placements, code_on}
use Rattle.game.specs.Moves.{code_with, game_of}
use Rattle.game.proofs.Accepted.{facts}
use Rattle.game.proofs.Moves.{code-with-below}
use Rattle.game_tables.specs.Tables.{no_figure, figure_in}
use Rattle.game_tables.specs.Find.{find}
use Rattle.railway_routes.specs.Routes.{Laid}
use Rattle.game_placement.specs.declared.Placement.{Placement}
use Rattle.game_placement.specs.ByValue.{section_in}
use Rattle.game_moves.specs.Steps.{On, put_in}
use Rattle.game_moves.proofs.Moving.{put-on-is}
use Rattle.game_moves.proofs.Round.{code-back}
use Rattle.solver_settings.specs.Found.{Found, Nothing, Entry}
use Rattle.solver_settings.specs.Answers.{entry_found, first_keeping}
use Rattle.solver_rounds.specs.Visits.{One}
use Rattle.solver_rounds.proofs.Entries.{entry-some, entry-none, finds-nothing, finds-entry}
use Rattle.search_ahead.specs.declared.Look.{Look}
use Rattle.search_ahead.specs.Bringing.{Looking, Told, gains, rests}

module _ {r : Railway} {look : Look} (o : Looking r look) (n c t y p : ℕ) (there : y < r.sections) (put : p ≡ code_with r c t y) where
  below : p < placements r
  below = rw put (code-with-below r (facts r o.compiled.accepted) c t y there)

  pub put-outside : look.m ≤ p → Told r n look.figures.now (One p) false
  put-outside l = absurd (omega (arith, below, o.counted))

  pub put-figured : (e : ℕ) → e ≡ get_or look.figures.now p no_figure → (e ≡ no_figure → ⊥) → Told r n look.figures.now (One p) false
  put-figured e is h = rests (λ q l k f g. some-none (entry-some (get_or look.figures.now p no_figure) (λ z. h (is ∙ z))) (rw k at f))

  module _ (q v : Placement) (on : On r c look.table.now q) (lt : t < r.trains)
      (moved : (u : ℕ) → section_in v u ≡ put_in q t y u) (found : Found)
      (finds : (r : Railway) (u : ℕ) → On r u look.table.now v → Laid r (is_closed r) look.ways.now → p ≡ code_on r (section_in v)
      → entry_found found ≡ first_keeping r (figure_in look.figures.now) u n) where
    placed : On r p look.table.now v
    placed = rw put (put-on-is r c look.table.now q on t y lt there v moved)

    searched : entry_found found ≡ first_keeping r (figure_in look.figures.now) p n
    searched = finds r p placed o.laid (sym (code-back r look.table.now o.compiled p v placed below))

    put-nothing : entry_found found ≡ none → Told r n look.figures.now (One p) false
    put-nothing z = rests (λ u l k f g. rw k (finds-nothing r n p look.figures.now (entry_found found) searched z (rw k at g)))

    put-gains : (e : ℕ) → e ≡ get_or look.figures.now p no_figure → e ≡ no_figure → (x : ℕ) → entry_found found ≡ some x
        → Told r n look.figures.now (One p) true
    put-gains e is none_yet x z =
        let empty : figure_in look.figures.now p ≡ none = entry-none (get_or look.figures.now p no_figure) (sym is ∙ none_yet) in
        let s : (over (game_of r) p ≡ false) × (find r (figure_in look.figures.now) p n ≡ some x) =
        finds-entry r n p look.figures.now (entry_found found) searched (o.homed p below) empty x z in
        gains p below (record { waits = empty; going = s.0; entry = x; found = s.1 })

    pub put-tells : (e : ℕ) → e ≡ get_or look.figures.now p no_figure → e ≡ no_figure → (b : Bool) → b ≡ is_some found
        → Told r n look.figures.now (One p) b
    put-tells e is none_yet b tells = rw tells (told found refl)
      where
        told : (f : Found) → f ≡ found → Told r n look.figures.now (One p) (is_some f)
        told Nothing z = put-nothing (ap entry_found (sym z))
        told (Entry v) z = put-gains e is none_yet v (ap entry_found (sym z))
