-- `game_tables::is_within` meets its contract: none is no figure; a weight over n leaves nothing; else the weight is taken from n.
-- Assumes nothing.
use native.Mathlib.Omega.{arith}
use mathlib.Core.Path.{◌≡◌, sym, ◌∙◌}
use mathlib.Core.Logic.{inl, inr}
use mathlib.Core.Bool.{false}
use Prim.Native.Nat.{ℕ, ◌+◌, ◌-◌, ◌≤◌, ◌<◌}
use lib.Dec.{leb}
use borrow.Author.Tests.{eq-eqb, ne_eqb, lt-leb, le-leb}
use Rattle.laws.proofs.Bools.{eq?, lt?}
use Rattle.game.specs.Local.{is_within}
use Rattle.game_tables.specs.Tables.{no_figure, figure_entry}
use Rattle.game_tables.proofs.is_within.Goals as goal

no-entry : (e w n : ℕ) → e ≡ no_figure → false ≡ is_within n w (figure_entry e)
no-entry e w n h = rw (eq-eqb e no_figure h)

too-light : (e w n : ℕ) → n < w → false ≡ is_within n w (figure_entry e)
too-light e w n l = elim (eq? e no_figure) [
  | inl h ↦ no-entry e w n h
  | inr h ↦ rw (ne_eqb e no_figure h) (sym (lt-leb (e + w) n (omega arith)))
]

light : (e w n : ℕ) → (e ≡ no_figure → ⊥) → w ≤ n → leb e (n - w) ≡ is_within n w (figure_entry e)
light e w n h l = rw (ne_eqb e no_figure h) (elim (lt? (n - w) e) [
  | inl b ↦ lt-leb e (n - w) b ∙ sym (lt-leb (e + w) n (omega arith))
  | inr b ↦ le-leb e (n - w) b ∙ sym (le-leb (e + w) n (omega arith))
])

pub returns-then-entry-eq-NO_FIGURE : goal.returns-then-entry-eq-NO_FIGURE
returns-then-entry-eq-NO_FIGURE c = no-entry c.args.entry c.args.weight c.args.n c.if-entry-eq-NO_FIGURE.true

pub returns-then-n-w : goal.returns-then-n-w
returns-then-n-w c = too-light c.args.entry c.args.weight c.args.n c.if-n-w.true

pub returns : goal.returns
returns c = light c.args.entry c.args.weight c.args.n c.if-entry-eq-NO_FIGURE.false c.if-n-w.false
