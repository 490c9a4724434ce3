-- Whether a report counts. `counts_at` tests what `report_row` (desk/Desk) asks, in another order: a way that ends in a closed section comes to none, and so does one that derails.
-- Assumes nothing.
use mathlib.Core.Path.{◌≡◌, refl, sym, ◌∙◌}
use mathlib.Core.Logic.{inl, inr}
use mathlib.Core.Bool.{Bool, true, false, cond, not, ◌&&◌, ◌||◌}
use mathlib.Core.List.{List}
use mathlib.Core.Option.{Option, none, some}
use Prim.Native.Nat.{ℕ, ◌<◌}
use native.Mathlib.Omega.{arith}
use lib.Dec.{eqb}
use lib.ListN.{get_or}
use borrow.Author.Tests.{eq-eqb, ne_eqb, ltb-true}
use Rattle.laws.specs.Bits.{bit}
use Rattle.laws.proofs.Bools.{eq?, and-off, and-true}
use Rattle.railway.specs.declared.Railway.{Railway}
use Rattle.railway.specs.Record.{is_closed}
use Rattle.railway.specs.Passing.{passes, in_use, entered}
use Rattle.game.specs.Game.{may}
use Rattle.game.specs.Placement.{at_home}
use Rattle.game.specs.Setting.{heads_for, may_move}
use Rattle.game.specs.Moves.{occupied, game_of}
use Rattle.game.proofs.Accepted.{Facts}
use Rattle.game.proofs.Moves.{entered_below}
use Rattle.game_tables.specs.Entries.{setting_at}
use Rattle.railway_routes.specs.Routes.{no_section, section_byte}
use Rattle.desk.specs.Desk.{Desk, desk_code, desk_row, present, comes_to, allows, report_row}
use Rattle.desk_calls.specs.Steps.{counts_at}

-- THE TESTS, one after the other.
module _ (r : Railway) (p v t x : ℕ) where
  pub counts-home : (h : Bool) → h ≡ at_home r p → h ≡ true → false ≡ counts_at r p v t x
  unfolding counts_at
  counts-home h is e = rw (sym is ∙ e)

  -- no way ends in what stands for no section
  comes-nowhere : (o : Option ℕ) → ((y : ℕ) → o ≡ some y → y < no_section) → comes_to o no_section ≡ false
  comes-nowhere none below = refl
  comes-nowhere (some y) below = ne_eqb y no_section (λ z. omega (arith, below y refl))

  pub counts-nowhere : Facts r → x ≡ no_section → false ≡ counts_at r p v t x
  unfolding counts_at
  counts-nowhere ok e =
      let below = entered_below r ok (setting_at r p v).plus (heads_for r p t) in
      let c : comes_to (entered r (setting_at r p v).plus (heads_for r p t)) x ≡ false =
      rw e (comes-nowhere (entered r (setting_at r p v).plus (heads_for r p t)) (λ y h. omega (arith, below y h, ok.few-sections))) in
      rw (c, and-off (may (game_of r) p (setting_at r p v) t), and-off (not (occupied r p t x)), and-off (not (at_home r p)))

  pub counts-taken : (o : Bool) → o ≡ occupied r p t x → o ≡ true → false ≡ counts_at r p v t x
  unfolding counts_at
  counts-taken o is e = rw (sym is ∙ e, and-off (not (at_home r p)))

  pub counts-held : (m : Bool) → m ≡ may (game_of r) p (setting_at r p v) t → m ≡ false → false ≡ counts_at r p v t x
  unfolding counts_at
  counts-held m is e = rw (sym is ∙ e, and-off (not (occupied r p t x)), and-off (not (at_home r p)))

  comes-by : (o : Option ℕ) → (x ≡ no_section → ⊥) → eqb (section_byte o) x ≡ comes_to o x
  comes-by none n = ne_eqb no_section x (λ z. n (sym z))
  comes-by (some y) n = refl

  pub counts-there : (h o m : Bool) (y : ℕ) → h ≡ at_home r p → h ≡ false → (x ≡ no_section → ⊥) → o ≡ occupied r p t x → o ≡ false
      → m ≡ may (game_of r) p (setting_at r p v) t → m ≡ true → y ≡ section_byte (entered r (bit v) (heads_for r p t)) → eqb y x ≡ counts_at r p v t x
  unfolding counts_at setting_at
  counts-there h o m y hi he n oi oe mi me e = rw (sym hi ∙ he, sym oi ∙ oe, sym mi ∙ me, e) (comes-by (entered r (bit v) (heads_for r p t)) n)

  -- one that counts is of a train that is there
  pub counts-train : counts_at r p v t x ≡ true → t < r.trains
  unfolding counts_at
  counts-train e =
      let c = comes_to (entered r (setting_at r p v).plus (heads_for r p t)) x in
      let m = may (game_of r) p (setting_at r p v) t in
      let a = and-true (not (at_home r p)) (not (occupied r p t x) && (m && c)) e in
      let b = and-true (not (occupied r p t x)) (m && c) a.1 in
      ltb-true t r.trains (and-true _ (may_move r p (setting_at r p v) t) (and-true m c b.1).0).0

-- AS THE DEFINITION HAS IT. What is come to, and not closed, is what is entered.
comes-open : (r : Railway) (o : Option ℕ) (x : ℕ) → comes_to (in_use r o) x ≡ (comes_to o x && not (is_closed r x))
comes-open r none x = refl
comes-open r (some y) x = elim (eq? y x) [
  | inl z ↦ rw (z, eq-eqb x x refl) (here (is_closed r x))
  | inr z ↦ rw (ne_eqb y x z) (there (is_closed r y) (ne_eqb y x z))
]
  where
    here : (b : Bool) → comes_to (cond b none (some x)) x ≡ not b
    here true = refl
    here false = eq-eqb x x refl

    there : (b : Bool) → eqb y x ≡ false → comes_to (cond b none (some y)) x ≡ false
    there true e = refl
    there false e = e

-- home, may move, comes there, taken, closed
in_order : (h m c o k : Bool) → (h || (not (m && c) || (o || k))) ≡ not (not h && (not o && (m && (c && not k))))
in_order true m c o k = refl
in_order false false c true k = refl
in_order false false c false k = refl
in_order false true false true k = refl
in_order false true false false k = refl
in_order false true true true k = refl
in_order false true true false true = refl
in_order false true true false false = refl

pub report-row : (r : Railway) (d : Desk) (sets : List ℕ) (t x : ℕ) → desk_row r d ≡ false
    → report_row r d sets t x ≡ not (counts_at r (desk_code r d) (get_or sets (desk_code r d) 0) t x)
unfolding report_row allows counts_at entered
report-row r d sets t x e =
    let o = (passes r (present r d sets).plus (heads_for r (desk_code r d) t)).reached in
    rw (e, comes-open r o x)
    (in_order (at_home r (desk_code r d)) (may (game_of r) (desk_code r d) (present r d sets) t) (comes_to o x) (occupied r (desk_code r d) t x) (is_closed r x))
