-- WHAT LIES AHEAD. A train enters a section over some points exactly if one of the ways from its end leads there: the section entered is at the end of the way that the points suit, and every way
-- suits the points that it wants at plus, all others at minus. Assumes nothing.
use mathlib.Core.Path.{◌≡◌, refl, sym, ◌∙◌, ap}
use mathlib.Core.Logic.{inl, inr}
use mathlib.Core.Bool.{Bool, true, false, ◌||◌, ◌&&◌}
use mathlib.Core.List.{List}
use mathlib.Core.Option.{Option, none, some}
use Prim.Native.Nat.{ℕ, ◌<◌}
use native.Mathlib.Omega.{arith}
use lib.Dec.{eqb}
use borrow.Author.Tests.{eqb-true, eq-eqb}
use Rattle.laws.specs.Bits.{bit, from_bits}
use Rattle.laws.specs.Lists.{any}
use Rattle.laws.proofs.Bools.{lt?, clash, either, some-none}
use Rattle.laws.proofs.Bits.{bits-plain}
use Rattle.railway.specs.declared.Side.{Side}
use Rattle.railway.specs.declared.End.{End}
use Rattle.railway.specs.declared.End.TheVariants.{Section}
use Rattle.railway.specs.declared.Railway.{Railway}
use Rattle.railway.specs.Record.{is_closed}
use Rattle.railway.specs.Rows.{record_refusal}
use Rattle.railway.specs.Passing.{Passage, in_use, entered}
use Rattle.railway.proofs.Rows.{accepted-facts}
use Rattle.game.proofs.Accepted.{facts}
use Rattle.game.proofs.Setting.{passes_same}
use Rattle.railway_routes.specs.Routes.{Way, suits, routes_from, reached_by, one_of, most_ways}
use Rattle.railway_routes.proofs.Ways.{nth_past}
use Rattle.railway_routes.proofs.Suits.{bits-suit}
use Rattle.railway_routes.proofs.Routes.{from-enters, from-few, from-small}
use Rattle.railway_routes.proofs.Walking.{Goes, goes_of, of-goes}
use Rattle.runs.specs.Runs.{Enters}
use Rattle.runs_tables.specs.Filling.{LeadsTo}

-- a section is the one of a list of at most one
one-is : (o : Option ℕ) (z : ℕ) → any (eqb z) (one_of o) ≡ true → o ≡ some z
unfolding any
one-is none z e = clash e refl
one-is (some x) z e = elim (either (eqb z x) false e) [ inl y ↦ ap (λ (k : ℕ). some k) (sym (eqb-true z x y)) | inr y ↦ clash y refl ]

is_one : (o : Option ℕ) (z : ℕ) → o ≡ some z → any (eqb z) (one_of o) ≡ true
unfolding any
is_one o z e = rw e (on (eqb z z) (eq-eqb z z refl))
  where
    on : (b : Bool) → b ≡ true → (b || false) ≡ true
    on b h = rw h refl

-- what is wanted is what matters of itself
wanted : (a b : Bool) → (a ≡ true → b ≡ true) → (a && b) ≡ a
wanted true b h = h refl
wanted false b h = refl

module _ (r : Railway) (accepted : record_refusal r ≡ none) (heading : Side) (y : ℕ) where
  abbrev ahead : End
  ahead = Section (record { 0 = y }) heading

  abbrev ways : List Way
  ways = routes_from r (is_closed r) ahead

  -- A WAY IS GONE over points that lie as it wants
  pub way-enters : (j z : ℕ) → LeadsTo ways j z → Enters r heading y z
  way-enters j z w =
      let small = from-small r (accepted-facts r accepted) (is_closed r) ahead w.number w.way w.is in
      let suited : suits w.way.want w.way.care w.way.want ≡ true = bits-suit w.way.want w.way.care
      w.way.want (λ i. wanted (bit w.way.want i) (bit w.way.care i) (small.within i)) in
      let found : any (eqb z) (reached_by w.way.want ways) ≡ true = of-goes w.way.want (eqb z) ways w.number w.way w.is suited (eq-eqb z w.way.to (sym w.to)) in
      record { plus = bit w.way.want; comes = one-is (entered r (bit w.way.want) ahead) z (ap (any (eqb z)) (sym (from-enters r w.way.want ahead)) ∙ found) }

  -- WHAT IS ENTERED is at the end of a way
  entered-same : (a b : ℕ → Bool) → ((n : ℕ) → n < r.points → a n ≡ b n) → entered r a ahead ≡ entered r b ahead
  unfolding entered
  entered-same a b same = ap (λ (w : Passage). in_use r w.reached) (passes_same r (facts r accepted) a b same ahead)

  pub enters-way : (z : ℕ) → Enters r heading y z → LeadsTo ways most_ways z
  enters-way z e =
      let b = from_bits e.plus r.points in
      let comes : entered r (bit b) ahead ≡ some z = entered-same (bit b) e.plus (λ n l. bits-plain e.plus r.points n l) ∙ e.comes in
      let g : Goes b (eqb z) ways = goes_of b (eqb z) ways (ap (any (eqb z)) (from-enters r b ahead) ∙ is_one (entered r (bit b) ahead) z comes) in
      record {
        number = g.number;
        below = elim (lt? g.number most_ways) [ inl l ↦ l | inr l ↦ some-none g.is (nth_past ways g.number (omega (arith, from-few r (is_closed r) ahead))) ];
        way = g.way;
        is = g.is;
        to = sym (eqb-true z g.way.to g.ends);
      }
