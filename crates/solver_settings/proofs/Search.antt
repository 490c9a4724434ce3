-- THE SEARCH over ways. A train's move is good under point bits exactly if one of its good ways suits them; the smallest bits that suit a way are those that
-- it wants, and the smallest that suit several are the union of what they want, if any bits suit them all. So of the bits under which every free train has a good
-- way the smallest are such a union. Each step of the code has its law. Assumes nothing.
use mathlib.Core.Path.{◌≡◌, refl, sym, ◌∙◌, ap}
use mathlib.Core.Logic.{inl, inr}
use mathlib.Core.Bool.{Bool, true, false, ◌&&◌, ◌||◌}
use mathlib.Core.List.{List}
use mathlib.Core.Option.{Option, none, some}
use Prim.Native.Nat.{ℕ, ◌+◌, ◌^◌, ◌≤◌, ◌<◌}
use native.Mathlib.Omega.{arith}
use lib.Bits.{bit_and, bit_or, or_comm, or_lt, and_le_l}
use borrow.Author.Tests.{eqb-true}
use Rattle.laws.specs.Bits.{bit}
use Rattle.laws.specs.Lists.{any}
use Rattle.laws.proofs.Bools.{lt?, eq?, clash, or_left, or_right, either, some_one}
use Rattle.laws.proofs.Bitwise.{bit-or}
use Rattle.railway.specs.declared.Railway.{Railway}
use Rattle.railway.specs.Passing.{entered}
use Rattle.game.specs.Setting.{heads_for, free}
use Rattle.game_tables.specs.Find.{ends_good, is_good}
use Rattle.railway_routes.specs.Routes.{Way, suits, nth, reached_by, one_of}
use Rattle.railway_routes.proofs.Ways.{nth-gone}
use Rattle.railway_routes.proofs.Suits.{suits-bits, bits-suit}
use Rattle.railway_routes.proofs.Routes.{from-enters}
use Rattle.railway_routes.proofs.Walking.{goes_of, of-goes}
use Rattle.solver_settings.specs.Search.{good_at, Smallest, Goes, ways_of, OnWay, Placed, From, ByWay}

-- WHAT A WAY WANTS
pub want-least : (a care want : ℕ) → suits a care want ≡ true → want ≤ a
want-least a care want h = omega (arith, eqb-true (bit_and a care) want h, and_le_l a care)

pub want-suits : (care want : ℕ) → ((i : ℕ) → bit want i ≡ true → bit care i ≡ true) → suits want care want ≡ true
want-suits care want within = bits-suit want care want (λ i. go (bit want i) (bit care i) (within i))
  where
    go : (u q : Bool) → (u ≡ true → q ≡ true) → (u && q) ≡ u
    go true q f = f refl
    go false q f = refl

-- UNIONS. What suits two ways suits their union.
union-suits : (a c₁ w₁ c₂ w₂ : ℕ) → suits a c₁ w₁ ≡ true → suits a c₂ w₂ ≡ true → suits a (bit_or c₁ c₂) (bit_or w₁ w₂) ≡ true
union-suits a c₁ w₁ c₂ w₂ h k = bits-suit a (bit_or c₁ c₂) (bit_or w₁ w₂) (λ i.
    let x = suits-bits a c₁ w₁ h i in let y = suits-bits a c₂ w₂ k i in
    ap (λ (z : Bool). bit a i && z) (bit-or c₁ c₂ i) ∙ go (bit a i) (bit c₁ i) (bit c₂ i) (bit w₁ i) (bit w₂ i) x y ∙ sym (bit-or w₁ w₂ i))
  where
    go : (p q s u v : Bool) → (p && q) ≡ u → (p && s) ≡ v → (p && (q || s)) ≡ (u || v)
    go true q s u v x y = rw (← x, ← y)
    go false q s u v x y = rw (← x, ← y)

-- what suits a union suits each part that the union's wants suit
part-suits : (a c₁ w₁ c₂ w : ℕ) → suits a (bit_or c₁ c₂) w ≡ true → suits w c₁ w₁ ≡ true → suits a c₁ w₁ ≡ true
part-suits a c₁ w₁ c₂ w h k = bits-suit a c₁ w₁ (λ i.
    let x = suits-bits a (bit_or c₁ c₂) w h i in let y = suits-bits w c₁ w₁ k i in
    go (bit a i) (bit c₁ i) (bit c₂ i) (bit w i) (bit w₁ i) (ap (λ (z : Bool). bit a i && z) (sym (bit-or c₁ c₂ i)) ∙ x) y)
  where
    go : (p q s u v : Bool) → (p && (q || s)) ≡ u → (u && q) ≡ v → (p && q) ≡ v
    go true true s u v x y = rw (← x) at y
    go true false s u v x y = let z : (u && false) ≡ false = off u in sym z ∙ y
      where
        off : (u : Bool) → (u && false) ≡ false
        off true = refl
        off false = refl
    go false q s u v x y = rw (← x) at y

-- the wants of a union that something suits suit each part
union-parts : (a c₁ w₁ c₂ w₂ : ℕ) → suits a c₁ w₁ ≡ true → suits a c₂ w₂ ≡ true
    → (suits (bit_or w₁ w₂) c₁ w₁ ≡ true) × (suits (bit_or w₁ w₂) c₂ w₂ ≡ true)
union-parts a c₁ w₁ c₂ w₂ h k =
    let x : (i : ℕ) → (bit a i && bit c₁ i) ≡ bit w₁ i = suits-bits a c₁ w₁ h in
    let y : (i : ℕ) → (bit a i && bit c₂ i) ≡ bit w₂ i = suits-bits a c₂ w₂ k in (
      bits-suit (bit_or w₁ w₂) c₁ w₁ (λ i. ap (λ (z : Bool). z && bit c₁ i) (bit-or w₁ w₂ i) ∙ one (bit a i) (bit c₁ i) (bit c₂ i) (bit w₁ i) (bit w₂ i) (x i) (y i)),
      bits-suit (bit_or w₁ w₂) c₂ w₂ (λ i. ap (λ (z : Bool). z && bit c₂ i) (bit-or w₁ w₂ i) ∙ two (bit a i) (bit c₁ i) (bit c₂ i) (bit w₁ i) (bit w₂ i) (x i) (y i)),
    )
  where
    one : (p q s u v : Bool) → (p && q) ≡ u → (p && s) ≡ v → ((u || v) && q) ≡ u
    one true true s u v x y = rw (← x)
    one true false true u v x y = rw (← x, ← y)
    one true false false u v x y = rw (← x, ← y)
    one false q s u v x y = rw (← x, ← y)

    two : (p q s u v : Bool) → (p && q) ≡ u → (p && s) ≡ v → ((u || v) && s) ≡ v
    two true true true u v x y = rw (← x, ← y)
    two true true false u v x y = rw (← x, ← y)
    two true false true u v x y = rw (← x, ← y)
    two true false false u v x y = rw (← x, ← y)
    two false q s u v x y = rw (← x, ← y)

pub placed-more : (r : Railway) (care want cares wants : ℕ) → Placed r care want
    → ((i : ℕ) → bit wants i ≡ true → bit cares i ≡ true) → wants < 2 ^ r.points → Placed r (bit_or care cares) (bit_or want wants)
placed-more r care want cares wants h within l =
    record {
      within = λ i e. bit-or care cares i ∙ elim (either (bit want i) (bit wants i) (sym (bit-or want wants i) ∙ e)) [
        | inl y ↦ or_left (bit care i) (bit cares i) (h.within i y)
        | inr y ↦ or_right (bit care i) (bit cares i) (within i y)
      ];
      small = or_lt r.points want wants h.small l;
    }

-- THE SMALLEST NUMBER OF A KIND, if there is one below a bound
pub none-smaller : {P : ℕ → Type 0} {m best : ℕ} → ((a : ℕ) → P a → a < best → ⊥) → Smallest P m best best
none-smaller h = record { upto = omega arith; made = λ l. absurd (omega arith); least = λ a p l. absurd (h a p l) }

same-smallest : {P Q : ℕ → Type 0} {m best b : ℕ} → ((a : ℕ) → P a → Q a) → ((a : ℕ) → Q a → P a) → Smallest P m best b → Smallest Q m best b
same-smallest f g h = record { upto = h.upto; made = λ l. let x = h.made l in (f _ x.0, x.1); least = λ a q l. h.least a (g a q) l }

-- WAY AFTER WAY, a kind of numbers for each: the first j ways of a list.
module _ (P : Way → ℕ → Type 0) (ws : List Way) where
  pub record Tried (j a : ℕ) : Type 0 where
    pub number : ℕ
    pub before : number < j
    pub way : Way
    pub is : nth ws number ≡ some way
    pub by : P way a

  pub tried-start : (m best : ℕ) → Smallest (Tried 0) m best best
  tried-start m best = none-smaller (λ a k l. omega (arith, k.before))

  pub tried-next : (m best least b j : ℕ) (w : Way) → nth ws j ≡ some w → Smallest (Tried j) m best least → Smallest (P w) m least b → Smallest (Tried (j + 1)) m best b
  tried-next m best least b j w e h k =
      record {
        upto = omega (arith, h.upto, k.upto);
        made = λ l. elim (lt? b least) [
          | inl s ↦ let x = k.made s in (record { number = j; before = omega arith; way = w; is = e; by = x.0 }, x.1)
          | inr s ↦
              let z : least ≡ b = omega (arith, k.upto) in
              let x = h.made (omega (arith, s)) in
              let y : Tried j b = rw z at x.0 in
              (record { number = y.number; before = omega (arith, y.before); way = y.way; is = y.is; by = y.by }, omega (arith, x.1))
        ];
        least = λ a y l. elim (eq? y.number j) [
          | inl q ↦
              let v : nth ws j ≡ some y.way = rw q at y.is in
              let s : y.way ≡ w = some_one (sym v ∙ e) in
              let by : P w a = rw s at y.by in
              elim (lt? a least) [ inl s ↦ k.least a by s | inr s ↦ omega (arith, k.upto) ]
          | inr q ↦
              let z = h.least a (record { number = y.number; before = omega (arith, y.before, q); way = y.way; is = y.is; by = y.by }) l in
              omega (arith, k.upto)
        ];
      }

-- A GOOD WAY of a train, among all of its ways
any-one : (g : ℕ → Bool) (o : Option ℕ) → any g (one_of o) ≡ is_good g o
unfolding any
any-one g none = refl
any-one g (some x) = off (g x)
  where
    off : (a : Bool) → (a || false) ≡ a
    off true = refl
    off false = refl

module _ (r : Railway) (F : ℕ → Option ℕ) (p n t : ℕ) where
  good-any : (b : ℕ) → any (ends_good r F p n t) (reached_by b (ways_of r p t)) ≡ good_at r F p n b t
  good-any b = ap (any (ends_good r F p n t)) (from-enters r b (heads_for r p t)) ∙ any-one (ends_good r F p n t) (entered r (bit b) (heads_for r p t))

  -- a good move is by one of the ways; all come before one that is not there
  goes_by : (j b : ℕ) → nth (ways_of r p t) j ≡ none → good_at r F p n b t ≡ true → Tried (OnWay r F p n t) (ways_of r p t) j b
  goes_by j b e h =
      let g = goes_of b (ends_good r F p n t) (ways_of r p t) (good-any b ∙ h) in
      record { number = g.number; before = nth-gone (ways_of r p t) j g.number g.way e g.is; way = g.way; is = g.is; by = record { suited = g.suited; ends = g.ends } }

  by-goes : (i b : ℕ) (w : Way) → nth (ways_of r p t) i ≡ some w → OnWay r F p n t w b → good_at r F p n b t ≡ true
  by-goes i b w e h = sym (good-any b) ∙ of-goes b (ends_good r F p n t) (ways_of r p t) i w e h.suited h.ends

  -- ONE WAY BY ITSELF
  module _ (w : Way) (m best : ℕ) where
    pub way-wants-more : best ≤ w.want → Smallest (OnWay r F p n t w) m best best
    way-wants-more l = none-smaller (λ a k x. omega (arith, want-least a w.care w.want k.suited))

    pub way-is-bad : ends_good r F p n t w.to ≡ false → Smallest (OnWay r F p n t w) m best best
    way-is-bad e = none-smaller (λ a k x. clash k.ends e)

    pub way-is-good : w.want < best → ends_good r F p n t w.to ≡ true
        → ((i : ℕ) → bit w.want i ≡ true → bit w.care i ≡ true) → w.want < 2 ^ m
        → Smallest (OnWay r F p n t w) m best w.want
    way-is-good l e within s =
        record {
          upto = omega arith;
          made = λ k. (record { suited = want-suits w.care w.want within; ends = e }, s);
          least = λ a k x. want-least a w.care w.want k.suited;
        }

  -- ALL OF THEM: the smallest bits under which the train has a good way
  pub ways-all : (m best b j : ℕ) → nth (ways_of r p t) j ≡ none → Smallest (Tried (OnWay r F p n t) (ways_of r p t) j) m best b → Smallest (Goes r F p n t) m best b
  ways-all m best b j e h = same-smallest (λ a k. by-goes k.number a k.way k.is k.by) (λ a k. goes_by j a e k) h

  -- nothing is smaller than zero
  pub ways-zero : (m best b j : ℕ) → b ≡ 0 → 0 < best → Smallest (Tried (OnWay r F p n t) (ways_of r p t) j) m best b → Smallest (Goes r F p n t) m best b
  ways-zero m best b j z l h =
      record {
        upto = h.upto;
        made = λ x. let k = h.made x in (by-goes k.0.number b k.0.way k.0.is k.0.by, k.1);
        least = λ a k x. omega arith;
      }

  -- TOGETHER WITH WHAT IS WANTED ALREADY, and with all trains behind t
  module _ (care want : ℕ) where
    pub step_cut : (best : ℕ) → best ≤ want → Smallest (From r F p n t care want) r.points best best
    step_cut best l = none-smaller (λ a h m. omega (arith, want-least a care want h.suited))

    pub step_end : (best : ℕ) → want < best → r.trains ≤ t → Placed r care want → Smallest (From r F p n t care want) r.points best want
    step_end best l e h =
        record {
          upto = omega arith;
          made = λ k. (record { suited = want-suits care want h.within; good = λ u x y z. absurd (omega arith) }, h.small);
          least = λ a k x. want-least a care want k.suited;
        }

    pub step_stays : (best b : ℕ) → free r p t ≡ false → Smallest (From r F p n (t + 1) care want) r.points best b → Smallest (From r F p n t care want) r.points best b
    step_stays best b e h = same-smallest
        (λ a k. record {
          suited = k.suited;
          good = λ u x y z. elim (eq? u t) [
            | inl q ↦ let w : free r p t ≡ true = rw q at z in clash w e
            | inr q ↦ k.good u (omega (arith, q)) y z
          ];
        })
        (λ a k. record { suited = k.suited; good = λ u x y z. k.good u (omega arith) y z }) h

    -- one way
    module _ (w : Way) where
      pub way-against : (best : ℕ)
          → (((suits (bit_or want w.want) care want ≡ true) × (suits (bit_or want w.want) w.care w.want ≡ true)) → ⊥)
          → Smallest (ByWay r F p n t care want w) r.points best best
      way-against best h = none-smaller (λ a k l. h (union-parts a care want w.care w.want k.suited k.way.suited))

      pub way-bad : (best : ℕ) → ends_good r F p n t w.to ≡ false → Smallest (ByWay r F p n t care want w) r.points best best
      way-bad best e = none-smaller (λ a k l. clash k.way.ends e)

      pub way_on : (best b : ℕ) → suits (bit_or want w.want) care want ≡ true → suits (bit_or want w.want) w.care w.want ≡ true → ends_good r F p n t w.to ≡ true
          → Smallest (From r F p n (t + 1) (bit_or care w.care) (bit_or want w.want)) r.points best b → Smallest (ByWay r F p n t care want w) r.points best b
      way_on best b s₁ s₂ e h = same-smallest
          (λ a k. record {
            suited = part-suits a care want w.care (bit_or want w.want) k.suited s₁;
            way = record {
              suited = part-suits a w.care w.want care (bit_or want w.want) (ap (λ (x : ℕ). suits a x (bit_or want w.want)) (or_comm w.care care) ∙ k.suited) s₂;
              ends = e;
            };
            good = λ u x y z. k.good u (omega arith) y z;
          })
          (λ a k. record { suited = union-suits a care want w.care w.want k.suited k.way.suited; good = λ u x y z. k.good u (omega arith) y z }) h

    -- all ways of train t, which is free
    pub ways-together : t < r.trains → (best b j : ℕ) → free r p t ≡ true → nth (ways_of r p t) j ≡ none
        → Smallest (Tried (ByWay r F p n t care want) (ways_of r p t) j) r.points best b → Smallest (From r F p n t care want) r.points best b
    ways-together there best b j m e h = same-smallest
        (λ a k. record {
          suited = k.by.suited;
          good = λ u x y z. elim (eq? u t) [
            | inl q ↦ rw q (by-goes k.number a k.way k.is k.by.way)
            | inr q ↦ k.by.good u (omega (arith, q)) y z
          ];
        })
        (λ a k.
        let g = goes_by j a e (k.good t (omega arith) there m) in
        record {
          number = g.number;
          before = g.before;
          way = g.way;
          is = g.is;
          by = record { suited = k.suited; way = g.by; good = λ u x y z. k.good u (omega arith) y z };
        }) h
