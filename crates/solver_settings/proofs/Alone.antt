-- EACH FREE TRAIN BY ITSELF: what is known of those before t, one train after the other. The smallest bits of each are no larger than any under which all have a
-- good way; a single train's are the union and the largest; and where the union is zero, zero is good for each. Assumes nothing.
use mathlib.Core.Path.{◌≡◌, refl, sym, ◌∙◌, ap}
use mathlib.Core.Logic.{inl, inr}
use mathlib.Core.Bool.{true, false, cond}
use mathlib.Core.Option.{Option}
use Prim.Native.Nat.{ℕ, ◌+◌, ◌≤◌, ◌<◌}
use native.Mathlib.Omega.{arith}
use lib.Bits.{bit_or, or_zero_l, or_lt, or_add_and, and_le_l, and_le_r}
use lib.Dec.{ltb}
use borrow.Author.Tests.{lt-ltb, le-ltb}
use Rattle.laws.specs.Below.{any_below}
use Rattle.laws.proofs.Bools.{lt?, eq?, clash}
use Rattle.laws.proofs.Below.{any_at, any_of, any_false, any_next}
use Rattle.railway.specs.declared.Railway.{Railway}
use Rattle.game.specs.Setting.{free}
use Rattle.railway_routes.proofs.Routes.{power-some}
use Rattle.solver_settings.specs.Search.{no_bits, good_at, GoodBefore, Smallest, Goes, Seen}

-- two numbers without a bit between them
none_both : (a b : ℕ) → bit_or a b ≡ 0 → (a ≡ 0) × (b ≡ 0)
none_both a b e = (omega (arith, or_add_and a b, and_le_r a b), omega (arith, or_add_and a b, and_le_l a b))

-- the larger of two numbers
module _ (a b : ℕ) where
  larger-upto : (c : ℕ) → a ≤ c → b ≤ c → cond (ltb a b) b a ≤ c
  larger-upto c x y = elim (lt? a b) [ inl l ↦ rw (lt-ltb a b l) y | inr l ↦ rw (le-ltb a b l) x ]

  larger-zero : a ≡ 0 → cond (ltb a b) b a ≡ b
  larger-zero e = elim (lt? a b) [ inl l ↦ rw (lt-ltb a b l) | inr l ↦ rw (le-ltb a b l) (omega arith) ]

module _ (r : Railway) (F : ℕ → Option ℕ) (p n : ℕ) where
  pub seen_start : Seen r F p n 0 0 0 0
  unfolding any_below
  seen_start =
      record {
        nobody = λ e. refl;
        somebody = λ e. absurd (e refl);
        blank = λ e. (refl, refl);
        single = λ l. (refl, λ u m f. absurd (omega arith));
        zero = λ e u m f. absurd (omega arith);
        bound = λ b h. omega arith;
        small = omega (arith, power-some r.points);
      }

  module _ (t count all most : ℕ) (h : Seen r F p n t count all most) where
    -- a train that is not free
    module _ (e : free r p t ≡ false) where
      good-next : (b : ℕ) → GoodBefore r F p n t b → GoodBefore r F p n (t + 1) b
      good-next b g u l f = elim (eq? u t) [ inl q ↦ let z : free r p t ≡ true = rw q at f in clash z e | inr q ↦ g u (omega (arith, q)) f ]

      pub seen-not : Seen r F p n (t + 1) count all most
      seen-not =
          record {
            nobody = λ z. any_next (free r p) t (h.nobody z) e;
            somebody = λ z. let x = any_at (free r p) t (h.somebody z) in any_of (free r p) (t + 1) x.0 (omega (arith, x.1)) x.2;
            blank = h.blank;
            single = λ l. ((h.single l).0, good-next all (h.single l).1);
            zero = λ z. good-next 0 (h.zero z);
            bound = λ b g. h.bound b (λ u l f. g u (omega arith) f);
            small = h.small;
          }

    -- a free one, with its smallest bits
    module _ (e : free r p t ≡ true) (w : ℕ) (s : Smallest (Goes r F p n t) r.points no_bits w) (found : w < no_bits) where
      good_more : (b : ℕ) → GoodBefore r F p n t b → good_at r F p n b t ≡ true → GoodBefore r F p n (t + 1) b
      good_more b g here u l f = elim (eq? u t) [ inl q ↦ rw q here | inr q ↦ g u (omega (arith, q)) f ]

      least-of : (b : ℕ) → good_at r F p n b t ≡ true → w ≤ b
      least-of b g = elim (lt? b no_bits) [ inl l ↦ s.least b g l | inr l ↦ omega arith ]

      pub seen_one : (m : ℕ) → m ≡ cond (ltb most w) w most → Seen r F p n (t + 1) (count + 1) (bit_or all w) m
      seen_one m is =
          record {
            nobody = λ z. absurd (omega arith);
            somebody = λ z. any_of (free r p) (t + 1) t (omega arith) e;
            blank = λ z. absurd (omega arith);
            single = λ l. let z : count ≡ 0 = omega arith in alone z (h.blank z).0 (h.blank z).1;
            zero = λ z. let x = none_both all w z in good_more 0 (h.zero x.0) (let q : w ≡ 0 = x.1 in rw q at (s.made found).0);
            bound = λ b g. rw is (larger-upto most w b (h.bound b (λ u l f. g u (omega arith) f)) (least-of b (g t (omega arith) e)));
            small = or_lt r.points all w h.small (s.made found).1;
          }
        where
          -- before it nobody was free
          alone : count ≡ 0 → all ≡ 0 → most ≡ 0 → (bit_or all w ≡ m) × GoodBefore r F p n (t + 1) (bit_or all w)
          alone z x y =
              let same : bit_or all w ≡ w = ap (λ (a : ℕ). bit_or a w) x ∙ or_zero_l w in
              (same ∙ sym (is ∙ larger-zero most w y), rw same (good_more w (λ u l f. clash f (any_false (free r p) t (h.nobody z) u l)) (s.made found).0))

-- the trains before the last are all
pub seen_all : (r : Railway) (F : ℕ → Option ℕ) (p n k t count all most : ℕ) → k ≡ r.trains → t ≤ k → k ≤ t
    → Seen r F p n t count all most → Seen r F p n r.trains count all most
seen_all r F p n k t count all most e l m h = let z : t ≡ r.trains = omega arith in rw z at h
