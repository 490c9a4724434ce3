-- An entry of the setting table and the setting that it stands for. Bits below 16 are the points', those from 16 on the trains', and
-- neither reach into the other; so the setting of an entry has its points and opens the signals of its open trains. Trains that do not
-- share a section head for ends of their own: where all open trains are held, the entry of that setting is the entry again. Assumes
-- nothing.
use mathlib.Core.Path.{◌≡◌, refl, sym, ◌∙◌, ap}
use mathlib.Core.Logic.{inl, inr}
use mathlib.Core.Bool.{Bool, true, false, ◌&&◌, ◌||◌}
use Prim.Native.Nat.{ℕ, ◌^◌, ◌≤◌, ◌<◌}
use native.Mathlib.Omega.{arith}
use native.Mathlib.Nat.{pow-le-pow_right}
use lib.Dec.{eqb, ltb}
use borrow.Author.Tests.{eqb-true, eq-eqb, ltb-true}
use Rattle.laws.specs.Below.{any_below}
use Rattle.laws.specs.Bits.{bit, from_bits}
use Rattle.laws.proofs.Bools.{bool?, lt?, clash, and_both, and-off}
use Rattle.laws.proofs.Below.{any_of, any_same, none_any}
use Rattle.laws.proofs.Bits.{bits-same, bits-plain, bits_below, low_bit, high_bit}
use Rattle.railway.specs.declared.End.{End}
use Rattle.railway.specs.declared.End.TheVariants.{Section, Port}
use Rattle.railway.specs.declared.Railway.{Railway}
use Rattle.railway.specs.Bounds.{all_ends}
use Rattle.railway.specs.Ends.{end_index}
use Rattle.railway.proofs.Ends.{index-one, numbered_of}
use Rattle.game.specs.Placement.{stands_on, stands_with, shares_lower, shared}
use Rattle.game.specs.Setting.{heads_for, held, free, opens_for, may_move, signal_open, Setting}
use Rattle.game.proofs.Setting.{held-flag, may_free, may-held, may-neither, move_same}
use Rattle.game_tables.specs.Entries.{train_bits, opens_in, opens_end, setting_at, entry_from, entry_of, EntryActs}
-- (Examples is named so that it is checked before: a wrong definition then shows at a computed value.)
use mathlib.Core.Option.{none}
use Rattle.railway.specs.Rows.{record_refusal}
use Rattle.game.specs.Game.{may}
use Rattle.game.specs.Claim.{Alike}
use Rattle.game.specs.Moves.{game_of}
use Rattle.game.proofs.Accepted.{facts}

-- which signals are open depends on the trains that are there
pub open-same : (r : Railway) (p : ℕ) (a b : ℕ → Bool) → ((t : ℕ) → t < r.trains → a t ≡ b t) → (i : ℕ) → any_below (opens_end r p a i) r.trains ≡ any_below (opens_end r p b i) r.trains
open-same r p a b h i = any_same (opens_end r p a i) (opens_end r p b i) r.trains (λ t l. ap (λ (x : Bool). x && eqb i (end_index (heads_for r p t))) (h t l))

-- what an entry is made of: the points and the trains that are there
pub entry-same : (r : Railway) (a b c d : ℕ → Bool) → ((n : ℕ) → n < r.points → a n ≡ b n) → ((t : ℕ) → t < r.trains → c t ≡ d t) → entry_from r a c ≡ entry_from r b d
unfolding entry_from
entry-same r a b c d h k = rw (bits-same a b r.points h, bits-same c d r.trains k)

-- THE BITS
module _ (r : Railway) (few : r.points ≤ train_bits) where
  points-small : (b : ℕ) → b < 2 ^ r.points → b < 2 ^ train_bits
  points-small b l = omega (arith, pow-le-pow_right {n = 2} (omega arith) {i = r.points} {j = train_bits} few)

  module _ (plus opens : ℕ → Bool) where
    low_small : from_bits plus r.points < 2 ^ train_bits
    low_small = points-small (from_bits plus r.points) (bits_below plus r.points)

    pub entry-plus : (n : ℕ) → n < r.points → bit (entry_from r plus opens) n ≡ plus n
    unfolding entry_from
    entry-plus n l = low_bit train_bits (from_bits plus r.points) (from_bits opens r.trains) n low_small (omega arith) ∙ bits-plain plus r.points n l

    pub entry-opens : (t : ℕ) → t < r.trains → opens_in (entry_from r plus opens) t ≡ opens t
    unfolding entry_from
    entry-opens t l = high_bit train_bits (from_bits plus r.points) (from_bits opens r.trains) t low_small ∙ bits-plain opens r.trains t l

    -- THE SETTING of an entry
    module _ (p : ℕ) where
      pub setting-plus : (n : ℕ) → n < r.points → (setting_at r p (entry_from r plus opens)).plus n ≡ plus n
      unfolding setting_at
      setting-plus n l = entry-plus n l

      pub setting-open : (i : ℕ) → (setting_at r p (entry_from r plus opens)).is_open i ≡ any_below (opens_end r p opens i) r.trains
      unfolding setting_at
      setting-open i = open-same r p (opens_in (entry_from r plus opens)) opens entry-opens i

-- no train open: every signal is closed; one open: that train's signal is open, and no other
module _ (r : Railway) (few : r.points ≤ train_bits) (plus : ℕ → Bool) (p : ℕ) where
  pub closed-open : (i : ℕ) → (setting_at r p (entry_from r plus (λ t. false))).is_open i ≡ false
  closed-open i = setting-open r few plus (λ t. false) p i ∙ none_any (opens_end r p (λ t. false) i) r.trains (λ t l. refl)

  pub one-open : (t : ℕ) → t < r.trains → (i : ℕ) → (setting_at r p (entry_from r plus (eqb t))).is_open i ≡ eqb i (end_index (heads_for r p t))
  one-open t l i = setting-open r few plus (eqb t) p i ∙ elim (bool? (eqb i (end_index (heads_for r p t)))) [
    | inl y ↦ any_of (opens_end r p (eqb t) i) r.trains t l (and_both (eqb t t) (eqb i (end_index (heads_for r p t))) (eq-eqb t t refl) y) ∙ sym y
    | inr y ↦ none_any (opens_end r p (eqb t) i) r.trains (λ u lu. elim (bool? (eqb t u)) [
      | inl z ↦ let e : t ≡ u = eqb-true t u z in rw (z, ← e) y
      | inr z ↦ rw z
    ]) ∙ sym y
  ]

-- ENDS OF THEIR OWN: trains that share no section head for different ends
module _ (r : Railway) (p : ℕ) where
  module _ (apart : shared r p ≡ false) where
    meet : (i j : ℕ) → j < r.trains → i < j → stands_on r p i ≡ stands_on r p j → shared r p ≡ true
    unfolding shared
    meet i j lj m q = any_of (shares_lower r p) r.trains j lj (any_of (stands_with r p j) j i m (eq-eqb (stands_on r p i) (stands_on r p j) q))

    pub one-section : (i j : ℕ) → i < r.trains → j < r.trains → stands_on r p i ≡ stands_on r p j → i ≡ j
    one-section i j li lj q = elim (lt? i j) [
      | inl m ↦ clash (meet i j lj m q) apart
      | inr m ↦ elim (lt? j i) [ inl k ↦ clash (meet j i li k (sym q)) apart | inr k ↦ omega arith ]
    ]

    pub own-end : (i j : ℕ) → i < r.trains → j < r.trains → held r p i ≡ true → end_index (heads_for r p i) ≡ end_index (heads_for r p j) → i ≡ j
    unfolding heads_for
    own-end i j li lj h q =
        let a : end_index (heads_for r p i) < all_ends = omega (arith, (held-flag r p i h).below) in
        let e : heads_for r p i ≡ heads_for r p j = index-one (heads_for r p i) (heads_for r p j) (numbered_of (heads_for r p i) a) (numbered_of (heads_for r p j) (rw (← q) a)) q in
        let s : stands_on r p i ≡ stands_on r p j = ap stands e in
        one-section i j li lj s
      where
        stands : End → ℕ
        stands (Section n d) = n.0
        stands (Port n l) = 0

    -- THE ENTRY of the setting of an entry
    module _ (few : r.points ≤ train_bits) (plus opens : ℕ → Bool) where
      pub setting-for : (t : ℕ) → t < r.trains → held r p t ≡ true → opens_for r p (setting_at r p (entry_from r plus opens)) t ≡ opens t
      setting-for t l h = setting-open r few plus opens p (end_index (heads_for r p t)) ∙ elim (bool? (opens t)) [
        | inl y ↦ any_of (opens_end r p opens (end_index (heads_for r p t))) r.trains t l (and_both (opens t) _ y (eq-eqb (end_index (heads_for r p t)) (end_index (heads_for r p t)) refl)) ∙ sym y
        | inr y ↦ none_any (opens_end r p opens (end_index (heads_for r p t))) r.trains (λ u lu. elim (bool? (eqb (end_index (heads_for r p t)) (end_index (heads_for r p u)))) [
          | inl z ↦ let e : t ≡ u = own-end t u l lu h (eqb-true (end_index (heads_for r p t)) (end_index (heads_for r p u)) z) in rw (← e, y)
          | inr z ↦ rw z (and-off (opens u))
        ]) ∙ sym y
      ]

      pub setting-signal : (t : ℕ) → t < r.trains → signal_open r p (setting_at r p (entry_from r plus opens)) t ≡ (held r p t && opens t)
      unfolding signal_open
      setting-signal t l = elim (bool? (held r p t)) [ inl y ↦ rw y (setting-for t l y) | inr y ↦ rw y ]

      -- who may move: the free trains, and the held ones that are open
      pub setting-may : (t : ℕ) → t < r.trains → may_move r p (setting_at r p (entry_from r plus opens)) t ≡ (free r p t || held r p t && opens t)
      unfolding may_move
      setting-may t l = ap (λ (b : Bool). free r p t || b) (setting-signal t l)

      pub entry-again : ((t : ℕ) → t < r.trains → opens t ≡ true → held r p t ≡ true) → entry_of r p (setting_at r p (entry_from r plus opens)) ≡ entry_from r plus opens
      entry-again h =
          entry-same r (setting_at r p (entry_from r plus opens)).plus plus (signal_open r p (setting_at r p (entry_from r plus opens))) opens
          (setting-plus r few plus opens p) (λ t l. setting-signal t l ∙ both (held r p t) (opens t) (h t l))
        where
          both : (a b : Bool) → (b ≡ true → a ≡ true) → (a && b) ≡ b
          both true b f = refl
          both false true f = f refl
          both false false f = refl

-- Every whole setting acts, at a placement that is not lost, as the setting of its own entry: the entry has its points, and each train's signal as it
-- shows to that train.
module _ (r : Railway) (accepted : record_refusal r ≡ none) (p : ℕ) (apart : shared r p ≡ false) (s : Setting) where
  few : r.points ≤ train_bits
  few = omega (arith, (facts r accepted).few-points)

  may-entry : (t : ℕ) → t < r.trains → may_move r p (setting_at r p (entry_of r p s)) t ≡ may_move r p s t
  unfolding signal_open
  may-entry t l = setting-may r p apart few s.plus (signal_open r p s) t l ∙ elim (bool? (free r p t)) [
    | inl f ↦ rw f (sym (may_free r p s t f))
    | inr f ↦ elim (bool? (held r p t)) [
      | inl h ↦ rw (f, h) (sym (may-held r p s t h))
      | inr h ↦ rw (f, h) (sym (may-neither r p s t f h))
    ]
  ]

  same : (t : ℕ) → may (game_of r) p s t ≡ may (game_of r) p (setting_at r p (entry_of r p s)) t
  same t = elim (bool? (ltb t r.trains)) [
    | inl e ↦ rw (may-entry t (ltb-true t r.trains e))
    | inr e ↦ rw e
  ]

  acts : Alike (game_of r) p s (setting_at r p (entry_of r p s))
  acts =
      record {
        same-trains = same;
        same_ends = λ t m. move_same r (facts r accepted) s (setting_at r p (entry_of r p s)) (λ n l. sym (setting-plus r few s.plus (signal_open r p s) p n l)) p t;
      }

pub entry-acts : EntryActs
entry-acts r accepted p apart s = acts r accepted p apart s
