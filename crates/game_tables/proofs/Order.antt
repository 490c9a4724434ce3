-- The plan's order of settings, key by key: how many signals a setting opens, which train is the lowest open one, the point bits; for the
-- settings of entries with no train open and with one. An open train's signal stands at a section end of its own and is counted there.
-- Assumes nothing.
use mathlib.Core.Path.{◌≡◌, sym, ◌∙◌}
use mathlib.Core.Logic.{inl, inr}
use mathlib.Core.Bool.{Bool, true, false, ◌&&◌}
use Prim.Native.Nat.{ℕ, ◌^◌, ◌≤◌, ◌<◌}
use native.Mathlib.Omega.{arith}
use lib.Dec.{ltb, leb, eqb}
use borrow.Author.Tests.{ltb-true, lt-ltb, eqb-true, eq-eqb, leb-true, le-leb}
use Rattle.laws.specs.Bits.{bit}
use Rattle.laws.proofs.Bools.{bool?, lt?, clash, either, or_left, or_right, and-true, and_both, and-off}
use Rattle.laws.proofs.Below.{lowest-cases, lowest-least, count-one, count_none, count-at-most-one}
use Rattle.laws.proofs.Bits.{bits_of, bits-same}
use Rattle.railway.specs.declared.Railway.{Railway}
use Rattle.railway.specs.Bounds.{section_ends}
use Rattle.railway.specs.Ends.{end_index}
use Rattle.railway.specs.Record.{flag_at}
use Rattle.railway.proofs.Lookups.{Flagged}
use Rattle.game.specs.Setting.{Setting, heads_for, held, opens_for, signal_open}
use Rattle.game.proofs.Setting.{held-flag}
use Rattle.game_tables.specs.Entries.{train_bits, setting_at, entry_from}
use Rattle.game_tables.specs.Tables.{opens_signal, open_signals, lowest_open, point_bits, then_by, no_later}
use Rattle.game_tables.proofs.Entries.{setting-plus, closed-open, one-open}

-- ONE KEY BEFORE THE REST
module _ (a b : ℕ) (rest : Bool) where
  pub then-by : a ≤ b → (a ≡ b → rest ≡ true) → then_by a b rest ≡ true
  then-by l f = elim (lt? a b) [
    | inl m ↦ or_left (ltb a b) (eqb a b && rest) (lt-ltb a b m)
    | inr m ↦ let e : a ≡ b = omega arith in or_right (ltb a b) (eqb a b && rest) (and_both (eqb a b) rest (eq-eqb a b e) (f e))
  ]

  pub first_key : then_by a b rest ≡ true → a ≤ b
  first_key e = elim (either (ltb a b) (eqb a b && rest) e) [
    | inl x ↦ omega (arith, ltb-true a b x)
    | inr x ↦ omega (arith, eqb-true a b (and-true (eqb a b) rest x).0)
  ]

  pub next-key : then_by a b rest ≡ true → a ≡ b → rest ≡ true
  next-key e q = elim (either (ltb a b) (eqb a b && rest) e) [
    | inl x ↦ absurd (omega (arith, ltb-true a b x))
    | inr x ↦ (and-true (eqb a b) rest x).1
  ]

module _ (r : Railway) (p : ℕ) where
  pub earlier : (a b : Setting) → open_signals r a ≤ open_signals r b → (open_signals r a ≡ open_signals r b → lowest_open r p a ≤ lowest_open r p b)
      → (open_signals r a ≡ open_signals r b → lowest_open r p a ≡ lowest_open r p b → point_bits r a ≤ point_bits r b) → no_later r p a b ≡ true
  unfolding no_later
  earlier a b f g h =
      then-by (open_signals r a) (open_signals r b) _ f (λ e. then-by (lowest_open r p a) (lowest_open r p b) _ (g e) (λ q. le-leb (point_bits r a) (point_bits r b) (h e q)))

  -- settings no later than each other have the same keys
  pub record Keys (a b : Setting) : Type 0 where
    pub opens : open_signals r a ≡ open_signals r b
    pub trains : lowest_open r p a ≡ lowest_open r p b
    pub points : point_bits r a ≡ point_bits r b

  pub fewest : (a b : Setting) → no_later r p a b ≡ true → open_signals r a ≤ open_signals r b
  unfolding no_later
  fewest a b x = first_key (open_signals r a) (open_signals r b) _ x

  pub keys : (a b : Setting) → no_later r p a b ≡ true → no_later r p b a ≡ true → Keys a b
  unfolding no_later
  keys a b x y =
      let e : open_signals r a ≡ open_signals r b = omega (arith, fewest a b x, fewest b a y) in
      let x₂ = next-key (open_signals r a) (open_signals r b) (then_by (lowest_open r p a) (lowest_open r p b) (leb (point_bits r a) (point_bits r b))) x e in
      let y₂ = next-key (open_signals r b) (open_signals r a) (then_by (lowest_open r p b) (lowest_open r p a) (leb (point_bits r b) (point_bits r a))) y (sym e) in
      let f : lowest_open r p a ≡ lowest_open r p b = omega (arith, first_key (lowest_open r p a) (lowest_open r p b) _ x₂, first_key (lowest_open r p b) (lowest_open r p a) _ y₂) in
      let x₃ = leb-true (point_bits r a) (point_bits r b) (next-key (lowest_open r p a) (lowest_open r p b) (leb (point_bits r a) (point_bits r b)) x₂ f) in
      let y₃ = leb-true (point_bits r b) (point_bits r a) (next-key (lowest_open r p b) (lowest_open r p a) (leb (point_bits r b) (point_bits r a)) y₂ (sym f)) in
      record { opens = e; trains = f; points = omega arith }

  -- FEWEST: a train's open signal is counted
  pub open-counts : (o : Setting) (t : ℕ) → signal_open r p o t ≡ true → (end_index (heads_for r p t) < section_ends) × (opens_signal r o (end_index (heads_for r p t)) ≡ true)
  unfolding signal_open
  open-counts o t e =
      let both = and-true (held r p t) (opens_for r p o t) e in
      let h : Flagged r (heads_for r p t) = held-flag r p t both.0 in
      (h.below, and_both (flag_at r (end_index (heads_for r p t))) (opens_for r p o t) h.flag both.1)

  pub one-counted : (o : Setting) (t : ℕ) → signal_open r p o t ≡ true → 1 ≤ open_signals r o
  unfolding open_signals
  one-counted o t e = let c = open-counts o t e in count-one (opens_signal r o) section_ends (end_index (heads_for r p t)) c.0 c.1

  pub zero-closed : (o : Setting) → open_signals r o ≡ 0 → (t : ℕ) → signal_open r p o t ≡ false
  zero-closed o z t = elim (bool? (signal_open r p o t)) [ inl y ↦ absurd (omega (arith, one-counted o t y)) | inr y ↦ y ]

  -- THE LOWEST TRAIN: past the last where no train's signal is open, else one whose signal is
  pub none-lowest : (o : Setting) → ((t : ℕ) → signal_open r p o t ≡ false) → lowest_open r p o ≡ r.trains
  unfolding lowest_open
  none-lowest o h = elim (lowest-cases (signal_open r p o) r.trains) [ inl x ↦ clash x.3 (h x.0) | inr x ↦ rw x.0 ]

  pub record Lowest (o : Setting) (t : ℕ) : Type 0 where
    pub at-most : lowest_open r p o ≤ t
    pub below : lowest_open r p o < r.trains
    pub opened : signal_open r p o (lowest_open r p o) ≡ true

  pub some-lowest : (o : Setting) (t : ℕ) → t < r.trains → signal_open r p o t ≡ true → Lowest o t
  unfolding lowest_open
  some-lowest o t l e = elim (lowest-cases (signal_open r p o) r.trains) [
    | inl x ↦ record { at-most = rw x.1 (lowest-least (signal_open r p o) r.trains x.0 x.1 t e l); below = rw x.1 x.2; opened = rw x.1 x.3 }
    | inr x ↦ clash e (x.1 t l)
  ]

  -- SETTINGS OF ENTRIES: with no train open none is counted, with one at most one; the point bits are those put in
  module _ (few : r.points ≤ train_bits) where
    pub closed-counted : (plus : ℕ → Bool) → open_signals r (setting_at r p (entry_from r plus (λ t. false))) ≡ 0
    unfolding open_signals
    closed-counted plus = count_none (opens_signal r (setting_at r p (entry_from r plus (λ t. false)))) section_ends (λ i l. rw (closed-open r few plus p i) (and-off (flag_at r i)))

    pub opened-counted : (plus : ℕ → Bool) (t : ℕ) → t < r.trains → open_signals r (setting_at r p (entry_from r plus (eqb t))) ≤ 1
    unfolding open_signals
    opened-counted plus t l =
        count-at-most-one (opens_signal r (setting_at r p (entry_from r plus (eqb t)))) section_ends (end_index (heads_for r p t))
        (λ i y. eqb-true i (end_index (heads_for r p t)) (sym (one-open r few plus p t l i) ∙ (and-true (flag_at r i) ((setting_at r p (entry_from r plus (eqb t))).is_open i) y).1))

    pub made_bits : (b : ℕ) (opens : ℕ → Bool) → b < 2 ^ r.points → point_bits r (setting_at r p (entry_from r (bit b) opens)) ≡ b
    made_bits b opens l = bits-same (setting_at r p (entry_from r (bit b) opens)).plus (bit b) r.points (setting-plus r few (bit b) opens p) ∙ bits_of r.points b l
