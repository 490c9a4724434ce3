-- What the search finds is the plan's setting: of all whole settings that keep the figure none comes before it, and its entry has no bit
-- besides. With no signal open nothing opens fewer, and the point bits are the smallest. Else no train is free, for a free one would
-- have let the first try find something; so every setting that keeps the figure opens the signal of some train, and with that signal alone
-- its points keep the figure too: the search would have found a lower train or smaller bits. Assumes nothing.
use mathlib.Core.Path.{◌≡◌, refl, sym, ◌∙◌}
use mathlib.Core.Logic.{inl, inr}
use mathlib.Core.Bool.{Bool, true, false}
use mathlib.Core.Option.{Option, none, some}
use Prim.Native.Nat.{ℕ, ◌^◌, ◌≤◌, ◌<◌}
use native.Mathlib.Omega.{arith}
use lib.Dec.{eqb}
use borrow.Author.Tests.{eqb-true, eq-eqb}
use Rattle.laws.specs.Bits.{bit}
use Rattle.laws.proofs.Bools.{bool?, lt?, clash, some-none, and-true, and_both}
use Rattle.railway.specs.declared.Railway.{Railway}
use Rattle.railway.specs.Ends.{end_index}
use Rattle.game.specs.Claim.{Keeps}
use Rattle.game.specs.Placement.{shared}
use Rattle.game.specs.Setting.{Setting, heads_for, held, free, signal_open}
use Rattle.game.specs.Moves.{game_of}
use Rattle.game.proofs.Local.{may-train, keeps-test, test-keeps}
use Rattle.game.proofs.Accepted.{Facts}
use Rattle.game_tables.specs.Entries.{setting_at, entry_from, entry_of}
use Rattle.game_tables.specs.Tables.{open_signals, lowest_open, point_bits, no_later, IsPlanSetting}
use Rattle.game_tables.specs.Find.{try_open, find}
use Rattle.game_tables.proofs.Entries.{one-open, setting-signal, entry-again}
use Rattle.game_tables.proofs.Fewer.{may-cases, bits_small, keeps-closed, keeps-one}
use Rattle.game_tables.proofs.Find.{Tried, bits_keep, try-finds, Found, find_cases}
use Rattle.game_tables.proofs.Order.{earlier, one-counted, zero-closed, none-lowest, Lowest, some-lowest, closed-counted, opened-counted, made_bits}

module _ (r : Railway) (ok : Facts r) (p : ℕ) (F : ℕ → Option ℕ) (n : ℕ) where
  -- a try that finds gives smaller point bits than any setting that keeps the figure with these signals
  module _ (o : Setting) (k : Keeps (game_of r) F p o n) where
    bits-least : (opens : ℕ → Bool) (b : ℕ) → Tried r F p n opens b → Keeps (game_of r) F p (setting_at r p (entry_from r (bit (point_bits r o)) opens)) n → b ≤ point_bits r o
    bits-least opens b x m = x.least (point_bits r o) (bits_small r ok p F n o k) (keeps-test (game_of r) F p (setting_at r p (entry_from r (bit (point_bits r o)) opens)) n m)

    -- NO SIGNAL OPEN
    free-there : open_signals r o ≡ 0 → (t : ℕ) × (t < r.trains) × (free r p t ≡ true)
    free-there z = let t : ℕ = k.one-may.0 in (
      t,
      may-train (game_of r) p o t k.one-may.1,
      elim (may-cases r p o t k.one-may.1) [
        | inl f ↦ f
        | inr y ↦ clash y (zero-closed r p o z t)
      ],
    )

    closed-first : (b : ℕ) → Tried r F p n (λ t. false) b → no_later r p (setting_at r p (entry_from r (bit b) (λ t. false))) o ≡ true
    closed-first b x =
        let c : Setting = setting_at r p (entry_from r (bit b) (λ t. false)) in
        let z : open_signals r c ≡ 0 = closed-counted r p ok.few-points (bit b) in
        earlier r p c o (omega arith)
        (λ q. let u : lowest_open r p c ≡ r.trains = none-lowest r p c (zero-closed r p c z) in
        let w : lowest_open r p o ≡ r.trains = none-lowest r p o (zero-closed r p o (sym q ∙ z)) in
        omega arith)
        (λ q w. let f = free-there (sym q ∙ z) in
        let u : point_bits r c ≡ b = made_bits r p ok.few-points b (λ t. false) x.small in
        omega (arith, bits-least (λ t. false) b x (keeps-closed r ok p F n o k f.0 f.1 f.2)))

    -- ONE SIGNAL OPEN, where no train is free
    module _ (none_free : (u : ℕ) → u < r.trains → free r p u ≡ false) (t b : ℕ) (l : t < r.trains) (its : held r p t
        ≡ true) (before : (u : ℕ) → u < t → try_open r F p n (eqb u) ≡ none) (x : Tried r F p n (eqb t) b) where
      -- the setting opens the signal of some train; the lowest is not below t
      some-open : signal_open r p o k.one-may.0 ≡ true
      some-open =
          let u : ℕ = k.one-may.0 in
          elim (may-cases r p o u k.one-may.1) [ inl f ↦ clash f (none_free u (may-train (game_of r) p o u k.one-may.1)) | inr y ↦ y ]

      theirs : Lowest r p o k.one-may.0
      theirs = some-lowest r p o k.one-may.0 (may-train (game_of r) p o k.one-may.0 k.one-may.1) some-open

      kept_by : Keeps (game_of r) F p (setting_at r p (entry_from r (bit (point_bits r o)) (eqb (lowest_open r p o)))) n
      kept_by = keeps-one r ok p F n o k (lowest_open r p o) theirs.below theirs.opened

      not_lower : t ≤ lowest_open r p o
      not_lower = elim (lt? (lowest_open r p o) t) [
        | inl m ↦ let y = try-finds r F p n (eqb (lowest_open r p o)) (point_bits r o) (bits_small r ok p F n o k) kept_by in some-none y.1.found (before (lowest_open r p o) m)
        | inr m ↦ m
      ]

      own_open : signal_open r p (setting_at r p (entry_from r (bit b) (eqb t))) t ≡ true
      unfolding signal_open
      own_open = and_both (held r p t) _ its (one-open r ok.few-points (bit b) p t l (end_index (heads_for r p t)) ∙ eq-eqb (end_index (heads_for r p t)) (end_index (heads_for r p t)) refl)

      opened-first : no_later r p (setting_at r p (entry_from r (bit b) (eqb t))) o ≡ true
      opened-first =
          let c : Setting = setting_at r p (entry_from r (bit b) (eqb t)) in
          let own : Lowest r p c t = some-lowest r p c t l own_open in
          earlier r p c o
          (omega (arith, opened-counted r p ok.few-points (bit b) t l, one-counted r p o k.one-may.0 some-open))
          (λ q. omega (arith, own.at-most, not_lower))
          (λ q w. let s : lowest_open r p o ≡ t = omega (arith, own.at-most, not_lower) in
          let u : point_bits r c ≡ b = made_bits r p ok.few-points b (eqb t) x.small in
          omega (arith, bits-least (eqb t) b x (rw s at kept_by)))

  -- where the first try finds nothing no train is free
  none_free : (s : Setting) → Keeps (game_of r) F p s n → ((c : ℕ) → c < 2 ^ r.points → bits_keep r F p n (λ t. false) c ≡ false) → (u : ℕ) → u < r.trains → free r p u ≡ false
  none_free s k none-closed u l = elim (bool? (free r p u)) [
    | inl y ↦ clash (keeps-test (game_of r) F p _ n (keeps-closed r ok p F n s k u l y)) (none-closed (point_bits r s) (bits_small r ok p F n s k))
    | inr y ↦ y
  ]

  -- and a train whose signal alone keeps the figure is held: it is the one that may move
  one-held : shared r p ≡ false → (plus : ℕ → Bool) (t : ℕ) → Keeps (game_of r) F p (setting_at r p (entry_from r plus (eqb t))) n → ((u : ℕ) → u < r.trains → free r p u ≡ false) → held r p t ≡ true
  one-held apart plus t k nobody =
      let u : ℕ = k.one-may.0 in
      let l : u < r.trains = may-train (game_of r) p _ u k.one-may.1 in
      elim (may-cases r p (setting_at r p (entry_from r plus (eqb t))) u k.one-may.1) [
        | inl f ↦ clash f (nobody u l)
        | inr y ↦
            let both = and-true (held r p u) (eqb t u) (sym (setting-signal r p apart ok.few-points plus (eqb t) u l) ∙ y) in
            let z : t ≡ u = eqb-true t u both.1 in
            rw z both.0
      ]

  -- THE SEARCH FINDS THE PLAN'S SETTING
  pub record Best (v : ℕ) : Type 0 where
    pub plans : IsPlanSetting r F p n (setting_at r p v)
    pub itself : entry_of r p (setting_at r p v) ≡ v

  best : shared r p ≡ false → (o : Option ℕ) → Found r F p n o → (v : ℕ) → o ≡ some v → Best v
  best apart none (Found.nothing h g) v e = some-none e refl
  best apart (some w) (Found.closed b x) v e =
      let z : entry_from r (bit b) (λ t. false) ≡ v = cc in
      let found : Best (entry_from r (bit b) (λ t. false)) = record {
        plans = record { keeps = test-keeps (game_of r) F p (setting_at r p (entry_from r (bit b) (λ t. false))) n x.keeps; earliest = λ o k. closed-first o k b x };
        itself = entry-again r p apart ok.few-points (bit b) (λ t. false) (λ t l y. clash y refl);
      } in
      rw z at found
  best apart (some w) (Found.opened t b l no-closed before x) v e =
      let z : entry_from r (bit b) (eqb t) ≡ v = cc in
      let k : Keeps (game_of r) F p (setting_at r p (entry_from r (bit b) (eqb t))) n = test-keeps (game_of r) F p (setting_at r p (entry_from r (bit b) (eqb t))) n x.keeps in
      let f : (u : ℕ) → u < r.trains → free r p u ≡ false = none_free (setting_at r p (entry_from r (bit b) (eqb t))) k no-closed in
      let h : held r p t ≡ true = one-held apart (bit b) t k f in
      let found : Best (entry_from r (bit b) (eqb t)) = record {
        plans = record { keeps = k; earliest = λ o m. opened-first o m f t b l h before x };
        itself = entry-again r p apart ok.few-points (bit b) (eqb t) (λ u lu y. let z : t ≡ u = eqb-true t u y in rw (← z) h);
      } in
      rw z at found

  pub find-best : shared r p ≡ false → (v : ℕ) → find r F p n ≡ some v → Best v
  find-best apart v e = best apart (find r F p n) (find_cases r F p n) v e
