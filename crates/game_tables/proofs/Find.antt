-- The search misses no whole setting. What a try finds keeps the figure, with the smallest point bits of all that do with these trains
-- open. Of a whole setting that keeps the figure, the same points keep it with no signal open if some train is free, and else with the
-- signal of any train that may move; one of these two tries finds something. Assumes nothing.
use mathlib.Core.Path.{◌≡◌, refl, sym, ◌∙◌}
use mathlib.Core.Logic.{◌⊎◌, inl, inr}
use mathlib.Core.Bool.{Bool, true, false}
use mathlib.Core.Option.{Option, none, some}
use Prim.Native.Nat.{ℕ, zero, suc, ◌^◌, ◌≤◌, ◌<◌}
use native.Mathlib.Omega.{arith}
use lib.Dec.{eqb}
use Rattle.laws.specs.Below.{or_else}
use Rattle.laws.specs.Bits.{bit}
use Rattle.laws.proofs.Bools.{option?, clash, some-none}
use Rattle.laws.proofs.Below.{upto, lowest-cases, lowest-least}
use Rattle.railway.specs.declared.Railway.{Railway}
use Rattle.game.specs.Claim.{Keeps}
use Rattle.game.specs.Setting.{Setting}
use Rattle.game.specs.Moves.{game_of}
use Rattle.game.proofs.Local.{may-train, keeps-test, test-keeps}
use Rattle.game.proofs.Accepted.{Facts}
use Rattle.game_tables.specs.Entries.{setting_at, entry_from}
use Rattle.game_tables.specs.Tables.{point_bits}
use Rattle.game_tables.specs.Find.{entry_keeps, try_open, first_found, find}
use Rattle.game_tables.proofs.Fewer.{may-cases, bits_small, keeps-closed, keeps-one}

-- the first found: there is one and none before it, or nothing is found
pub record First (f : ℕ → Option ℕ) (k u v : ℕ) : Type 0 where
  pub below : u < k
  pub first : first_found f k ≡ some v
  pub here : f u ≡ some v
  pub before : (i : ℕ) → i < u → f i ≡ none

pub first-cases : (f : ℕ → Option ℕ) (k : ℕ) → ((u : ℕ) × (v : ℕ) × First f k u v) ⊎ ((first_found f k ≡ none) × ((i : ℕ) → i < k → f i ≡ none))
unfolding first_found
first-cases f zero = inr (refl, λ i l. absurd (omega arith))
first-cases f (suc k) = elim (first-cases f k) [
  | inl r ↦ inl (r.0, r.1, record { below = omega (arith, r.2.below); first = rw r.2.first; here = r.2.here; before = r.2.before })
  | inr r ↦ elim (option? (f k)) [
    | inl e ↦ inr (rw r.0 e, upto (λ i. f i ≡ none) r.1 e)
    | inr e ↦ inl (k, e.0, record { below = omega arith; first = rw r.0 e.1; here = e.1; before = r.1 })
  ]
]

module _ (r : Railway) (F : ℕ → Option ℕ) (p n : ℕ) where
  -- point bits b, with these trains open, keep the figure
  abbrev pub bits_keep : (ℕ → Bool) → ℕ → Bool
  bits_keep opens b = entry_keeps r F p n (entry_from r (bit b) opens)

  -- ONE TRY
  pub record Tried (opens : ℕ → Bool) (b : ℕ) : Type 0 where
    pub found : try_open r F p n opens ≡ some (entry_from r (bit b) opens)
    pub small : b < 2 ^ r.points
    pub keeps : bits_keep opens b ≡ true
    pub least : (c : ℕ) → c < 2 ^ r.points → bits_keep opens c ≡ true → b ≤ c

  pub try-cases : (opens : ℕ → Bool) → ((b : ℕ) × Tried opens b) ⊎ ((try_open r F p n opens ≡ none) × ((b : ℕ) → b < 2 ^ r.points → bits_keep opens b ≡ false))
  unfolding try_open
  try-cases opens = elim (lowest-cases (bits_keep opens) (2 ^ r.points)) [
    | inl x ↦ inl (x.0, record { found = rw x.1; small = x.2; keeps = x.3; least = λ c l e. lowest-least (bits_keep opens) (2 ^ r.points) x.0 x.1 c e l })
    | inr x ↦ inr (rw x.0, x.1)
  ]

  -- some bits keep it: the try finds
  pub try-finds : (opens : ℕ → Bool) (b : ℕ) → b < 2 ^ r.points → Keeps (game_of r) F p (setting_at r p (entry_from r (bit b) opens)) n → (c : ℕ) × Tried opens c
  try-finds opens b l k = elim (try-cases opens) [
    | inl x ↦ x
    | inr x ↦ clash (keeps-test (game_of r) F p (setting_at r p (entry_from r (bit b) opens)) n k) (x.1 b l)
  ]

  try-sound : (opens : ℕ → Bool) (v : ℕ) → try_open r F p n opens ≡ some v → Keeps (game_of r) F p (setting_at r p v) n
  try-sound opens v e = elim (try-cases opens) [
    | inl x ↦ let z : entry_from r (bit x.0) opens ≡ v = same x.1.found e in rw z at (test-keeps (game_of r) F p (setting_at r p (entry_from r (bit x.0) opens)) n x.1.keeps)
    | inr x ↦ some-none e x.0
  ]
    where
      same : {o : Option ℕ} {a b : ℕ} → o ≡ some a → o ≡ some b → a ≡ b
      same a b = cc

  -- THE SEARCH finds by no open signal, or by that of the lowest train that works, or not at all
  pub data Found : Option ℕ → Type 0 where
    closed : (b : ℕ) → Tried (λ t. false) b → Found (some (entry_from r (bit b) (λ t. false)))
    opened : (t b : ℕ) → t < r.trains → ((c : ℕ) → c < 2 ^ r.points → bits_keep (λ t. false) c ≡ false) → ((u : ℕ) → u < t → try_open r F p n (eqb u) ≡ none)
        → Tried (eqb t) b → Found (some (entry_from r (bit b) (eqb t)))
    nothing : ((c : ℕ) → c < 2 ^ r.points → bits_keep (λ t. false) c ≡ false) → ((u : ℕ) → u < r.trains → try_open r F p n (eqb u) ≡ none) → Found none

  tries-cases : Found (or_else (try_open r F p n (λ t. false)) (first_found (λ u. try_open r F p n (eqb u)) r.trains))
  tries-cases = elim (try-cases (λ t. false)) [
    | inl x ↦ rw x.1.found (closed x.0 x.1)
    | inr x ↦ rw x.0 (elim (first-cases (λ u. try_open r F p n (eqb u)) r.trains) [
      | inl y ↦ elim (try-cases (eqb y.0)) [
        | inl z ↦ rw (y.2.first ∙ sym y.2.here ∙ z.1.found) (opened y.0 z.0 y.2.below x.1 y.2.before z.1)
        | inr z ↦ some-none y.2.here z.0
      ]
      | inr y ↦ rw y.0 (nothing x.1 y.1)
    ])
  ]

  pub find_cases : Found (find r F p n)
  unfolding find
  find_cases = tries-cases

  -- it finds only settings that keep the figure
  pub find-sound : (v : ℕ) → find r F p n ≡ some v → Keeps (game_of r) F p (setting_at r p v) n
  find-sound v e = go (find r F p n) find_cases e
    where
      go : (o : Option ℕ) → Found o → o ≡ some v → Keeps (game_of r) F p (setting_at r p v) n
      go (some w) (closed b x) q = try-sound (λ t. false) v (x.found ∙ q)
      go (some w) (opened t b l h k x) q = try-sound (eqb t) v (x.found ∙ q)
      go none (nothing h k) q = some-none q refl

  -- and misses none
  pub find-complete : Facts r → (o : Setting) → Keeps (game_of r) F p o n → (v : ℕ) × (find r F p n ≡ some v)
  find-complete ok o k = go (find r F p n) find_cases refl
    where
      t : ℕ
      t = k.one-may.0

      lt : k.one-may.0 < r.trains
      lt = may-train (game_of r) p o k.one-may.0 k.one-may.1

      go : (x : Option ℕ) → Found x → find r F p n ≡ x → (v : ℕ) × (find r F p n ≡ some v)
      go (some w) f e = (w, e)
      go none (nothing h g) e = elim (may-cases r p o k.one-may.0 k.one-may.1) [
        | inl f ↦ clash (keeps-test (game_of r) F p _ n (keeps-closed r ok p F n o k k.one-may.0 lt f)) (h (point_bits r o) (bits_small r ok p F n o k))
        | inr y ↦ let x = try-finds (eqb k.one-may.0) (point_bits r o) (bits_small r ok p F n o k) (keeps-one r ok p F n o k k.one-may.0 lt y) in some-none x.1.found (g k.one-may.0 lt)
      ]

  -- so where it finds nothing, no whole setting keeps the figure
  pub find_none : Facts r → find r F p n ≡ none → (o : Setting) → Keeps (game_of r) F p o n → ⊥
  find_none ok e o k = let x = find-complete ok o k in some-none x.1 e
