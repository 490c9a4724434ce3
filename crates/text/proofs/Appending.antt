-- Texts written one behind the other are the text that they make together; and where there is room, a text stands whole
-- behind what was there, with the rest of the buffer as it was. By induction on the text, since the buffer is what one
-- byte after the other leaves. Assumes nothing.
use Prim.Native.Nat.{ℕ, zero, suc, ◌+◌, ◌-◌, ◌/◌, ◌%◌, ◌<◌, ◌≤◌}
use mathlib.Core.Path.{◌≡◌, refl, sym, ◌∙◌}
use mathlib.Core.Logic.{inl, inr}
use mathlib.Core.List.{List, [], ◌∷◌, ◌++◌, append_assoc}
use native.Mathlib.Omega.{arith}
use native.Mathlib.Numerals.{add-one}
use lib.ListN.{length, take, drop, get_or, set, length-set, length-take}
use lib.Seq.{sets, sets-eq, set_out, take-suc, take_all, take-append_seam}
use borrow.Author.Tests.{lt-ltb, le-ltb}
use Rattle.laws.specs.Below.{gather_below}
use Rattle.laws.proofs.Bools.{lt?}
use Rattle.text.specs.Text.{digits, decimal, line}
use Rattle.text.specs.Appending.{next, bytes_after, cursor_after, Appended, StandsWhole}

-- (Decimal is named so that it is checked before: a wrong spelling then shows at a number.)

-- NOTHING, and one byte, with room or without
module _ (out : List ℕ) (at : ℕ) where
  pub append-none : Appended out at [] out at
  unfolding bytes_after cursor_after
  append-none = record { bytes = refl; cursor = refl }

  module _ (b : ℕ) where
    pub append-room : at < length out → Appended out at (b ∷ []) (set out at b) (at + 1)
    unfolding bytes_after cursor_after
    append-room h = record { bytes = refl; cursor = rw (lt-ltb at (length out) h) (add-one at) }

    pub append-full : length out ≤ at → Appended out at (b ∷ []) out at
    unfolding bytes_after cursor_after
    append-full h = record { bytes = sym (set_out out at b h); cursor = rw (le-ltb at (length out) h) }

-- ONE BEHIND THE OTHER
bytes-then : (s t : List ℕ) (out : List ℕ) (at : ℕ)
    → bytes_after out at (s ++ t) ≡ bytes_after (bytes_after out at s) (cursor_after out at s) t
unfolding bytes_after cursor_after
bytes-then [] t out at = refl
bytes-then (b ∷ s) t out at = bytes-then s t (set out at b) (next out at)

cursor-then : (s t : List ℕ) (out : List ℕ) (at : ℕ)
    → cursor_after out at (s ++ t) ≡ cursor_after (bytes_after out at s) (cursor_after out at s) t
unfolding bytes_after cursor_after
cursor-then [] t out at = refl
cursor-then (b ∷ s) t out at = cursor-then s t (set out at b) (next out at)

module _ {o o₁ o₂ : List ℕ} {a a₁ a₂ : ℕ} {s t : List ℕ} where
  pub append-then : Appended o a s o₁ a₁ → Appended o₁ a₁ t o₂ a₂ → Appended o a (s ++ t) o₂ a₂
  append-then p q =
      record {
        bytes = rw (bytes-then s t o a, ← p.bytes, ← p.cursor) q.bytes;
        cursor = rw (cursor-then s t o a, ← p.bytes, ← p.cursor) q.cursor;
      }

-- a whole text, by the bytes before i
module _ (text : List ℕ) {o o₁ : List ℕ} {a a₁ : ℕ} where
  pub append-next : {o₂ : List ℕ} {a₂ : ℕ} (i : ℕ) → i < length text → Appended o a (take i text) o₁ a₁
      → Appended o₁ a₁ (get_or text i 0 ∷ []) o₂ a₂ → Appended o a (take (i + 1) text) o₂ a₂
  append-next i h p q = rw (add-one, take-suc text i 0 h) (append-then p q)

  pub append-all : (i : ℕ) → i ≤ length text → length text ≤ i → Appended o a (take i text) o₁ a₁
      → Appended o a text o₁ a₁
  append-all i h k p = rw (take_all i text k) at p

-- DIGITS, by the tests that tell the cases apart
digits_last : (left n : ℕ) → (left ≡ 0 → ⊥) → n < 10 → digits left n ≡ (48 + n) ∷ []
unfolding digits
digits_last zero n l h = absurd (l refl)
digits_last (suc left) n l h = rw (lt-ltb n 10 h)

digits-front : (left n : ℕ) → (left ≡ 0 → ⊥) → 10 ≤ n
    → digits left n ≡ digits (left - 1) (n / 10) ++ ((48 + n % 10) ∷ [])
unfolding digits
digits-front zero n l h = absurd (l refl)
digits-front (suc left) n l h = let e : suc left - 1 ≡ left = omega arith in rw (le-ltb n 10 h, e)

pub digits-none : (left n : ℕ) {o : List ℕ} {a : ℕ} → left ≡ 0 → Appended o a (digits left n) o a
unfolding digits
digits-none left n {o} {a} e = rw e (append-none o a)

module _ (left n : ℕ) {o o₁ : List ℕ} {a a₁ : ℕ} where
  pub digits-one : (left ≡ 0 → ⊥) → n < 10 → Appended o a ((48 + n) ∷ []) o₁ a₁ → Appended o a (digits left n) o₁ a₁
  digits-one l h p = rw (digits_last left n l h) p

  pub digits_more : {o₂ : List ℕ} {a₂ : ℕ} → (left ≡ 0 → ⊥) → 10 ≤ n → Appended o a (digits (left - 1) (n / 10)) o₁ a₁
      → Appended o₁ a₁ ((48 + n % 10) ∷ []) o₂ a₂
      → Appended o a (digits left n) o₂ a₂
  digits_more l h p q = rw (digits-front left n l h) (append-then p q)

-- A NUMBER of one digit, or of two, and the byte behind it
ten : ◌≡◌ {A = ℕ} 10 0 → ⊥
ten e = absurd (omega (arith, e))

module _ (n after : ℕ) {o o₁ : List ℕ} {a a₁ : ℕ} where
  pub number-one : n < 10 → Appended o a ((48 + n) ∷ after ∷ []) o₁ a₁ → Appended o a (decimal n ++ (after ∷ [])) o₁ a₁
  number-one h p = rw (digits_last 10 n ten h) p

  pub number-two : {o₂ : List ℕ} {a₂ : ℕ} → 10 ≤ n → n < 100 → Appended o a ((48 + n / 10) ∷ (48 + n % 10) ∷ []) o₁ a₁
      → Appended o₁ a₁ (after ∷ []) o₂ a₂
      → Appended o a (decimal n ++ (after ∷ [])) o₂ a₂
  number-two {o₂} {a₂} h k p q =
      let nine : ◌≡◌ {A = ℕ} (10 - 1) 0 → ⊥ = λ e. absurd (omega (arith, e)) in
      let e : decimal n ≡ (48 + n / 10) ∷ (48 + n % 10) ∷ [] =
      digits-front 10 n ten h ∙ rw (digits_last (10 - 1) (n / 10) nine (omega arith)) refl in
      rw e (append-then p q)

-- LINES: a field and the byte behind it, and then the other fields
module _ {o o₁ o₂ : List ℕ} {a a₁ a₂ : ℕ} (f g : List ℕ) (fs : List (List ℕ)) where
  pub line-more : Appended o a (f ++ (9 ∷ [])) o₁ a₁ → Appended o₁ a₁ (line (g ∷ fs)) o₂ a₂
      → Appended o a (line (f ∷ g ∷ fs)) o₂ a₂
  unfolding line
  line-more p q = rw append_assoc at (append-then p q)

module _ {o o₁ : List ℕ} {a a₁ : ℕ} (f : List ℕ) where
  pub line-last : Appended o a (f ++ (10 ∷ [])) o₁ a₁ → Appended o a (line (f ∷ [])) o₁ a₁
  unfolding line
  line-last p = p

-- WHERE THERE IS ROOM a text stands whole at the cursor, and what is around it is as it was
bytes-sets : (text out : List ℕ) (at : ℕ) → at + length text ≤ length out → (bytes_after out at text ≡ sets out at text)
    × (cursor_after out at text ≡ at + length text)
unfolding bytes_after cursor_after
bytes-sets [] out at h = (refl, omega arith)
bytes-sets (b ∷ text) out at h =
    let e = lt-ltb at (length out) (omega arith) in
    let k = bytes-sets text (set out at b) (suc at) (rw length-set (omega arith)) in
    (rw e k.0, rw e (k.1 ∙ omega arith))

pub stands-whole : StandsWhole
stands-whole text out at room = (bytes-sets text out at room).0 ∙ sets-eq text out at room

module _ {out text out' : List ℕ} {at at' : ℕ} (p : Appended out at text out' at')
    (room : at + length text ≤ length out) where
  pub appended-bytes : out' ≡ take at out ++ text ++ drop (at + length text) out
  appended-bytes = p.bytes ∙ stands-whole text out at room

  pub appended-cursor : at' ≡ at + length text
  appended-cursor = p.cursor ∙ (bytes-sets text out at room).1

-- THE CURSOR does not pass the end
next-inside : (out : List ℕ) (at : ℕ) → at ≤ length out → next out at ≤ length out
next-inside out at h = elim (lt? at (length out)) [
  | inl l ↦ rw (lt-ltb at (length out) l) (omega arith)
  | inr l ↦ rw (le-ltb at (length out) l) h
]

cursor-inside : (text out : List ℕ) (at : ℕ) → at ≤ length out → cursor_after out at text ≤ length out
unfolding cursor_after
cursor-inside [] out at h = h
cursor-inside (b ∷ text) out at h =
    let e : length (set out at b) ≡ length out = length-set out at b in
    let k : cursor_after (set out at b) (next out at) text ≤ length (set out at b) =
    cursor-inside text (set out at b) (next out at) (rw e (next-inside out at h)) in
    rw e at k

-- FROM THE FRONT of a buffer. What is written lies within it, and is the text if that has room.
module _ {out text out' : List ℕ} {n : ℕ} (p : Appended out 0 text out' n) where
  pub front_fits : length out' ≡ length out → n ≤ length out'
  front_fits k = omega (arith, k, p.cursor, cursor-inside text out 0 (omega arith))

  pub front_cut : length out' ≡ length out → n ≡ length (take n out')
  front_cut k = let h = front_fits k in simp length-take (omega arith)

  module _ (room : length text ≤ length out) where
    front-room : 0 + length text ≤ length out
    front-room = omega arith

    pub front-bytes : out' ≡ text ++ drop (length text) out
    front-bytes = let e : 0 + length text ≡ length text = omega arith in rw e at (appended-bytes p front-room)

    pub front-cursor : n ≡ length text
    front-cursor = appended-cursor p front-room ∙ omega arith

    pub front-text : take n out' ≡ text
    front-text = rw (front-cursor, front-bytes) (take-append_seam text _)

-- PIECES, one for each number below a bound
module _ (f : ℕ → List ℕ) {o : List ℕ} {a : ℕ} where
  pub pieces_none : Appended o a (gather_below f 0) o a
  unfolding gather_below
  pieces_none = append-none o a

  module _ {o₁ : List ℕ} {a₁ : ℕ} where
    pub pieces-next : {o₂ : List ℕ} {a₂ : ℕ} (i : ℕ) → Appended o a (gather_below f i) o₁ a₁ → Appended o₁ a₁ (f i) o₂ a₂
        → Appended o a (gather_below f (i + 1)) o₂ a₂
    unfolding gather_below
    pieces-next i p q = rw (add-one i) (append-then p q)

    pub pieces-all : (i n : ℕ) → i ≤ n → n ≤ i → Appended o a (gather_below f i) o₁ a₁
        → Appended o a (gather_below f n) o₁ a₁
    pieces-all i n h k p = let e : n ≡ i = omega arith in rw e p
