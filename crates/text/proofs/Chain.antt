-- A text as code reads it, step by step: where a step reads nothing the whole reads nothing, and else the whole gives
-- what its rest gives. A byte is read where it was looked for inside the text. Of a line whose first pieces have been read
-- a record says what is left; a call's promise and its answer make one step along it, on or off. Assumes nothing.
use Prim.Native.Nat.{ℕ, ◌+◌, ◌<◌}
use mathlib.Core.Path.{◌≡◌, refl, sym, ◌∙◌, ap}
use mathlib.Core.Bool.{Bool, true, false, cond}
use mathlib.Core.List.{List}
use lib.Dec.{eqb}
use lib.ListN.{get_or}
use Rattle.text.specs.declared.Cursor.{Cursor}
use Rattle.text.specs.Byte.{Byte, Other, Past}
use Rattle.text.specs.Reading.{Got, bad, got, then, byte_at}
use Rattle.text.specs.Answers.{byte_got, byte_inside}
use Rattle.text.proofs.Reading.{bad-got}
use Rattle.text.proofs.Numbers.{byte-is}

-- ANY STEP
module _ {A B : Type 0} where
  pub fails : {g : Got A} (k : A → ℕ → Got B) → g ≡ bad → bad ≡ then g k
  fails k e = rw e

  pub goes : {g : Got A} {x : A} {c : ℕ} {y : Got B} (k : A → ℕ → Got B) → g ≡ got x c → y ≡ k x c → y ≡ then g k
  goes k e h = rw e h

-- A BYTE
module _ (s : List ℕ) (b at : ℕ) (pos : 0 < b) (r : Byte) (looked : byte_got b r ≡ byte_inside s b at) where
  module _ (e : r ≡ Other) where
    byte-bad : byte_at s b at ≡ bad
    byte-bad = sym (looked ∙ byte-is s at b pos) ∙ ap (byte_got b) e

    pub byte-fails : {B : Type 0} (k : ℕ → ℕ → Got B) → bad ≡ then (byte_at s b at) k
    byte-fails k = fails k byte-bad

    pub byte-miss : eqb (get_or s at 0) b ≡ false
    unfolding byte_at
    byte-miss = cases (eqb (get_or s at 0) b) byte-bad
      where
        cases : (p : Bool) → cond p (got b (at + 1)) bad ≡ bad → p ≡ false
        cases true h = bad-got h refl
        cases false h = refl

  module _ (c : Cursor) (e : r ≡ Past c) where
    byte-got : byte_at s b at ≡ got b c.at
    byte-got = sym (looked ∙ byte-is s at b pos) ∙ ap (byte_got b) e

    pub byte-goes : {B : Type 0} {y : Got B} (k : ℕ → ℕ → Got B) → y ≡ k b c.at → y ≡ then (byte_at s b at) k
    byte-goes k h = goes k byte-got h

    pub byte-hit : (eqb (get_or s at 0) b ≡ true) × (c.at ≡ at + 1)
    unfolding byte_at
    byte-hit = cases (eqb (get_or s at 0) b) c.at byte-got
      where
        cases : (p : Bool) (d : ℕ) → cond p (got b (at + 1)) bad ≡ got b d → (p ≡ true) × (d ≡ at + 1)
        cases true d h = (refl, cc)
        cases false d h = bad-got refl h

-- A LINE WHOSE FIRST FIELDS HAVE BEEN READ: it gives what its rest gives
pub record Left (A : Type 0) : Type 0 where
  pub line : Got A
  pub rest : Got A
  pub gives : rest ≡ line

module _ {A : Type 0} where
  abbrev pub whole : Got A → Left A
  whole g = record { line = g; rest = g; gives = refl }

  abbrev pub onward : (l : Left A) {y : Got A} → y ≡ l.rest → Left A
  onward l {y} h = record { line = l.line; rest = y; gives = h ∙ l.gives }

-- A byte was looked for: it stood there, and the line goes on behind it; or it did not, and that is the line's answer
module _ {A : Type 0} (l : Left A) (s : List ℕ) (b at : ℕ) (pos : 0 < b) (k : ℕ → ℕ → Got A)
    (h : l.rest ≡ then (byte_at s b at) k) {r : Byte} (looked : byte_got b r ≡ byte_inside s b at) where
  abbrev pub byte-on : {c : Cursor} → r ≡ Past c → Left A
  byte-on {c} e = onward l (byte-goes s b at pos r looked c e k refl ∙ sym h)

  pub byte-off : r ≡ Other → bad ≡ l.line
  byte-off e = byte-fails s b at pos r looked e k ∙ sym h ∙ l.gives
