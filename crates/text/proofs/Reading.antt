-- Reading with a cursor is writing, turned round. What a step reads at its cursor is written there, with the rest of
-- the text behind it, and what is written at the cursor is read; for a number, because every further digit keeps what
-- is read and what is written in step. Assumes nothing.
use Prim.Native.Nat.{ℕ, zero, suc, ◌+◌, ◌-◌, ◌*◌, ◌^◌, ◌<◌, ◌≤◌}
use mathlib.Core.Path.{◌≡◌, refl, sym, ◌∙◌, ap}
use mathlib.Core.Logic.{inl, inr}
use mathlib.Core.Bool.{Bool, true, false, cond}
use mathlib.Core.List.{List, [], ◌∷◌, ◌++◌, append_assoc}
use native.Mathlib.Omega.{arith}
use native.Mathlib.Nat.{pow-succ'}
use native.Mathlib.Numerals.{add-one}
use lib.Dec.{eqb}
use lib.ListN.{length, get_or, drop, get_or-eq_default}
use lib.Seq.{drop-cons, drop-drop, drop-append_seam, get_or-drop}
use borrow.Author.Tests.{lt-ltb, eqb-true, eqb-false, eq-eqb, ne_eqb}
use Rattle.laws.specs.Lists.{all}
use Rattle.laws.proofs.Bools.{lt?, and-true}
use Rattle.text.specs.Text.{digits, decimal}
use Rattle.text.specs.Reading.{is_digit, Got, bad, got, then, byte_at, digits_at, number_at, value_of}
use Rattle.text.proofs.Decimal.{Begins, digit-is, digits_are, digits-length, digits-behind, digits-enough}
use Rattle.text.proofs.Decimal.{digits_decimal, digits-begin, value-digits}

pub bad-got : {A : Type 0} {B : Type 0} {x : A} {c : ℕ} {g : Got A} → g ≡ bad → g ≡ got x c → B
bad-got p q = let z : ◌≡◌ {A = ℕ} 0 1 = cc in absurd (omega arith)

-- what holds of what was read holds of its parts under other names
pub carry : {A : Type 0} (P : A → ℕ → Type 0) {x y : A} {b c : ℕ} → got x b ≡ got y c → P x b → P y c
carry P {x} {y} {b} {c} e h =
    let p : x ≡ y = cc in
    let q : b ≡ c = cc in
    rw (← p, ← q) h

-- from the place on, the text is l
pub record Lies (s : List ℕ) (at : ℕ) (l : List ℕ) : Type 0 where
  pub text : drop at s ≡ l

-- what is read: x, and the rest of the text lies behind it
pub record Reads {A : Type 0} (s : List ℕ) (g : Got A) (x : A) (rest : List ℕ) : Type 0 where
  pub cursor : ℕ
  pub is : g ≡ got x cursor
  pub left : Lies s cursor rest

-- what `then` gave, in its two steps
pub record Steps {A B : Type 0} (g : Got A) (k : A → ℕ → Got B) (y : B) (c : ℕ) : Type 0 where
  pub value : A
  pub cursor : ℕ
  pub first : g ≡ got value cursor
  pub second : k value cursor ≡ got y c

pub steps : {A B : Type 0} (g : Got A) (k : A → ℕ → Got B) (y : B) (c : ℕ) → then g k ≡ got y c → Steps g k y c
steps bad k y c e = bad-got refl e
steps (got x b) k y c e = record { value = x; cursor = b; first = refl; second = e }

pub on : {A B : Type 0} {P : Type 0} (g : Got A) (k : A → ℕ → Got B) (y : B) (c : ℕ) → then g k ≡ got y c
    → ((x : A) (b : ℕ) → g ≡ got x b → k x b ≡ got y c → P) → P
on g k y c e f = let t = steps g k y c e in f t.value t.cursor t.first t.second

-- two steps of `then` made, one after the other
pub go_on : {A B : Type 0} {s : List ℕ} {g : Got A} {x : A} {rest : List ℕ} (k : A → ℕ → Got B) {y : B} {more : List ℕ}
    → Reads s g x rest → ((c : ℕ) → Lies s c rest → Reads s (k x c) y more) → Reads s (then g k) y more
go_on k r f = let t = f r.cursor r.left in record { cursor = t.cursor; is = rw r.is t.is; left = t.left }

pub stop-here : {A : Type 0} {s : List ℕ} {x : A} {c : ℕ} {rest : List ℕ} → Lies s c rest → Reads s (got x c) x rest
stop-here {c} t = record { cursor = c; is = refl; left = t }

pub peek : {s : List ℕ} {at : ℕ} {l : List ℕ} → Lies s at l → (k : ℕ) → get_or s (at + k) 0 ≡ get_or l k 0
peek {s} {at} e k = sym (get_or-drop at s k 0) ∙ ap (λ (t : List ℕ). get_or t k 0) e.text

pub here : {s : List ℕ} {at : ℕ} {l : List ℕ} → Lies s at l → get_or s at 0 ≡ get_or l 0 0
here {at} e = let z : at + 0 ≡ at = omega arith in rw z at (peek e 0)

pub past : {s : List ℕ} {at : ℕ} (w rest : List ℕ) → Lies s at (w ++ rest) → Lies s (at + length w) rest
past {s} {at} w rest e =
    record { text = sym (drop-drop (length w) at s) ∙ ap (drop (length w)) e.text ∙ drop-append_seam w rest }

-- a byte other than 0 stands inside the text
inside : (s : List ℕ) (at b : ℕ) → 0 < b → get_or s at 0 ≡ b → at < length s
inside s at b pos e = elim (lt? at (length s)) [ inl l ↦ l | inr l ↦ omega (arith, get_or-eq_default s 0 l) ]

pub stands : (s : List ℕ) (at b : ℕ) → 0 < b → get_or s at 0 ≡ b → drop at s ≡ b ∷ drop (at + 1) s
stands s at b pos e = drop-cons s at 0 (inside s at b pos e) ∙ rw (e, add-one)

-- BYTES
byte-cases : (s : List ℕ) (b at x c : ℕ) (p : Bool) → 0 < b → eqb (get_or s at 0) b ≡ p
    → cond p (got b (at + 1)) bad ≡ got x c → drop at s ≡ b ∷ drop c s
byte-cases s b at x c true pos h e =
    let z : at + 1 ≡ c = cc in
    rw (← z) (stands s at b pos (eqb-true (get_or s at 0) b h))
byte-cases s b at x c false pos h e = bad-got refl e

pub byte-sound : (s : List ℕ) (b at x c : ℕ) → 0 < b → byte_at s b at ≡ got x c → drop at s ≡ b ∷ drop c s
unfolding byte_at
byte-sound s b at x c pos e = byte-cases s b at x c (eqb (get_or s at 0) b) pos refl e

pub byte-complete : (s : List ℕ) (b at : ℕ) (rest : List ℕ) → Lies s at (b ∷ rest) → Reads s (byte_at s b at) b rest
unfolding byte_at
byte-complete s b at rest e =
    record { cursor = at + 1; is = rw (eq-eqb (get_or s at 0) b (here e)); left = past (b ∷ []) rest e }

-- NUMBERS: what is read is written
pub record Written (s : List ℕ) (most at n c : ℕ) : Type 0 where
  pub small : n < 10 ^ suc most
  pub text : drop at s ≡ decimal n ++ drop c s

-- a number read, with no more digits than were looked for
record Spelled (s : List ℕ) (most at n c : ℕ) : Type 0 where
  small : n < 10 ^ suc most
  text : drop at s ≡ digits (suc most) n ++ drop c s

module _ (s : List ℕ) (at : ℕ) where
  digit-stands : (k : ℕ) → is_digit (get_or s k 0) ≡ true → drop k s ≡ (48 + (get_or s k 0 - 48)) ∷ drop (k + 1) s
  digit-stands k h =
      let d = digit-is (get_or s k 0) h in
      let z : 48 + (get_or s k 0 - 48) ≡ get_or s k 0 = omega arith in
      rw z (stands s k (get_or s k 0) (omega arith) refl)

  -- a number read so far, with room for some more digits
  wider : (m n c : ℕ) → Spelled s m at n c → Spelled s (suc m) at n c
  wider m n c w =
      let e : 10 ^ suc (suc m) ≡ 10 * 10 ^ suc m = pow-succ' 10 (suc m) in
      record {
        small = omega (arith, w.small);
        text = w.text ∙ ap (λ (l : List ℕ). l ++ drop c s) (digits-enough m n w.small);
      }

  longer : (m n c : ℕ) → 0 < n → is_digit (get_or s c 0) ≡ true → Spelled s m at n c
      → Spelled s (suc m) at (n * 10 + (get_or s c 0 - 48)) (c + 1)
  longer m n c p h w =
      let e : 10 ^ suc (suc m) ≡ 10 * 10 ^ suc m = pow-succ' 10 (suc m) in
      let d = digit-is (get_or s c 0) h in
      let k = w.small in
      let b = digits-behind (suc m) n (get_or s c 0 - 48) p (omega arith) in
      record { small = omega arith; text = w.text ∙ rw (digit-stands c h, b, append_assoc) }

  wide : (k m n c : ℕ) → Spelled s m at n c → Spelled s (m + k) at n c
  wide zero m n c w = let z : m + 0 ≡ m = omega arith in rw z w
  wide (suc k) m n c w = let z : suc m + k ≡ m + suc k = omega arith in rw z at (wide k (suc m) n c (wider m n c w))

  step : (room m v b n c : ℕ) (p : Bool) → is_digit (get_or s b 0) ≡ p → Spelled s m at v b
      → (is_digit (get_or s b 0) ≡ true → digits_at s room (v * 10 + (get_or s b 0 - 48)) (b + 1) ≡ got n c
      → Spelled s (suc m + room) at n c)
      → cond p (digits_at s room (v * 10 + (get_or s b 0 - 48)) (b + 1)) (got v b) ≡ got n c
      → Spelled s (m + suc room) at n c
  step room m v b n c true h w ih e = let z : suc m + room ≡ m + suc room = omega arith in rw z at (ih h e)
  step room m v b n c false h w ih e = carry (Spelled s (m + suc room) at) e (wide (suc room) m v b w)

  digits-sound : (room m v b n c : ℕ) → 0 < v → Spelled s m at v b → digits_at s room v b ≡ got n c
      → Spelled s (m + room) at n c
  unfolding digits_at
  digits-sound zero m v b n c p w e = carry (Spelled s (m + 0) at) e (wide 0 m v b w)
  digits-sound (suc room) m v b n c p w e =
      step room m v b n c (is_digit (get_or s b 0)) refl w
      (λ h e. digits-sound room (suc m) (v * 10 + (get_or s b 0 - 48)) (b + 1) n c (omega arith) (longer m v b p h w) e) e

  first-digit : is_digit (get_or s at 0) ≡ true → Spelled s 0 at (get_or s at 0 - 48) (at + 1)
  unfolding digits
  first-digit h =
      let d = digit-is (get_or s at 0) h in
      record { small = omega arith; text = digit-stands at h ∙ rw (lt-ltb (get_or s at 0 - 48) 10 (omega arith)) }

  number-cases : (most n c : ℕ) (p q : Bool) → is_digit (get_or s at 0) ≡ p → eqb (get_or s at 0) 48 ≡ q
      → cond p (cond q (got 0 (at + 1)) (digits_at s most (get_or s at 0 - 48) (at + 1))) bad ≡ got n c
      → Spelled s most at n c
  number-cases most n c false q hp hq e = bad-got refl e
  number-cases most n c true true hp hq e =
      let x = eqb-true (get_or s at 0) 48 hq in
      let y : get_or s at 0 - 48 ≡ 0 = omega arith in
      let z : 0 + most ≡ most = omega arith in
      carry (Spelled s most at) e (rw (y, z) at (wide most 0 (get_or s at 0 - 48) (at + 1) (first-digit hp)))
  number-cases most n c true false hp hq e =
      let x = eqb-false (get_or s at 0) 48 hq in
      let d = digit-is (get_or s at 0) hp in
      let z : 0 + most ≡ most = omega arith in
      rw z at (digits-sound most 0 (get_or s at 0 - 48) (at + 1) n c (omega arith) (first-digit hp) e)

  pub number-sound : (most n c : ℕ) → most < 10 → number_at s most at ≡ got n c → Written s most at n c
  unfolding number_at
  number-sound most n c l e =
      let w = number-cases most n c (is_digit (get_or s at 0)) (eqb (get_or s at 0) 48) refl refl e in
      record {
        small = w.small;
        text = w.text ∙ ap (λ (d : List ℕ). d ++ drop c s) (digits_decimal most n l w.small);
      }

-- NUMBERS: what is written is read
module _ (s rest : List ℕ) (stop : is_digit (get_or rest 0 0) ≡ false) where
  digits-complete : (ds : List ℕ) (most v c : ℕ) → all is_digit ds ≡ true → length ds ≤ most → Lies s c (ds ++ rest)
      → Reads s (digits_at s most v c) (value_of v ds) rest
  unfolding digits_at value_of all
  digits-complete [] zero v c a l t = record { cursor = c; is = refl; left = t }
  digits-complete [] (suc most) v c a l t = record { cursor = c; is = rw (here t, stop); left = t }
  digits-complete (d ∷ ds) zero v c a l t = absurd (omega arith)
  digits-complete (d ∷ ds) (suc most) v c a l t =
      let h = and-true (is_digit d) (all is_digit ds) a in
      rw (here t, h.0)
      (digits-complete ds most (v * 10 + (d - 48)) (c + 1) h.1 (omega arith) (past (d ∷ []) (ds ++ rest) t))

  spelled-complete : (ds : List ℕ) (d : ℕ) (most c : ℕ) → 48 < d → all is_digit (d ∷ ds) ≡ true → length ds ≤ most
      → Lies s c (d ∷ (ds ++ rest))
      → Reads s (number_at s most c) (value_of 0 (d ∷ ds)) rest
  unfolding number_at value_of all
  spelled-complete ds d most c nz a l t =
      let h = and-true (is_digit d) (all is_digit ds) a in
      let z : 0 * 10 + (d - 48) ≡ d - 48 = omega arith in
      rw (here t, h.0, ne_eqb d 48 (λ e. omega arith), z)
      (digits-complete ds most (d - 48) (c + 1) h.1 l (past (d ∷ []) (ds ++ rest) t))

  zero-complete : (most c : ℕ) → Lies s c (48 ∷ rest) → Reads s (number_at s most c) 0 rest
  unfolding number_at is_digit
  zero-complete most c t = record { cursor = c + 1; is = rw (here t); left = past (48 ∷ []) rest t }

  begun : (l : List ℕ) (most n c : ℕ) → l ≡ digits (suc most) n → n < 10 ^ suc most → Begins l → Lies s c (l ++ rest)
      → Reads s (number_at s most c) n rest
  begun l most n c e h b t =
      let v : value_of 0 l ≡ n = ap (value_of 0) e ∙ value-digits (suc most) n h in
      let a : all is_digit l ≡ true = ap (all is_digit) e ∙ digits_are (suc most) n in
      let k : length l ≤ suc most = rw e (digits-length (suc most) n) in
      let rest-length : length (b.head ∷ b.rest) ≤ suc most = rw b.is at k in
      rw (rw b.is at v) at (spelled-complete b.rest b.head most c b.nonzero (rw b.is at a)
      (omega (arith, rest-length)) (rw b.is at t))

  spelled : (most n c : ℕ) → n < 10 ^ suc most → Lies s c (digits (suc most) n ++ rest)
      → Reads s (number_at s most c) n rest
  unfolding digits
  spelled most zero c h t = zero-complete most c t
  spelled most (suc n) c h t =
      begun (digits (suc most) (suc n)) most (suc n) c refl h (digits-begin (suc most) (suc n) (omega arith) h) t

  pub number-complete : (most n c : ℕ) → most < 10 → n < 10 ^ suc most → Lies s c (decimal n ++ rest)
      → Reads s (number_at s most c) n rest
  number-complete most n c l h t = spelled most n c h (rw (← (digits_decimal most n l h)) at t)
