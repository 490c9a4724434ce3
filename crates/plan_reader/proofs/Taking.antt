-- The walk over a line as code makes it, step by step: each test of the code is a test of the definition, and
-- each turn of a loop reads one more and leaves what is to be read. Assumes nothing.
use Prim.Native.Nat.{ℕ, suc, ◌+◌, ◌-◌, ◌*◌, ◌%◌, ◌^◌, ◌≤◌, ◌<◌}
use mathlib.Core.Path.{◌≡◌, refl, sym, ◌∙◌, ap}
use mathlib.Core.Bool.{Bool, true, false, cond}
use mathlib.Core.List.{List, [], ◌∷◌}
use mathlib.Core.Logic.{inl, inr}
use native.Mathlib.Omega.{arith}
use native.Mathlib.Nat.{pow-le-pow_right, pow-succ', mod-eq_of_lt}
use native.Mathlib.Numerals.{add-one}
use lib.Dec.{eqb, ltb}
use lib.ListN.{length, get_or, drop, drop_of_length-le, get_or-eq_default}
use lib.Seq.{drop-cons}
use borrow.Author.Tests.{lt-ltb, ltb-true, eq-eqb, ne_eqb}
use Rattle.laws.proofs.Bools.{lt?}
use Rattle.laws.proofs.Lists.{of_four}
use Rattle.text.specs.declared.Cursor.{Cursor}
use Rattle.text.specs.Byte.{Byte, Other, Past}
use Rattle.text.specs.Text.{byte}
use Rattle.text.specs.Reading.{Got, bad, got, then, number_at}
use Rattle.text.specs.Answers.{byte_got, byte_inside}
use Rattle.text.proofs.Reading.{bad-got, steps, on}
use Rattle.railway.specs.Bounds.{most_points, most_trains}
use Rattle.game_tables.specs.Entries.{train_bits}
use Rattle.game_tables.specs.Tables.{no_figure}
use Rattle.plan.specs.Lines.{train_digit}
use Rattle.plan_reader.specs.Walk.{word_at, number_tab, to_section, section_at, sections_at, to_figure, figure_at, trains_at, to_opens, opens_at, signs_at}
use Rattle.plan_reader.proofs.Fields.{next_bit}

-- SECTIONS
-- a section that was read is there
of-below : (s n c x b : ℕ) (p q : Bool) → ltb (n - 1) s ≡ q → cond p bad (cond q (got (n - 1) c) bad) ≡ got x b → x < s
of-below s n c x b true q h e = bad-got refl e
of-below s n c x b false true h e = let z : n - 1 ≡ x = cc in rw z at (ltb-true (n - 1) s h)
of-below s n c x b false false h e = bad-got refl e

then-below : (s x b : ℕ) (g : Got ℕ) → then g (to_section s) ≡ got x b → x < s
then-below s x b g e = let w = steps g (to_section s) x b e in of-below s w.value w.cursor x b (eqb w.value 0) (ltb (w.value - 1) s) refl w.second

module _ (text : List ℕ) (s k t c x b : ℕ) where
  section-below : section_at text s k t c ≡ got x b → t < k → x < s
  unfolding section_at
  section-below e h = then-below s x b (number_tab text 2 c) (rw (lt-ltb t k h) at e)

pub sections-below : (text : List ℕ) (s k at c : ℕ) (qs : List ℕ) → sections_at text s k at ≡ got qs c → k ≤ most_trains → (t : ℕ) → t < k → get_or qs t 0 < s
unfolding sections_at
sections-below text s k at c qs e l t h =
    on (section_at text s k 0 at) _ qs c e (λ x c₁ ex e.
    on (section_at text s k 1 c₁) _ qs c e (λ y c₂ ey e.
    on (section_at text s k 2 c₂) _ qs c e (λ z c₃ ez e.
    on (section_at text s k 3 c₃) _ qs c e (λ w c₄ ew e.
    let q : x ∷ y ∷ z ∷ w ∷ [] ≡ qs = cc in
    rw (← q)
    (of_four (λ t u. t < k → u < s) 0 x y z w (section-below text s k 0 at x c₁ ex)
    (section-below text s k 1 c₁ y c₂ ey) (section-below text s k 2 c₂ z c₃ ez)
    (section-below text s k 3 c₃ w c₄ ew) t (omega arith) h)))))

-- the sections that were read are four
pub record Four (qs : List ℕ) : Type 0 where
  pub x : ℕ
  pub y : ℕ
  pub z : ℕ
  pub w : ℕ
  pub is : qs ≡ x ∷ y ∷ z ∷ w ∷ []

pub four-sections : (text : List ℕ) (s k at c : ℕ) (qs : List ℕ) → sections_at text s k at ≡ got qs c → Four qs
unfolding sections_at
four-sections text s k at c qs e =
    on (section_at text s k 0 at) _ qs c e (λ x c₁ ex e.
    on (section_at text s k 1 c₁) _ qs c e (λ y c₂ ey e.
    on (section_at text s k 2 c₂) _ qs c e (λ z c₃ ez e.
    on (section_at text s k 3 c₃) _ qs c e (λ w c₄ ew e.
    record { x = x; y = y; z = z; w = w; is = cc }))))

-- FIGURES
figure-cases : (n c x b : ℕ) (p : Bool) → ltb n no_figure ≡ p → cond p (got n c) bad ≡ got x b → x < no_figure
figure-cases n c x b true h e = let z : n ≡ x = cc in rw z at (ltb-true n no_figure h)
figure-cases n c x b false h e = bad-got refl e

pub figure-below : (text : List ℕ) (c x b : ℕ) → figure_at text c ≡ got x b → x < no_figure
unfolding figure_at
figure-below text c x b e = on (number_at text 9 c) to_figure x b e (λ n a en e. figure-cases n a x b (ltb n no_figure) refl e)

-- A BYTE that is not 0 stands inside the text
pub byte-inside : (text : List ℕ) (c b : ℕ) → b ≡ get_or text c 0 → 0 < b → c < length text
byte-inside text c b e pos = elim (lt? c (length text)) [ inl l ↦ l | inr l ↦ omega (arith, get_or-eq_default text 0 l) ]

-- A WORD: the bytes from i on are still to be read
pub record WordTo (text word : List ℕ) (from at i : ℕ) : Type 0 where
  pub same : word_at text word from ≡ word_at text (drop i word) at

pub word-start : (text word : List ℕ) (from : ℕ) → WordTo text word from from 0
word-start text word from = record { same = refl }

module _ (text word : List ℕ) (from at i : ℕ) (w : WordTo text word from at i) where
  module _ (l : i < length word) (r : Byte) (looked : byte_got (get_or word i 0) r ≡ byte_inside text (get_or word i 0) at) where
    word-here : word_at text word from ≡ then (byte_inside text (get_or word i 0) at) (λ x c. word_at text (drop (suc i) word) c)
    unfolding word_at
    word-here = w.same ∙ ap (λ (l : List ℕ). word_at text l at) (drop-cons word i 0 l)

    pub word_next : (next : Cursor) → r ≡ Past next → WordTo text word from next.at (i + 1)
    word_next next e =
        let g : byte_inside text (get_or word i 0) at ≡ got (get_or word i 0) next.at = sym looked ∙ ap (byte_got (get_or word i 0)) e in
        let z : i + 1 ≡ suc i = add-one i in
        record { same = word-here ∙ (rw (g, z)) }

    pub word-other : r ≡ Other → bad ≡ word_at text word from
    word-other e =
        let g : byte_inside text (get_or word i 0) at ≡ bad = sym looked ∙ ap (byte_got (get_or word i 0)) e in
        sym (word-here ∙ (rw g))

  pub word_end : length word ≤ i → got 0 at ≡ word_at text word from
  unfolding word_at
  word_end l = sym (w.same ∙ ap (λ (l : List ℕ). word_at text l at) (drop_of_length-le word l))

-- BITS: a shift is a power, and what was added so far is below the next bit
shifted : (n : ℕ) → n < 64 → (1 * 2 ^ n) % 2 ^ 64 ≡ 2 ^ n
shifted n l =
    let e : 1 * 2 ^ n ≡ 2 ^ n = omega arith in
    let d : 2 * 2 ^ n ≤ 2 ^ 64 = rw (pow-succ' 2 n) at (pow-le-pow_right {n = 2} (omega arith) {i = suc n} {j = 64} (omega arith)) in
    rw e (mod-eq_of_lt (omega arith))

doubled : (t : ℕ) → 2 ^ (train_bits + (t + 1)) ≡ 2 * 2 ^ (train_bits + t)
doubled t = let e : t + 1 ≡ suc t = add-one t in rw e (next_bit t)

-- THE LOOP OVER TRAINS: those from t on are still to be read, and the bits so far are below theirs
pub record OpensTo (text : List ℕ) (k from at v t : ℕ) : Type 0 where
  pub small : v < 2 ^ (train_bits + t)
  pub same : trains_at text k 0 0 from ≡ trains_at text (k - t) t v at

module _ (text : List ℕ) (k from at v t : ℕ) (o : OpensTo text k from at v t) (few : k ≤ most_trains) where
  module _ (l : t < k) where
    opens-bit : (1 * 2 ^ (train_bits + t)) % 2 ^ 64 ≡ 2 ^ (train_bits + t)
    opens-bit = shifted (train_bits + t) (omega arith)

    left_one : k - t ≡ suc (k - (t + 1))
    left_one = omega arith

    pub opens-yes : get_or text at 0 ≡ train_digit t → OpensTo text k from (at + 1) (v + (1 * 2 ^ (train_bits + t)) % 2 ^ 64) (t + 1)
    unfolding trains_at
    opens-yes e =
        let z : suc t ≡ t + 1 = omega arith in
        record {
          small = rw (opens-bit, doubled t) (omega (arith, o.small));
          same = o.same ∙ (rw (left_one, eq-eqb (get_or text at 0) (train_digit t) e, opens-bit, z));
        }

    pub opens_not : (get_or text at 0 ≡ train_digit t → ⊥) → OpensTo text k from at v (t + 1)
    unfolding trains_at
    opens_not e =
        let z : suc t ≡ t + 1 = omega arith in
        record {
          small = rw (doubled t) (omega (arith, o.small));
          same = o.same ∙ (rw (left_one, ne_eqb (get_or text at 0) (train_digit t) e, z));
        }

  module _ (past : k ≤ t) (other : get_or text from 0 ≡ byte "0" → ⊥) where
    opens-end : opens_at text k from ≡ to_opens v at
    unfolding opens_at trains_at
    opens-end = let z : k - t ≡ 0 = omega arith in rw (ne_eqb (get_or text from 0) (byte "0") other, o.same, z)

    pub opens-none : v ≡ 0 → bad ≡ opens_at text k from
    opens-none e = sym (opens-end ∙ (rw (eq-eqb v 0 e)))

    pub opens-some : (v ≡ 0 → ⊥) → got v at ≡ opens_at text k from
    opens-some e = sym (opens-end ∙ (rw (ne_eqb v 0 e)))

pub opens-zero : (text : List ℕ) (k c : ℕ) → get_or text c 0 ≡ byte "0" → got 0 (c + 1) ≡ opens_at text k c
unfolding opens_at
opens-zero text k c e = rw e

-- THE LOOP OVER POINTS, in the same way
pub record SignsTo (text : List ℕ) (m from at v i : ℕ) : Type 0 where
  pub small : v < 2 ^ i
  pub same : signs_at text m 0 0 from ≡ signs_at text (m - i) i v at

module _ (text : List ℕ) (m from at v i : ℕ) (o : SignsTo text m from at v i) where
  module _ (l : i < m) (few : m ≤ most_points) where
    signs-bit : (1 * 2 ^ i) % 2 ^ 64 ≡ 2 ^ i
    signs-bit = shifted i (omega arith)

    one_left : m - i ≡ suc (m - (i + 1))
    one_left = omega arith

    twice : 2 ^ (i + 1) ≡ 2 * 2 ^ i
    twice = let e : i + 1 ≡ suc i = add-one i in rw e (pow-succ' 2 i)

    pub signs-plus : get_or text at 0 ≡ byte "+" → SignsTo text m from (at + 1) (v + (1 * 2 ^ i) % 2 ^ 64) (i + 1)
    unfolding signs_at
    signs-plus e =
        let z : suc i ≡ i + 1 = omega arith in
        record { small = rw (signs-bit, twice) (omega (arith, o.small)); same = o.same ∙ (rw (one_left, e, signs-bit, z)) }

    pub signs-minus : get_or text at 0 ≡ byte "-" → SignsTo text m from (at + 1) v (i + 1)
    unfolding signs_at
    signs-minus e =
        let z : suc i ≡ i + 1 = omega arith in
        record { small = rw twice (omega (arith, o.small)); same = o.same ∙ (rw (one_left, e, z)) }

    pub signs-none : (get_or text at 0 ≡ byte "+" → ⊥) → (get_or text at 0 ≡ byte "-" → ⊥) → bad ≡ signs_at text m 0 0 from
    unfolding signs_at
    signs-none p q = sym (o.same ∙ (rw (one_left, ne_eqb (get_or text at 0) (byte "+") p, ne_eqb (get_or text at 0) (byte "-") q)))

  pub signs-end : m ≤ i → got v at ≡ signs_at text m 0 0 from
  unfolding signs_at
  signs-end l = let z : m - i ≡ 0 = omega arith in sym (o.same ∙ (rw z))
