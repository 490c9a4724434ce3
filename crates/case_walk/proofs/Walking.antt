-- The walk over lines of one kind, turn by turn: what is still to be read, put into the draft so far, gives what the whole walk gives. A kind with
-- a count has as many turns as its lines. The others move on with each line, so as many turns as the text has bytes are enough.
-- Assumes nothing.
use Prim.Native.Nat.{ℕ, zero, suc, ◌+◌, ◌-◌, ◌<◌, ◌≤◌}
use mathlib.Core.Path.{◌≡◌, refl, sym, ◌∙◌, ap}
use mathlib.Core.Logic.{inl, inr}
use mathlib.Core.Bool.{Bool, true, false}
use mathlib.Core.List.{List, ◌++◌}
use native.Mathlib.Omega.{arith}
use lib.Dec.{eqb}
use lib.ListN.{length, get_or, drop, length-append, length-drop, get_or-eq_default}
use borrow.Author.Tests.{eqb-true}
use Rattle.laws.proofs.Bools.{bool?, lt?, clash}
use Rattle.text.specs.Text.{line}
use Rattle.text.specs.Reading.{Got, bad, got, then}
use Rattle.text.proofs.Reading.{steps}
use Rattle.text.proofs.Chain.{fails, goes}
use Rattle.case_file.specs.Form.{join_line, signal_line, closed_line, Writable, WritableJoin, WritableSignal}
use Rattle.case_file.specs.Reading.{join_line_at, signal_line_at, closed_line_at}
use Rattle.case_file.proofs.Lines.{WrittenLine, join-sound, signal-sound, closed-sound}
use Rattle.case_draft.specs.declared.Draft.{Draft}
use Rattle.case_draft.specs.declared.Kind.{Kind}
use Rattle.case_draft.specs.declared.Kind.TheVariants.{P, J, G, X, T}
use Rattle.case_draft.specs.Drafting.{put_join, put_signal, put_closed, line_into, letter, counted, fold_counted, fold_while, many_into}

-- AS MANY AS A COUNT SAYS, of which i have been read
module _ (s : List ℕ) (k : Kind) (count i c : ℕ) (d : Draft) where
  pub counted_more : i < count → fold_counted (line_into s k) (count - i) (i + 1) c d ≡ then (line_into s k (i + 1) c d)
      (λ d c. fold_counted (line_into s k) (count - (i + 1)) (i + 1 + 1) c d)
  unfolding fold_counted
  counted_more h =
      let y : count - i ≡ suc (count - (i + 1)) = omega arith in
      let z : i + 1 + 1 ≡ suc (i + 1) = omega arith in
      rw (y, z)

  pub counted_all : count ≤ i → fold_counted (line_into s k) (count - i) (i + 1) c d ≡ got d c
  unfolding fold_counted
  counted_all h = let y : count - i ≡ 0 = omega arith in rw y

-- AS MANY AS THERE ARE
module _ (test : ℕ → Bool) (ln : ℕ → Draft → Got Draft) (c : ℕ) (d : Draft) where
  while-more : (m : ℕ) → test c ≡ true → fold_while test ln (suc m) c d ≡ then (ln c d) (λ d c. fold_while test ln m c d)
  unfolding fold_while
  while-more m e = rw (e, fold_while)

  while-none : (m : ℕ) → test c ≡ false → got d c ≡ fold_while test ln m c d
  unfolding fold_while
  while-none zero e = refl
  while-none (suc m) e = rw (e, fold_while)

ahead : (s l : List ℕ) (a c : ℕ) → drop a s ≡ l ++ drop c s → 1 ≤ length l → a < length s → a < c
ahead s l a c e h b = omega (arith, length-drop a s, length-drop c s, simp length-append at (ap length e))

module _ (s : List ℕ) where
  moved : (l : List ℕ) (a m c : ℕ) (w e : Draft) → got w m ≡ got e c → drop a s ≡ l ++ drop m s → 1 ≤ length l → a < length s → a < c
  moved l a m c w e g q h b = let z : m ≡ c = cc in rw z at (ahead s l a m q h b)

  -- a line that is read is one byte at least, so the next begins further on
  further : {A : Type 0} (good : A → Type 0) (spelling : A → List ℕ) (read : ℕ → Got A) (put : A → Draft)
      → ((a : ℕ) (x : A) (c : ℕ) → read a ≡ got x c → WrittenLine good spelling s a x c) → ((x : A) → 1 ≤ length (spelling x))
      → (a c : ℕ) (e : Draft) → then (read a) (λ x c. got (put x) c) ≡ got e c → a < length s → a < c
  further good spelling read put sound long a c e h b =
      let t = steps (read a) (λ x c. got (put x) c) e c h in
      moved (spelling t.value) a t.cursor c _ e t.second (sound a t.value t.cursor t.first).text (long t.value) b

  -- OF EVERY KIND: its letter is a byte; and where it has no count, its lines have no numbers, and move the reader forward
  record Lawful (k : Kind) : Type 0 where
    pub letter-some : 0 < letter k
    pub forward : counted k ≡ false → (a c : ℕ) (d e : Draft) → line_into s k 0 a d ≡ got e c → a < length s → a < c

  lawful : (k : Kind) → Lawful k
  unfolding line
  lawful P = record { letter-some = omega arith; forward = λ h a c d e q b. clash refl h }
  lawful J =
      record {
        letter-some = omega arith;
        forward = λ h a c d e q b. further WritableJoin join_line (join_line_at s) (put_join d) (join-sound s) (λ x. omega arith) a c e q b;
      }
  lawful G =
      record {
        letter-some = omega arith;
        forward = λ h a c d e q b. further WritableSignal signal_line (signal_line_at s) (put_signal d) (signal-sound s) (λ x. omega arith) a c e q b;
      }
  lawful X =
      record {
        letter-some = omega arith;
        forward = λ h a c d e q b. further Writable closed_line (closed_line_at s) (put_closed d) (closed-sound s) (λ x. omega arith) a c e q b;
      }
  lawful T = record { letter-some = omega arith; forward = λ h a c d e q b. clash refl h }

  abbrev begins : Kind → ℕ → Bool
  begins k c = eqb (get_or s c 0) (letter k)

  begins-inside : (k : Kind) (c : ℕ) → begins k c ≡ true → c < length s
  begins-inside k c e =
      let z = eqb-true (get_or s c 0) (letter k) e in
      elim (lt? c (length s)) [ inl q ↦ q | inr q ↦ omega (arith, (lawful k).letter-some, get_or-eq_default s 0 q) ]

  -- ENOUGH TURNS ARE ENOUGH: more change nothing
  module _ (k : Kind) (free : counted k ≡ false) where
    abbrev turned : ℕ → ℕ → Draft → Got Draft
    turned m c d = fold_while (begins k) (line_into s k 0) m c d

    none-past : (c : ℕ) → length s ≤ c → begins k c ≡ false
    none-past c h = elim (bool? (begins k c)) [ inl y ↦ let q = begins-inside k c y in absurd (omega arith) | inr y ↦ y ]

    then_same : (g : Got Draft) (f h : Draft → ℕ → Got Draft) → ((e : Draft) (b : ℕ) → g ≡ got e b → f e b ≡ h e b) → then g f ≡ then g h
    then_same bad f h e = refl
    then_same (got d c) f h e = e d c refl

    enough : (m n c : ℕ) (d : Draft) → length s ≤ c + m → length s ≤ c + n → turned m c d ≡ turned n c d
    enough zero n c d h q =
        let z = none-past c (omega arith) in
        sym (while-none (begins k) (line_into s k 0) c d zero z) ∙ while-none (begins k) (line_into s k 0) c d n z
    enough (suc m) zero c d h q =
        let z = none-past c (omega arith) in
        sym (while-none (begins k) (line_into s k 0) c d (suc m) z) ∙ while-none (begins k) (line_into s k 0) c d zero z
    enough (suc m) (suc n) c d h q = elim (bool? (begins k c)) [
      | inl y ↦
          while-more (begins k) (line_into s k 0) c d m y
          ∙ then_same (line_into s k 0 c d) (λ d c. turned m c d) (λ d c. turned n c d)
          (λ e b z. let f = (lawful k).forward free c b d e z (begins-inside k c y) in enough m n b e (omega arith) (omega arith))
          ∙ sym (while-more (begins k) (line_into s k 0) c d n y)
      | inr y ↦
          sym (while-none (begins k) (line_into s k 0) c d (suc m) y) ∙ while-none (begins k) (line_into s k 0) c d (suc n) y
    ]

    -- AS MANY AS THERE ARE: there is another, or none
    module _ (c : ℕ) (d : Draft) where
      pub many_more : eqb (get_or s c 0) (letter k) ≡ true → many_into s k c d ≡ then (line_into s k 0 c d) (λ d c. many_into s k c d)
      many_more y =
          let i = begins-inside k c y in
          enough (length s) (suc (length s)) c d (omega arith) (omega arith)
          ∙ while-more (begins k) (line_into s k 0) c d (length s) y

      pub many_none : eqb (get_or s c 0) (letter k) ≡ false → many_into s k c d ≡ got d c
      many_none y = sym (while-none (begins k) (line_into s k 0) c d (length s) y)

      -- a line that is read leaves less of the text
      pub less_left : eqb (get_or s c 0) (letter k) ≡ true → (e : Draft) (b : ℕ) → line_into s k 0 c d ≡ got e b → length s - b < length s - c
      less_left y e b z =
          let i = begins-inside k c y in
          let f = (lawful k).forward free c b d e z i in
          omega arith

-- THE TURNS, as the check takes them
pub ruleset turns = (counted_more, counted_all, many_more, many_none, less_left, fails, goes)
