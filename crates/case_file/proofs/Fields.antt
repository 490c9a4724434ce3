-- Fields of a case text: sides, legs and ends. Each is read where it is written and written where it is read, since the letters differ from
-- each other and from digits.
-- Assumes nothing.
use Prim.Native.Nat.{ℕ, ◌+◌}
use mathlib.Core.Path.{◌≡◌, refl, ◌∙◌}
use mathlib.Core.Bool.{Bool, true, false, cond}
use mathlib.Core.List.{List, [], ◌∷◌, ◌++◌, append_assoc}
use native.Mathlib.Omega.{arith}
use lib.Dec.{eqb}
use lib.ListN.{get_or, drop}
use borrow.Author.Tests.{eqb-true}
use Rattle.text.specs.Reading.{Got, bad, got, is_digit}
use Rattle.text.proofs.Reading.{bad-got, carry, Lies, Reads, steps, go_on, here, past, stands, Written, number-sound, number-complete}
use Rattle.railway.specs.declared.Side.{Side}
use Rattle.railway.specs.declared.Side.TheVariants.{Up, Down}
use Rattle.railway.specs.declared.Leg.{Leg}
use Rattle.railway.specs.declared.Leg.TheVariants.{Stem, Plus, Minus}
use Rattle.case_file.specs.Form.{EndField, section, port, side_byte, leg_byte, end_field, WritableEnd}
use Rattle.case_file.specs.Reading.{case_number_at, side_field_at, leg_field_at, mark_at, end_field_at}

-- SIDES AND LEGS
module _ (s : List ℕ) (at : ℕ) where
  side-cases : (x : Side) (c : ℕ) (p q : Bool) → eqb (get_or s at 0) (side_byte Up) ≡ p → eqb (get_or s at 0) (side_byte Down) ≡ q
      → cond p (got Up (at + 1)) (cond q (got Down (at + 1)) bad) ≡ got x c → drop at s ≡ side_byte x ∷ drop c s
  side-cases x c true q hp hq e =
      let a : Up ≡ x = cc in
      let b : at + 1 ≡ c = cc in
      rw (← a, ← b) (stands s at (side_byte Up) (omega arith) (eqb-true (get_or s at 0) (side_byte Up) hp))
  side-cases x c false true hp hq e =
      let a : Down ≡ x = cc in
      let b : at + 1 ≡ c = cc in
      rw (← a, ← b) (stands s at (side_byte Down) (omega arith) (eqb-true (get_or s at 0) (side_byte Down) hq))
  side-cases x c false false hp hq e = bad-got refl e

  pub side-sound : (x : Side) (c : ℕ) → side_field_at s at ≡ got x c → drop at s ≡ side_byte x ∷ drop c s
  unfolding side_field_at
  side-sound x c e = side-cases x c (eqb (get_or s at 0) (side_byte Up)) (eqb (get_or s at 0) (side_byte Down)) refl refl e

  pub side-complete : (x : Side) (rest : List ℕ) → Lies s at (side_byte x ∷ rest) → Reads s (side_field_at s at) x rest
  unfolding side_field_at
  side-complete Up rest t = record { cursor = at + 1; is = rw (here t); left = past (side_byte Up ∷ []) rest t }
  side-complete Down rest t = record { cursor = at + 1; is = rw (here t); left = past (side_byte Down ∷ []) rest t }

  -- a leg's letter is no side's
  side-none : (x : Leg) (rest : List ℕ) → Lies s at (leg_byte x ∷ rest) → side_field_at s at ≡ bad
  unfolding side_field_at
  side-none Stem rest t = rw (here t)
  side-none Plus rest t = rw (here t)
  side-none Minus rest t = rw (here t)

  leg-cases : (x : Leg) (c : ℕ) (p q u : Bool) → eqb (get_or s at 0) (leg_byte Stem) ≡ p → eqb (get_or s at 0) (leg_byte Plus) ≡ q → eqb (get_or s at 0) (leg_byte Minus) ≡ u
      → cond p (got Stem (at + 1)) (cond q (got Plus (at + 1)) (cond u (got Minus (at + 1)) bad)) ≡ got x c → drop at s ≡ leg_byte x ∷ drop c s
  leg-cases x c true q u hp hq hu e =
      let a : Stem ≡ x = cc in
      let b : at + 1 ≡ c = cc in
      rw (← a, ← b) (stands s at (leg_byte Stem) (omega arith) (eqb-true (get_or s at 0) (leg_byte Stem) hp))
  leg-cases x c false true u hp hq hu e =
      let a : Plus ≡ x = cc in
      let b : at + 1 ≡ c = cc in
      rw (← a, ← b) (stands s at (leg_byte Plus) (omega arith) (eqb-true (get_or s at 0) (leg_byte Plus) hq))
  leg-cases x c false false true hp hq hu e =
      let a : Minus ≡ x = cc in
      let b : at + 1 ≡ c = cc in
      rw (← a, ← b) (stands s at (leg_byte Minus) (omega arith) (eqb-true (get_or s at 0) (leg_byte Minus) hu))
  leg-cases x c false false false hp hq hu e = bad-got refl e

  leg-sound : (x : Leg) (c : ℕ) → leg_field_at s at ≡ got x c → drop at s ≡ leg_byte x ∷ drop c s
  unfolding leg_field_at
  leg-sound x c e = leg-cases x c (eqb (get_or s at 0) (leg_byte Stem)) (eqb (get_or s at 0) (leg_byte Plus)) (eqb (get_or s at 0) (leg_byte Minus)) refl refl refl e

  leg-complete : (x : Leg) (rest : List ℕ) → Lies s at (leg_byte x ∷ rest) → Reads s (leg_field_at s at) x rest
  unfolding leg_field_at
  leg-complete Stem rest t = record { cursor = at + 1; is = rw (here t); left = past (leg_byte Stem ∷ []) rest t }
  leg-complete Plus rest t = record { cursor = at + 1; is = rw (here t); left = past (leg_byte Plus ∷ []) rest t }
  leg-complete Minus rest t = record { cursor = at + 1; is = rw (here t); left = past (leg_byte Minus ∷ []) rest t }

-- ENDS
pub record WrittenEnd (s : List ℕ) (at : ℕ) (e : EndField) (c : ℕ) : Type 0 where
  pub small : WritableEnd e
  pub text : drop at s ≡ end_field e ++ drop c s

module _ (s : List ℕ) (at : ℕ) where
  mark-cases : (n b : ℕ) (e : EndField) (c : ℕ) (g : Got Side) → Written s 2 at n b → side_field_at s b ≡ g → mark_at s n b g ≡ got e c → WrittenEnd s at e c
  mark-cases n b e c (got x c') w h k =
      carry (WrittenEnd s at) k (record { small = w.small; text = w.text ∙ rw (side-sound s b x c' h, append_assoc) })
  mark-cases n b e c bad w h k =
      let t = steps (leg_field_at s b) (λ leg c. got (port n leg) c) e c k in
      carry (WrittenEnd s at) t.second
      (record { small = w.small; text = w.text ∙ rw (leg-sound s b t.value t.cursor t.first, append_assoc) })

  pub end-sound : (e : EndField) (c : ℕ) → end_field_at s at ≡ got e c → WrittenEnd s at e c
  unfolding end_field_at
  end-sound e c k =
      let t = steps (case_number_at s at) (λ n c. mark_at s n c (side_field_at s c)) e c k in
      mark-cases t.value t.cursor e c (side_field_at s t.cursor) (number-sound s at 2 t.value t.cursor (omega arith) t.first) refl t.second

  pub digit-not-side : (x : Side) → is_digit (side_byte x) ≡ false
  unfolding is_digit
  digit-not-side Up = refl
  digit-not-side Down = refl

  digit-not-leg : (x : Leg) → is_digit (leg_byte x) ≡ false
  unfolding is_digit
  digit-not-leg Stem = refl
  digit-not-leg Plus = refl
  digit-not-leg Minus = refl

  mark-side : (n b : ℕ) (x : Side) (rest : List ℕ) → Reads s (side_field_at s b) x rest → Reads s (mark_at s n b (side_field_at s b)) (section n x) rest
  mark-side n b x rest r = record { cursor = r.cursor; is = rw r.is; left = r.left }

  mark-leg : (n b : ℕ) (x : Leg) (rest : List ℕ) → side_field_at s b ≡ bad → Reads s (leg_field_at s b) x rest → Reads s (mark_at s n b (side_field_at s b)) (port n x) rest
  mark-leg n b x rest h r = record { cursor = r.cursor; is = rw (h, r.is); left = r.left }

  pub end-complete : (e : EndField) (rest : List ℕ) → WritableEnd e → Lies s at (end_field e ++ rest) → Reads s (end_field_at s at) e rest
  unfolding end_field_at
  end-complete (section n x) rest h t =
      let r = number-complete s (side_byte x ∷ rest) (digit-not-side x) 2 n at (omega arith) h (rw append_assoc at t) in
      go_on (λ n c. mark_at s n c (side_field_at s c)) r (λ c t. mark-side n c x rest (side-complete s c x rest t))
  end-complete (port n x) rest h t =
      let r = number-complete s (leg_byte x ∷ rest) (digit-not-leg x) 2 n at (omega arith) h (rw append_assoc at t) in
      go_on (λ n c. mark_at s n c (side_field_at s c)) r (λ c t. mark-leg n c x rest (side-none s c x rest t) (leg-complete s c x rest t))
