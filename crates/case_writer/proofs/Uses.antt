-- What the statements on the writer are for: facts of Yard A as it is written, drawn from them alone. Nothing rests on these; they hold the
-- statements fast, for without one, or with a weaker one in its place, its fact is lost. `w` is what a call answers, `after` the buffer that it leaves.
-- Assumes nothing.
use mathlib.Core.Path.{◌≡◌, sym, ◌∙◌, ap}
use mathlib.Core.Bool.{true, false}
use mathlib.Core.List.{List}
use mathlib.Core.Option.{some}
use Prim.Native.Nat.{ℕ, ◌≤◌}
use native.Mathlib.Omega.{arith}
use lib.ListN.{length, take, drop, replicate, length-replicate}
use Rattle.text.specs.Text.{bytes}
use Rattle.railway.specs.declared.Leg.TheVariants.{Minus}
use Rattle.railway.specs.Joined.{With}
use Rattle.railway.specs.declared.Train.{Train}
use Rattle.railway.specs.declared.Railway.{Railway}
use Rattle.railway.specs.Ends.{end_at}
use Rattle.railway.specs.Record.{joined_by, link_at, flag_at, closed_at, train_of, with_join, with_signal, with_closed, with_legs, with_train}
use Rattle.railway.specs.Yards.{port, yard_a}
use Rattle.case_file.specs.Written.{Written}
use Rattle.case_file.specs.Form.{Description}
use Rattle.case_file.specs.Writing.{written_text, written_number, written_count, WriterPost}
use Rattle.case_file.specs.YardTexts.{text_a}
use Rattle.case_file.proofs.Claims.{same-text}
use Rattle.case_file.proofs.Uses.{says-a-only, written-a, shut, written-shut, crossing, written-crossing, weighing, written-seven, written_one}
use Rattle.case_writer.specs.Claims.{ReadBack}
use Rattle.case_writer.proofs.Claims.{room-enough, bytes-read-back, refused-keeps}

text-length : length (written_text yard_a) ≡ 68
unfolding bytes
text-length = ap length written-a.0

-- WRITTEN. A buffer of 4,096 bytes has room for Yard A: 68 bytes are written.
pub bytes-written : (w : Written) (after : List ℕ) → WriterPost yard_a (replicate 4096 7) w after → written_count w ≡ some 68
bytes-written w after p =
    let l = length-replicate {A = ℕ} 4096 7 in
    room-enough yard_a (replicate 4096 7) w after p written-a.1 (omega (arith, l)) ∙ ap (λ (n : ℕ). some n) text-length

module _ (w : Written) (after : List ℕ) (p : WriterPost yard_a (replicate 4096 7) w after) where
  back : ReadBack yard_a (replicate 4096 7) after 68
  back = bytes-read-back yard_a (replicate 4096 7) w after p 68 (bytes-written w after p)

  -- They are Yard A's text, for so is written what is read back of them;
  text_in-front : take 68 after ≡ bytes text_a
  text_in-front = sym back.again ∙ sym (same-text yard_a back.railway back.same) ∙ written-a.0

  -- so a text of two trains is accepted there,
  trains-said : back.reads.description.trains ≡ 2
  trains-said = ap (λ (d : Description). d.trains) (says-a-only back.reads.description (rw (← text_in-front) back.reads.described))

  -- and its railway has a signal at 1d. The bytes behind them are as they were.
  signal-read : flag_at back.railway 0 ≡ true
  unfolding with_join with_signal with_legs with_train
  signal-read = sym (back.same.signals 0 (omega arith))

  behind-kept : drop 68 after ≡ replicate 4028 7
  behind-kept = back.behind

-- CLOSED SECTIONS. Of the yard in which 3 and 4 are closed 34 bytes are written; what is read back of them has 3 closed, and 2 not.
pub shut-written : (w : Written) (after : List ℕ) → WriterPost shut (replicate 4096 7) w after → written_count w ≡ some 34
unfolding bytes
shut-written w after p =
    let l = length-replicate {A = ℕ} 4096 7 in
    room-enough shut (replicate 4096 7) w after p written-shut.1 (omega (arith, l)) ∙ ap (λ (s : List ℕ). some (length s)) written-shut.0

closed-read : (w : Written) (after : List ℕ) (p : WriterPost shut (replicate 4096 7) w after)
    → let b = bytes-read-back shut (replicate 4096 7) w after p 34 (shut-written w after p) in
    (closed_at b.railway 2 ≡ true) × (closed_at b.railway 1 ≡ false)
unfolding with_join with_closed with_train
closed-read w after p =
    let b = bytes-read-back shut (replicate 4096 7) w after p 34 (shut-written w after p) in
    (sym (b.same.closed 2 (omega arith)), sym (b.same.closed 1 (omega arith)))

-- POINTS JOINED TO POINTS. Of the crossover 70 bytes are written; what is read back of them has 1- joined to 2-.
pub crossing-written : (w : Written) (after : List ℕ) → WriterPost crossing (replicate 4096 7) w after → written_count w ≡ some 70
unfolding bytes
crossing-written w after p =
    let l = length-replicate {A = ℕ} 4096 7 in
    room-enough crossing (replicate 4096 7) w after p written-crossing.1 (omega (arith, l)) ∙ ap (λ (s : List ℕ). some (length s)) written-crossing.0

inner-read : (w : Written) (after : List ℕ) (p : WriterPost crossing (replicate 4096 7) w after)
    → let b = bytes-read-back crossing (replicate 4096 7) w after p 70 (crossing-written w after p) in link_at b.railway 98 ≡ With (port 2 Minus)
unfolding joined_by end_at with_join with_legs with_train
inner-read w after p =
    let b = bytes-read-back crossing (replicate 4096 7) w after p 70 (crossing-written w after p) in
    sym (b.same.joins 98 (omega arith))

-- WEIGHTS. Of a yard whose train has weight 7 20 bytes are written, two more than with weight 1; what is read back of them has 7.
pub seven-written : (w : Written) (after : List ℕ) → WriterPost (weighing 7) (replicate 4096 7) w after → written_count w ≡ some 20
unfolding bytes
seven-written w after p =
    let l = length-replicate {A = ℕ} 4096 7 in
    room-enough (weighing 7) (replicate 4096 7) w after p written-seven.1 (omega (arith, l)) ∙ ap (λ (s : List ℕ). some (length s)) written-seven.0

one-omitted : (w : Written) (after : List ℕ) → WriterPost (weighing 1) (replicate 4096 7) w after → written_count w ≡ some 18
unfolding bytes
one-omitted w after p =
    let l = length-replicate {A = ℕ} 4096 7 in
    room-enough (weighing 1) (replicate 4096 7) w after p written_one.1 (omega (arith, l)) ∙ ap (λ (s : List ℕ). some (length s)) written_one.0

seven-read : (w : Written) (after : List ℕ) (p : WriterPost (weighing 7) (replicate 4096 7) w after)
    → let b = bytes-read-back (weighing 7) (replicate 4096 7) w after p 20 (seven-written w after p) in (train_of b.railway 0).weight ≡ 7
unfolding train_of with_train
seven-read w after p =
    let b = bytes-read-back (weighing 7) (replicate 4096 7) w after p 20 (seven-written w after p) in
    sym (ap (λ (t : Train). t.weight) (b.same.roster 0 (omega arith)))

-- Never are more bytes answered than a case text may have, or than the buffer has.
no_more : (r : Railway) (buffer : List ℕ) (w : Written) (after : List ℕ) → WriterPost r buffer w after → (n : ℕ) → written_count w ≡ some n
    → (n ≤ 4096) × (n ≤ length buffer)
no_more r buffer w after p n e = let b = bytes-read-back r buffer w after p n e in (b.short, b.within)

-- REFUSED. Whoever gets 9 has the buffer as it was.
space-keeps : (w : Written) (after : List ℕ) → WriterPost yard_a (replicate 67 7) w after → written_number w ≡ some 9 → after ≡ replicate 67 7
space-keeps w after p e = refused-keeps yard_a (replicate 67 7) w after p 9 e
