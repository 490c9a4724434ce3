-- The table of a railway: each byte is what the record gives, as code writes it and as code reads it again. Writing goes byte after byte;
-- reading finds the byte of a train and a section by its index, which determines them. Assumes nothing.
use mathlib.Core.Path.{◌≡◌, refl, sym, ◌∙◌, ap}
use mathlib.Core.Logic.{inl, inr}
use mathlib.Core.Bool.{Bool}
use mathlib.Core.List.{List}
use Prim.Native.Nat.{ℕ, ◌+◌, ◌-◌, ◌*◌, ◌/◌, ◌%◌, ◌≤◌, ◌<◌}
use native.Mathlib.Omega.{arith}
use lib.Dec.{eqb}
use lib.ListN.{length, get_or, set, replicate, length-replicate}
use borrow.Author.Tests.{lt-ltb, le-ltb, eqb-false, eq-eqb, ne_eqb}
use Rattle.laws.proofs.Filling.{FilledTo, fill-next}
use Rattle.laws.proofs.Bools.{bool?, some-none}
use Rattle.railway.specs.declared.Train.{Train}
use Rattle.railway.specs.declared.Railway.{Railway}
use Rattle.railway.specs.declared.Refusal.{Refusal}
use Rattle.railway.specs.CaseAnswer.{CaseAnswer, Accepted, Refused}
use Rattle.railway.specs.Bounds.{most_sections, most_trains}
use Rattle.railway.specs.Ends.{side_index}
use Rattle.railway.specs.Record.{no_train, flag_at, has_signal, train_of, weight_of}
use Rattle.railway.proofs.Ends.{side-small, section-index}
use Rattle.railway.proofs.Lookups.{signal-there}
use Rattle.railway.proofs.Rows.{accepted-facts}
use Rattle.railway_acceptance.specs.Answers.{Judged}
use Rattle.railway_acceptance.proofs.Answers.{judged-refused, judged-accepted}
use Rattle.railway_compiled.specs.Table.{stand_bytes, count_bytes, table_bytes, stand_byte, end_on, stand_on}
use Rattle.railway_compiled.specs.Table.{count_byte, roster_byte, compiled_byte, Compiled, CompilePost}
use Rattle.railway_compiled.specs.Table.{FilledBefore}

-- WRITING. The byte at an index
module _ (r : Railway) where
  module _ (i x : ℕ) where
    pub for-count : stand_bytes ≤ i → i < count_bytes → x ≡ count_byte r (i - stand_bytes) → x ≡ compiled_byte r i
    unfolding compiled_byte
    for-count l m h = rw (le-ltb i stand_bytes l, lt-ltb i count_bytes m) h

    pub for-roster : stand_bytes ≤ i → count_bytes ≤ i → x ≡ roster_byte r ((i - count_bytes) / 4) ((i - count_bytes) % 4) → x ≡ compiled_byte r i
    unfolding compiled_byte
    for-roster l m h = rw (le-ltb i stand_bytes l, le-ltb i count_bytes m) h

  stand-at : (t x : ℕ) → t < most_trains → x < most_sections → compiled_byte r (48 * t + x) ≡ stand_on r t x
  unfolding compiled_byte
  stand-at t x lt lx =
      let a : (48 * t + x) / most_sections ≡ t = omega arith in
      let b : (48 * t + x) % most_sections ≡ x = omega arith in
      rw (lt-ltb (48 * t + x) stand_bytes (omega arith), a, b)

-- FILLING, section after section
module _ (r : Railway) (t x side : ℕ) (lt : t < most_trains) (lx : x < most_sections) (sided : side ≡ side_index (train_of r t).heading) where
  signal-ahead : flag_at r (2 * x + side) ≡ has_signal r (end_on r t x)
  signal-ahead =
      signal-there r (end_on r t x) (2 * x + side) (section-index (end_on r t x) (record { 0 = x }) (train_of r t).heading side refl lx sided)
      (omega (arith, sided, side-small (train_of r t).heading))

  pub stands-next : (table : List ℕ) (signal : Bool) (home b : ℕ) → home ≡ (train_of r t).destination.0 → signal ≡ flag_at r (2 * x + side) → b ≡ stand_byte (eqb x home) signal
      → FilledTo (compiled_byte r) table_bytes table (48 * t + x) → FilledTo (compiled_byte r) table_bytes (set table (48 * t + x) b) (48 * t + (x + 1))
  stands-next table signal home b d s e h =
      filled_at (48 * t + x + 1) (48 * t + (x + 1)) (omega arith) (fill-next (compiled_byte r) table_bytes table (48 * t + x) h b (omega arith) (byte ∙ sym (stand-at r t x lt lx)))
    where
      byte : b ≡ stand_on r t x
      byte =
          e
          ∙ ap (stand_byte (eqb x home)) (s ∙ signal-ahead)
          ∙ ap (λ (y : ℕ). stand_byte (eqb x y) (has_signal r (end_on r t x))) d
          ∙ rw (lt-ltb t most_trains lt, lt-ltb x most_sections lx)

      filled_at : {f : ℕ → ℕ} {n : ℕ} {list : List ℕ} (i j : ℕ) → i ≡ j → FilledTo f n list i → FilledTo f n list j
      filled_at i j e h = rw e at h

module _ (r : Railway) (t : ℕ) (table : List ℕ) where
  pub filled_none : table ≡ replicate table_bytes 0 → FilledBefore r 0 table
  filled_none e = record { sized = ap length e ∙ length-replicate {A = ℕ} table_bytes 0; below = λ j l. absurd (omega arith) }

  pub filled-first : t < most_trains → FilledBefore r t table → FilledTo (compiled_byte r) table_bytes table (48 * t + 0)
  filled-first l h = record { within = omega arith; sized = h.sized; below = λ j m. h.below j (omega arith) }

  pub filled-last : (x : ℕ) → most_sections ≤ x → FilledTo (compiled_byte r) table_bytes table (48 * t + x) → FilledBefore r (t + 1) table
  filled-last x l h = record { sized = h.sized; below = λ j m. h.below j (omega arith) }

  pub filled-stands : t ≤ most_trains → most_trains ≤ t → FilledBefore r t table → FilledTo (compiled_byte r) table_bytes table stand_bytes
  filled-stands l g h = record { within = omega arith; sized = h.sized; below = λ j m. h.below j (omega arith) }

-- READING
module _ (r : Railway) (table : List ℕ) (h : Compiled r table) where
  count-there : (i : ℕ) → i < 3 → get_or table (192 + i) 0 ≡ count_byte r i
  unfolding compiled_byte
  count-there i l =
      let d : 192 + i - stand_bytes ≡ i = omega arith in
      h.bytes (192 + i) (omega arith) ∙ rw (le-ltb (192 + i) stand_bytes (omega arith), lt-ltb (192 + i) count_bytes (omega arith), d)

  pub roster-there : (i t : ℕ) → i < 4 → t < most_trains → get_or table (195 + 4 * i + t) 0 ≡ roster_byte r i t
  unfolding compiled_byte
  roster-there i t l m =
      let d : (195 + 4 * i + t - count_bytes) / most_trains ≡ i = omega arith in
      let n : (195 + 4 * i + t - count_bytes) % most_trains ≡ t = omega arith in
      h.bytes (195 + 4 * i + t) (omega arith) ∙ rw (le-ltb (195 + 4 * i + t) stand_bytes (omega arith), le-ltb (195 + 4 * i + t) count_bytes (omega arith), d, n)

  pub stand-there : (t x : ℕ) → t < most_trains → x < most_sections → get_or table (48 * t + x) 0 ≡ stand_on r t x
  stand-there t x lt lx = h.bytes (48 * t + x) (omega arith) ∙ stand-at r t x lt lx

  -- the counts, by name
  pub sections-there : get_or table 192 0 ≡ r.sections
  unfolding count_byte
  sections-there = count-there 0 (omega arith)

  pub points-there : get_or table 193 0 ≡ r.points
  unfolding count_byte
  points-there = count-there 1 (omega arith)

  pub trains-there : get_or table 194 0 ≡ r.trains
  unfolding count_byte
  trains-there = count-there 2 (omega arith)

-- a train that is not there
module _ (r : Railway) (table : List ℕ) (i t : ℕ) (h : Compiled r table) (past : most_trains ≤ t) where
  no-train : train_of r t ≡ no_train
  unfolding train_of
  no-train = rw (le-ltb t r.trains (omega (arith, (accepted-facts r h.accepted).bounds.few-trains)))

  pub no-heading : i ≡ 0 → 1 ≡ roster_byte r i t
  unfolding roster_byte
  no-heading e = rw (eq-eqb i 0 e, no-train)

  pub no-weight : i ≡ 3 → 1 ≡ roster_byte r i t
  unfolding roster_byte weight_of
  no-weight e = rw e (ap (λ (x : Train). x.weight) (sym no-train))

  pub no-section : i < 4 → (i ≡ 0 → ⊥) → (i ≡ 3 → ⊥) → 0 ≡ roster_byte r i t
  unfolding roster_byte
  no-section l p q = elim (bool? (eqb i 1)) [
    | inl e ↦ rw (ne_eqb i 0 p, e, no-train)
    | inr e ↦ let n = eqb-false i 1 e in rw (ne_eqb i 0 p, e, eq-eqb i 2 (omega arith), no-train)
  ]

-- THE ANSWER, the table filled byte after byte
module _ (r : Railway) where
  module _ (t : CaseAnswer) (judged : Judged r t) where
    pub post-refused : (f : Refusal) → t ≡ Refused f → CompilePost r (record { tested = t; table = replicate table_bytes 0 })
    post-refused f e = record { judged = judged; accepted = λ a. some-none (judged-refused r judged e) a; refused = λ g x. refl }

    pub post-accepted : (table : List ℕ) (i : ℕ) → t ≡ Accepted → FilledTo (compiled_byte r) table_bytes table i → table_bytes ≤ i → CompilePost r (record { tested = t; table = table })
    post-accepted table i e h l =
        record {
          judged = judged;
          accepted = λ x. record { accepted = x; bytes = λ j m. h.below j (omega arith) };
          refused = λ f x. some-none x (judged-accepted r judged e);
        }
