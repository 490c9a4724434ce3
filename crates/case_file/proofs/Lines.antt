-- Lines of a case text: each is read where it is written and written where it is read, field after field.
-- Assumes nothing.
use Prim.Native.Nat.{ℕ, ◌+◌, ◌<◌}
use mathlib.Core.Path.{◌≡◌, refl, ◌∙◌}
use mathlib.Core.Bool.{Bool, true, false, cond}
use mathlib.Core.List.{List, [], ◌∷◌, ◌++◌, append_assoc}
use mathlib.Core.Option.{Option, none, some}
use native.Mathlib.Omega.{arith}
use lib.Dec.{eqb}
use lib.ListN.{get_or, drop}
use borrow.Author.Tests.{eqb-true, eq-eqb}
use Rattle.text.specs.Text.{byte, decimal, line}
use Rattle.text.specs.Reading.{Got, bad, got, then, is_digit, byte_at}
use Rattle.text.proofs.Reading.{bad-got, carry, Lies, Reads, steps, on, go_on, stop-here, here, past, stands, byte-sound, byte-complete, Written, number-sound, number-complete}
use Rattle.railway.specs.declared.Side.{Side}
use Rattle.case_file.specs.Form.{EndField, JoinLine, SignalLine, TrainLine, side_byte, weight_field, point_line}
use Rattle.case_file.specs.Form.{join_line, signal_line, closed_line, train_line, Writable, WritableJoin}
use Rattle.case_file.specs.Form.{WritableSignal, WritableWeight, WritableTrain}
use Rattle.case_file.specs.Reading.{Counts, case_number_at, side_field_at, end_field_at, header_at, point_line_at, join_line_at, signal_line_at, closed_line_at, weight_field_at, train_line_at}
use Rattle.case_file.proofs.Fields.{side-sound, side-complete, digit-not-side, WrittenEnd, end-sound, end-complete}

-- a line that is read: its numbers can be written, and it stands there as it is spelled
pub record WrittenLine {A : Type 0} (good : A → Type 0) (spelling : A → List ℕ) (s : List ℕ) (at : ℕ) (x : A) (c : ℕ) : Type 0 where
  pub small : good x
  pub text : drop at s ≡ spelling x ++ drop c s

pub tab-stops : is_digit 9 ≡ false
unfolding is_digit
tab-stops = refl

pub end-stops : is_digit 10 ≡ false
unfolding is_digit
end-stops = refl

abbrev pub WritableCounts : Counts → Type 0
WritableCounts h = (h.sections < 1000) × (h.points < 1000) × (h.trains < 1000)

abbrev pub counts_line : Counts → List ℕ
counts_line h = line ((byte "H" ∷ []) ∷ decimal h.sections ∷ decimal h.points ∷ decimal h.trains ∷ [])

-- the number in a line is the one that is due
check : {A : Type 0} (m n : ℕ) (p : Bool) {x y : A} {b c : ℕ} → eqb m n ≡ p → cond p (got x b) bad ≡ got y c → (m ≡ n) × (got x b ≡ got y c)
check m n true h e = (eqb-true m n h, e)
check m n false h e = bad-got refl e

-- THE WEIGHT that a line may end with: a tab and its number, or nothing
abbrev pub weight_bytes : Option ℕ → List ℕ
weight_bytes none = []
weight_bytes (some w) = 9 ∷ decimal w

pub weight-last : (f : List ℕ) (w : Option ℕ) → line (f ∷ weight_field w) ≡ f ++ (weight_bytes w ++ (10 ∷ []))
unfolding line
weight-last f none = refl
weight-last f (some w) = refl

weight-stops : (w : Option ℕ) (rest : List ℕ) → is_digit (get_or (weight_bytes w ++ (10 ∷ rest)) 0 0) ≡ false
weight-stops none rest = end-stops
weight-stops (some w) rest = tab-stops

pub record WrittenWeight (s : List ℕ) (at : ℕ) (w : Option ℕ) (c : ℕ) : Type 0 where
  pub small : WritableWeight w
  pub text : drop at s ≡ weight_bytes w ++ drop c s

module _ (s : List ℕ) (at : ℕ) where
  weight-cases : (w : Option ℕ) (c : ℕ) (p : Bool) → eqb (get_or s at 0) 9 ≡ p
      → cond p (then (case_number_at s (at + 1)) (λ w c. got (some w) c)) (got none at) ≡ got w c → WrittenWeight s at w c
  weight-cases w c true h e =
      on (case_number_at s (at + 1)) _ w c e (λ n d f k.
      let a = number-sound s (at + 1) 2 n d (omega arith) f in
      carry (WrittenWeight s at) k (record { small = a.small; text = stands s at 9 (omega arith) (eqb-true (get_or s at 0) 9 h) ∙ rw a.text }))
  weight-cases w c false h e = carry (WrittenWeight s at) e (record { small = tt; text = refl })

  weight-sound : (w : Option ℕ) (c : ℕ) → weight_field_at s at ≡ got w c → WrittenWeight s at w c
  unfolding weight_field_at
  weight-sound w c e = weight-cases w c (eqb (get_or s at 0) 9) refl e

  weight-complete : (w : Option ℕ) (rest : List ℕ) → WritableWeight w → Lies s at (weight_bytes w ++ (10 ∷ rest)) → Reads s (weight_field_at s at) w (10 ∷ rest)
  unfolding weight_field_at
  weight-complete none rest h t = rw (here t) (stop-here t)
  weight-complete (some w) rest h t =
      rw (here t)
      (go_on _ (number-complete s (10 ∷ rest) end-stops 2 w (at + 1) (omega arith) h (past (9 ∷ []) _ t)) (λ c u. stop-here u))

-- one step of a line that was read
module _ {B : Type 0} (s : List ℕ) (at : ℕ) (y : B) (c : ℕ) {P : Type 0} where
  pub byte-on : (b : ℕ) (k : ℕ → ℕ → Got B) → 0 < b → then (byte_at s b at) k ≡ got y c
      → ((x d : ℕ) → drop at s ≡ b ∷ drop d s → k x d ≡ got y c → P) → P
  byte-on b k pos e f =
      let t = steps (byte_at s b at) k y c e in
      f t.value t.cursor (byte-sound s b at t.value t.cursor pos t.first) t.second

  pub number-on : (k : ℕ → ℕ → Got B) → then (case_number_at s at) k ≡ got y c → ((n d : ℕ) → Written s 2 at n d → k n d ≡ got y c → P) → P
  number-on k e f =
      let t = steps (case_number_at s at) k y c e in
      f t.value t.cursor (number-sound s at 2 t.value t.cursor (omega arith) t.first) t.second

  pub side-on : (k : Side → ℕ → Got B) → then (side_field_at s at) k ≡ got y c
      → ((x : Side) (d : ℕ) → drop at s ≡ side_byte x ∷ drop d s → k x d ≡ got y c → P) → P
  side-on k e f =
      let t = steps (side_field_at s at) k y c e in
      f t.value t.cursor (side-sound s at t.value t.cursor t.first) t.second

  pub end-on : (k : EndField → ℕ → Got B) → then (end_field_at s at) k ≡ got y c
      → ((x : EndField) (d : ℕ) → WrittenEnd s at x d → k x d ≡ got y c → P) → P
  end-on k e f =
      let t = steps (end_field_at s at) k y c e in
      f t.value t.cursor (end-sound s at t.value t.cursor t.first) t.second

module _ (s : List ℕ) (at : ℕ) where
  pub join-sound : (j : JoinLine) (c : ℕ) → join_line_at s at ≡ got j c → WrittenLine WritableJoin join_line s at j c
  unfolding join_line_at line
  join-sound j c e =
      byte-on s at j c (byte "J") _ (omega arith) e (λ x1 c1 e1 k1.
      byte-on s c1 j c 9 _ (omega arith) k1 (λ x2 c2 e2 k2.
      end-on s c2 j c _ k2 (λ one c3 a k3.
      byte-on s c3 j c 9 _ (omega arith) k3 (λ x4 c4 e4 k4.
      end-on s c4 j c _ k4 (λ other c5 b k5.
      byte-on s c5 j c 10 _ (omega arith) k5 (λ x6 c6 e6 k6.
      carry (WrittenLine WritableJoin join_line s at) k6
      (record { small = (a.small, b.small); text = simp (e1, e2, a.text, e4, b.text, e6, append_assoc) })))))))

  pub join-complete : (j : JoinLine) (rest : List ℕ) → WritableJoin j → Lies s at (join_line j ++ rest) → Reads s (join_line_at s at) j rest
  unfolding join_line_at line
  join-complete j rest h t =
      go_on _ (byte-complete s (byte "J") at _ (simp append_assoc at t)) (λ c1 t1.
      go_on _ (byte-complete s 9 c1 _ t1) (λ c2 t2.
      go_on _ (end-complete s c2 j.one _ h.0 t2) (λ c3 t3.
      go_on _ (byte-complete s 9 c3 _ t3) (λ c4 t4.
      go_on _ (end-complete s c4 j.other _ h.1 t4) (λ c5 t5.
      go_on _ (byte-complete s 10 c5 _ t5) (λ c6 t6. stop-here t6))))))

  pub signal-sound : (g : SignalLine) (c : ℕ) → signal_line_at s at ≡ got g c → WrittenLine WritableSignal signal_line s at g c
  unfolding signal_line_at line
  signal-sound g c e =
      byte-on s at g c (byte "G") _ (omega arith) e (λ x1 c1 e1 k1.
      byte-on s c1 g c 9 _ (omega arith) k1 (λ x2 c2 e2 k2.
      number-on s c2 g c _ k2 (λ n c3 a k3.
      side-on s c3 g c _ k3 (λ side c4 e4 k4.
      byte-on s c4 g c 10 _ (omega arith) k4 (λ x5 c5 e5 k5.
      carry (WrittenLine WritableSignal signal_line s at) k5
      (record { small = a.small; text = simp (e1, e2, a.text, e4, e5, append_assoc) }))))))

  pub signal-complete : (g : SignalLine) (rest : List ℕ) → WritableSignal g → Lies s at (signal_line g ++ rest) → Reads s (signal_line_at s at) g rest
  unfolding signal_line_at line
  signal-complete g rest h t =
      go_on _ (byte-complete s (byte "G") at _ (simp append_assoc at t)) (λ c1 t1.
      go_on _ (byte-complete s 9 c1 _ t1) (λ c2 t2.
      go_on _ (number-complete s _ (digit-not-side s at g.side) 2 g.number c2 (omega arith) h t2) (λ c3 t3.
      go_on _ (side-complete s c3 g.side _ t3) (λ c4 t4.
      go_on _ (byte-complete s 10 c4 _ t4) (λ c5 t5. stop-here t5)))))

  pub closed-sound : (n c : ℕ) → closed_line_at s at ≡ got n c → WrittenLine Writable closed_line s at n c
  unfolding closed_line_at line
  closed-sound n c e =
      byte-on s at n c (byte "X") _ (omega arith) e (λ x1 c1 e1 k1.
      byte-on s c1 n c 9 _ (omega arith) k1 (λ x2 c2 e2 k2.
      number-on s c2 n c _ k2 (λ m c3 a k3.
      byte-on s c3 n c 10 _ (omega arith) k3 (λ x4 c4 e4 k4.
      carry (WrittenLine Writable closed_line s at) k4
      (record { small = a.small; text = simp (e1, e2, a.text, e4, append_assoc) })))))

  pub closed-complete : (n : ℕ) (rest : List ℕ) → Writable n → Lies s at (closed_line n ++ rest) → Reads s (closed_line_at s at) n rest
  unfolding closed_line_at line
  closed-complete n rest h t =
      go_on _ (byte-complete s (byte "X") at _ (simp append_assoc at t)) (λ c1 t1.
      go_on _ (byte-complete s 9 c1 _ t1) (λ c2 t2.
      go_on _ (number-complete s _ end-stops 2 n c2 (omega arith) h t2) (λ c3 t3.
      go_on _ (byte-complete s 10 c3 _ t3) (λ c4 t4. stop-here t4))))

  pub header-sound : (h : Counts) (c : ℕ) → header_at s at ≡ got h c → WrittenLine WritableCounts counts_line s at h c
  unfolding header_at line
  header-sound h c e =
      byte-on s at h c (byte "H") _ (omega arith) e (λ x1 c1 e1 k1.
      byte-on s c1 h c 9 _ (omega arith) k1 (λ x2 c2 e2 k2.
      number-on s c2 h c _ k2 (λ n c3 a k3.
      byte-on s c3 h c 9 _ (omega arith) k3 (λ x4 c4 e4 k4.
      number-on s c4 h c _ k4 (λ m c5 b k5.
      byte-on s c5 h c 9 _ (omega arith) k5 (λ x6 c6 e6 k6.
      number-on s c6 h c _ k6 (λ l c7 d k7.
      byte-on s c7 h c 10 _ (omega arith) k7 (λ x8 c8 e8 k8.
      carry (WrittenLine WritableCounts counts_line s at) k8
      (record { small = (a.small, b.small, d.small); text = simp (e1, e2, a.text, e4, b.text, e6, d.text, e8, append_assoc) })))))))))

  pub header-complete : (h : Counts) (rest : List ℕ) → WritableCounts h → Lies s at (counts_line h ++ rest) → Reads s (header_at s at) h rest
  unfolding header_at line
  header-complete h rest w t =
      go_on _ (byte-complete s (byte "H") at _ (simp append_assoc at t)) (λ c1 t1.
      go_on _ (byte-complete s 9 c1 _ t1) (λ c2 t2.
      go_on _ (number-complete s _ tab-stops 2 h.sections c2 (omega arith) w.0 t2) (λ c3 t3.
      go_on _ (byte-complete s 9 c3 _ t3) (λ c4 t4.
      go_on _ (number-complete s _ tab-stops 2 h.points c4 (omega arith) w.1 t4) (λ c5 t5.
      go_on _ (byte-complete s 9 c5 _ t5) (λ c6 t6.
      go_on _ (number-complete s _ end-stops 2 h.trains c6 (omega arith) w.2 t6) (λ c7 t7.
      go_on _ (byte-complete s 10 c7 _ t7) (λ c8 t8. stop-here t8))))))))

  pub point-sound : (n : ℕ) (x : Side) (c : ℕ) → point_line_at s n at ≡ got x c → WrittenLine (λ x. n < 1000) (point_line n) s at x c
  unfolding point_line_at line
  point-sound n x c e =
      byte-on s at x c (byte "P") _ (omega arith) e (λ x1 c1 e1 k1.
      byte-on s c1 x c 9 _ (omega arith) k1 (λ x2 c2 e2 k2.
      number-on s c2 x c _ k2 (λ m c3 a k3.
      byte-on s c3 x c 9 _ (omega arith) k3 (λ x4 c4 e4 k4.
      side-on s c4 x c _ k4 (λ side c5 e5 k5.
      byte-on s c5 x c 10 _ (omega arith) k5 (λ x6 c6 e6 k6.
      let m = check m n (eqb m n) refl k6 in
      carry (WrittenLine (λ x. n < 1000) (point_line n) s at) m.1
      (record { small = rw m.0 at a.small; text = simp (e1, e2, a.text, e4, e5, e6, m.0, append_assoc) })))))))

  pub point-complete : (n : ℕ) (x : Side) (rest : List ℕ) → n < 1000 → Lies s at (point_line n x ++ rest) → Reads s (point_line_at s n at) x rest
  unfolding point_line_at line
  point-complete n x rest h t =
      go_on _ (byte-complete s (byte "P") at _ (simp append_assoc at t)) (λ c1 t1.
      go_on _ (byte-complete s 9 c1 _ t1) (λ c2 t2.
      go_on _ (number-complete s _ tab-stops 2 n c2 (omega arith) h t2) (λ c3 t3.
      go_on _ (byte-complete s 9 c3 _ t3) (λ c4 t4.
      go_on _ (side-complete s c4 x _ t4) (λ c5 t5.
      go_on _ (byte-complete s 10 c5 _ t5) (λ c6 t6. rw (eq-eqb n n refl) (stop-here t6)))))))

  pub train-sound : (n : ℕ) (x : TrainLine) (c : ℕ) → train_line_at s n at ≡ got x c → WrittenLine (λ x. WritableTrain x × (n < 1000)) (train_line n) s at x c
  unfolding train_line_at line
  train-sound n x c e =
      byte-on s at x c (byte "T") _ (omega arith) e (λ x1 c1 e1 k1.
      byte-on s c1 x c 9 _ (omega arith) k1 (λ x2 c2 e2 k2.
      number-on s c2 x c _ k2 (λ m c3 a k3.
      byte-on s c3 x c 9 _ (omega arith) k3 (λ x4 c4 e4 k4.
      side-on s c4 x c _ k4 (λ side c5 e5 k5.
      byte-on s c5 x c 9 _ (omega arith) k5 (λ x6 c6 e6 k6.
      number-on s c6 x c _ k6 (λ start c7 b k7.
      byte-on s c7 x c 9 _ (omega arith) k7 (λ x8 c8 e8 k8.
      number-on s c8 x c _ k8 (λ destination c9 d k9.
      on (weight_field_at s c9) _ x c k9 (λ weight c10 f10 k10.
      byte-on s c10 x c 10 _ (omega arith) k10 (λ x11 c11 e11 k11.
      let m = check m n (eqb m n) refl k11 in
      let w = weight-sound s c9 weight c10 f10 in
      carry (WrittenLine (λ x. WritableTrain x × (n < 1000)) (train_line n) s at) m.1
      (record {
        small = ((omega (arith, b.small), omega (arith, d.small), w.small), rw m.0 at a.small);
        text = simp (e1, e2, a.text, e4, e5, e6, b.text, e8, d.text, w.text, e11, m.0, weight-last, append_assoc);
      }))))))))))))

  pub train-complete : (n : ℕ) (x : TrainLine) (rest : List ℕ) → n < 1000 → WritableTrain x → Lies s at (train_line n x ++ rest) → Reads s (train_line_at s n at) x rest
  unfolding train_line_at line
  train-complete n x rest h w t =
      go_on _ (byte-complete s (byte "T") at _ (simp (weight-last, append_assoc) at t)) (λ c1 t1.
      go_on _ (byte-complete s 9 c1 _ t1) (λ c2 t2.
      go_on _ (number-complete s _ tab-stops 2 n c2 (omega arith) h t2) (λ c3 t3.
      go_on _ (byte-complete s 9 c3 _ t3) (λ c4 t4.
      go_on _ (side-complete s c4 x.heading _ t4) (λ c5 t5.
      go_on _ (byte-complete s 9 c5 _ t5) (λ c6 t6.
      go_on _ (number-complete s _ tab-stops 2 _ c6 (omega arith) (omega (arith, w.0)) t6) (λ c7 t7.
      go_on _ (byte-complete s 9 c7 _ t7) (λ c8 t8.
      go_on _ (number-complete s _ (weight-stops x.weight rest) 2 _ c8 (omega arith) (omega (arith, w.1)) t8) (λ c9 t9.
      go_on _ (weight-complete s c9 x.weight rest w.2 t9) (λ c10 t10.
      go_on _ (byte-complete s 10 c10 _ t10) (λ c11 t11. rw (eq-eqb n n refl) (stop-here t11))))))))))))
