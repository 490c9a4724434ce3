-- The lines of a case file as code writes them: each line is its fields, with the byte behind each, one behind the other; and a piece of a part is
-- the line that stands for a point, an end, a section or a train, or nothing.
-- Assumes nothing.
use Prim.Native.Nat.{ℕ, suc, ◌+◌, ◌<◌, ◌≤◌}
use mathlib.Core.Path.{◌≡◌}
use mathlib.Core.Bool.{Bool, true, false}
use mathlib.Core.List.{List, [], ◌∷◌, ◌++◌}
use native.Mathlib.Numerals.{add-one}
use borrow.Author.Tests.{lt-ltb, le-ltb, eq-eqb, ne_eqb}
use Rattle.text.specs.Text.{byte, tab, line_end, decimal, line}
use Rattle.text.specs.Appending.{Appended}
use Rattle.text.proofs.Appending.{append-none, append-then, line-more, line-last}
use Rattle.railway.specs.declared.Side.{Side}
use Rattle.railway.specs.declared.Leg.{Leg}
use Rattle.railway.specs.declared.SectionNo.{SectionNo}
use Rattle.railway.specs.declared.PointNo.{PointNo}
use Rattle.railway.specs.declared.End.{End}
use Rattle.railway.specs.declared.End.TheVariants.{Section, Port}
use Rattle.railway.specs.Joined.{Joined, Nothing, With}
use Rattle.railway.specs.declared.Train.{Train}
use Rattle.railway.specs.declared.Railway.{Railway}
use Rattle.railway.specs.Ends.{end_index, end_at}
use Rattle.railway.specs.Record.{joined, has_signal, is_closed, legs_of, train_of}
use Rattle.case_file.specs.Form.{side_byte, leg_byte, end_field, weight_field, point_line, train_line}
use Rattle.case_file.specs.Recording.{field_of}
use Rattle.case_file.specs.Writing.{written_weight, line_of_train}
use Rattle.case_writer.specs.Pieces.{header_text, join_piece, signal_piece, closed_piece, point_of, join_of, signal_of, closed_of, train_at}

-- AN END and the byte behind it
module _ {o o₁ o₂ : List ℕ} {a a₁ a₂ : ℕ} (e : End) (b after : ℕ) where
  pub section-end : (n : SectionNo) (s : Side) → e ≡ Section n s → b ≡ side_byte s
      → Appended o a (decimal (n.0 + 1) ++ (b ∷ [])) o₁ a₁ → Appended o₁ a₁ (after ∷ []) o₂ a₂
      → Appended o a (end_field (field_of e) ++ (after ∷ [])) o₂ a₂
  section-end n s is by p q = rw (is, ← by, ← add-one n.0) (append-then p q)

  pub port-end : (n : PointNo) (l : Leg) → e ≡ Port n l → b ≡ leg_byte l
      → Appended o a (decimal (n.0 + 1) ++ (b ∷ [])) o₁ a₁ → Appended o₁ a₁ (after ∷ []) o₂ a₂
      → Appended o a (end_field (field_of e) ++ (after ∷ [])) o₂ a₂
  port-end n l is by p q = rw (is, ← by, ← add-one n.0) (append-then p q)

-- THE LINES
module _ {o o₁ o₂ : List ℕ} {a a₁ a₂ : ℕ} where
  pub header-line : {o₃ o₄ : List ℕ} {a₃ a₄ : ℕ} (s p k : ℕ) → Appended o a (byte "H" ∷ tab ∷ []) o₁ a₁ → Appended o₁ a₁ (decimal s ++ (tab ∷ [])) o₂ a₂
      → Appended o₂ a₂ (decimal p ++ (tab ∷ [])) o₃ a₃ → Appended o₃ a₃ (decimal k ++ (line_end ∷ [])) o₄ a₄ → Appended o a (header_text s p k) o₄ a₄
  header-line s p k h x y z =
      line-more (byte "H" ∷ []) (decimal s) (decimal p ∷ decimal k ∷ []) h
      (line-more (decimal s) (decimal p) (decimal k ∷ []) x
      (line-more (decimal p) (decimal k) [] y (line-last (decimal k) z)))

  pub point-line : {o₃ : List ℕ} {a₃ : ℕ} (i : ℕ) (legs : Side) (b : ℕ) → b ≡ side_byte legs → Appended o a (byte "P" ∷ tab ∷ []) o₁ a₁
      → Appended o₁ a₁ (decimal (i + 1) ++ (tab ∷ [])) o₂ a₂ → Appended o₂ a₂ (b ∷ line_end ∷ []) o₃ a₃ → Appended o a (point_line (suc i) legs) o₃ a₃
  point-line i legs b is h x y =
      rw (← is, ← add-one i)
      (line-more (byte "P" ∷ []) (decimal (i + 1)) ((b ∷ []) ∷ []) h (line-more (decimal (i + 1)) (b ∷ []) [] x (line-last (b ∷ []) y)))

  pub train-line : {o₃ o₄ o₅ : List ℕ} {a₃ a₄ a₅ : ℕ} (i : ℕ) (t : Train) (b : ℕ) → b ≡ side_byte t.heading → Appended o a (byte "T" ∷ tab ∷ []) o₁ a₁
      → Appended o₁ a₁ (decimal (i + 1) ++ (tab ∷ [])) o₂ a₂ → Appended o₂ a₂ (b ∷ tab ∷ []) o₃ a₃
      → Appended o₃ a₃ (decimal (t.start.0 + 1) ++ (tab ∷ [])) o₄ a₄
      → Appended o₄ a₄ (line (decimal (suc t.destination.0) ∷ weight_field (written_weight t.weight))) o₅ a₅
      → Appended o a (train_line (suc i) (line_of_train t)) o₅ a₅
  train-line i t b is h x y z w =
      let from = decimal (t.start.0 + 1) in
      let to = decimal (suc t.destination.0) in
      let weight = weight_field (written_weight t.weight) in
      rw (← is, ← add-one i, ← add-one t.start.0)
      (line-more (byte "T" ∷ []) (decimal (i + 1)) ((b ∷ []) ∷ from ∷ to ∷ weight) h
      (line-more (decimal (i + 1)) (b ∷ []) (from ∷ to ∷ weight) x
      (line-more (b ∷ []) from (to ∷ weight) y
      (line-more from to weight z w))))

-- THE END OF A T LINE, with and without a weight
module _ {o o₁ : List ℕ} {a a₁ : ℕ} (to weight : ℕ) where
  pub weight-omitted : weight ≡ 1 → Appended o a (decimal (to + 1) ++ (line_end ∷ [])) o₁ a₁
      → Appended o a (line (decimal (suc to) ∷ weight_field (written_weight weight))) o₁ a₁
  weight-omitted e p = rw (eq-eqb weight 1 e, ← add-one to) (line-last (decimal (to + 1)) p)

  pub weight-put : {o₂ : List ℕ} {a₂ : ℕ} → (weight ≡ 1 → ⊥) → Appended o a (decimal (to + 1) ++ (tab ∷ [])) o₁ a₁
      → Appended o₁ a₁ (decimal weight ++ (line_end ∷ [])) o₂ a₂
      → Appended o a (line (decimal (suc to) ∷ weight_field (written_weight weight))) o₂ a₂
  weight-put n p q = rw (ne_eqb weight 1 n, ← add-one to) (line-more (decimal (to + 1)) (decimal weight) [] p (line-last (decimal weight) q))

-- AN END among the J lines
pub join-none : (i : ℕ) (j : Joined) {o : List ℕ} {a : ℕ} → j ≡ Nothing → Appended o a (join_piece i j) o a
join-none i j {o} {a} e = rw e (append-none o a)

module _ (i : ℕ) (j : Joined) (f : End) (k : ℕ) (to : j ≡ With f) (is : k ≡ end_index f) {o : List ℕ} {a : ℕ} where
  pub join-earlier : k ≤ i → Appended o a (join_piece i j) o a
  join-earlier h = rw (to, ← is, le-ltb i k h) (append-none o a)

  pub join-line : {o₁ o₂ o₃ : List ℕ} {a₁ a₂ a₃ : ℕ} (e : End) → e ≡ end_at i → i < k → Appended o a (byte "J" ∷ tab ∷ []) o₁ a₁
      → Appended o₁ a₁ (end_field (field_of e) ++ (tab ∷ [])) o₂ a₂ → Appended o₂ a₂
      (end_field (field_of f) ++ (line_end ∷ [])) o₃ a₃ → Appended o a (join_piece i j) o₃ a₃
  join-line e at h x y z =
      let one = end_field (field_of e) in
      let other = end_field (field_of f) in
      rw (to, ← is, lt-ltb i k h, ← at) (line-more (byte "J" ∷ []) one (other ∷ []) x (line-more one other [] y (line-last other z)))

-- A SECTION END among the G lines
module _ (i : ℕ) (stands : Bool) {o : List ℕ} {a : ℕ} where
  pub signal-none : stands ≡ false → Appended o a (signal_piece i stands) o a
  signal-none e = rw e (append-none o a)

  pub signal-line : {o₁ o₂ : List ℕ} {a₁ a₂ : ℕ} (e : End) → e ≡ end_at i → stands ≡ true → Appended o a (byte "G" ∷ tab ∷ []) o₁ a₁
      → Appended o₁ a₁ (end_field (field_of e) ++ (line_end ∷ [])) o₂ a₂ → Appended o a (signal_piece i stands) o₂ a₂
  signal-line e at h x y = let f = end_field (field_of e) in rw (h, ← at) (line-more (byte "G" ∷ []) f [] x (line-last f y))

-- A SECTION among the X lines
module _ (i : ℕ) (shut : Bool) {o : List ℕ} {a : ℕ} where
  pub closed_none : shut ≡ false → Appended o a (closed_piece i shut) o a
  closed_none e = rw e (append-none o a)

  pub closed-line : {o₁ o₂ : List ℕ} {a₁ a₂ : ℕ} → shut ≡ true → Appended o a (byte "X" ∷ tab ∷ []) o₁ a₁
      → Appended o₁ a₁ (decimal (i + 1) ++ (line_end ∷ [])) o₂ a₂ → Appended o a (closed_piece i shut) o₂ a₂
  closed-line h x y = let n = decimal (i + 1) in rw (h, ← add-one i) (line-more (byte "X" ∷ []) n [] x (line-last n y))

-- PIECES of the parts
module _ (r : Railway) (i : ℕ) {o o₁ : List ℕ} {a a₁ : ℕ} where
  pub point-piece : (s : Side) → s ≡ legs_of r i → Appended o a (point_line (suc i) s) o₁ a₁ → Appended o a (point_of r i) o₁ a₁
  point-piece s is p = rw (← is) p

  pub join-piece : (e : End) (j : Joined) → e ≡ end_at i → j ≡ joined r e → Appended o a (join_piece i j) o₁ a₁ → Appended o a (join_of r i) o₁ a₁
  join-piece x j at is p = let h : j ≡ joined r (end_at i) = rw at at is in rw (← h) p

  pub signal-piece : (e : End) (b : Bool) → e ≡ end_at i → b ≡ has_signal r e → Appended o a (signal_piece i b) o₁ a₁ → Appended o a (signal_of r i) o₁ a₁
  signal-piece x b at is p = let h : b ≡ has_signal r (end_at i) = rw at at is in rw (← h) p

  pub closed-piece : (b : Bool) → b ≡ is_closed r i → Appended o a (closed_piece i b) o₁ a₁ → Appended o a (closed_of r i) o₁ a₁
  closed-piece b is p = rw (← is) p

  pub train-piece : (t : Train) → t ≡ train_of r i → Appended o a (train_line (suc i) (line_of_train t)) o₁ a₁ → Appended o a (train_at r i) o₁ a₁
  train-piece t is p = rw (← is) p
