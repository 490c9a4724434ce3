-- What is written of an accepted railway is at most 4,096 bytes long: it has one H line, at most 16 P, 144 J, 96 G, 48 X and 4 T lines. Since a number
-- below 1,000 has three digits at most, no line has more than 20 bytes, and no J, G or X line more than 12.
-- Assumes nothing.
use Prim.Native.Nat.{ℕ, zero, suc, ◌+◌, ◌*◌, ◌<◌, ◌≤◌}
use mathlib.Core.Path.{◌≡◌, refl}
use mathlib.Core.Bool.{Bool, true, false, cond}
use mathlib.Core.List.Memᴰ
use mathlib.Core.List.{List, [], ◌∷◌, flat_map}
use mathlib.Core.Option.{Option, none, some}
use native.Mathlib.Omega.{arith}
use lib.Dec.{ltb}
use lib.ListN.{length, length-append}
use Rattle.laws.specs.Below.{gather_below}
use Rattle.laws.specs.Lists.{Every}
use Rattle.text.specs.Text.{decimal, line}
use Rattle.text.proofs.Decimal.{digits-short}
use Rattle.railway.specs.declared.Side.{Side}
use Rattle.railway.specs.Joined.{Joined, Nothing, With}
use Rattle.railway.specs.declared.Railway.{Railway}
use Rattle.railway.specs.Bounds.{most_sections, section_ends, all_ends}
use Rattle.railway.specs.Ends.{end_index, end_at}
use Rattle.railway.specs.Record.{link_at, flag_at, closed_at}
use Rattle.railway.proofs.Rows.{Accepted, accepted-facts}
use Rattle.case_file.specs.Form.{EndField, section, port, JoinLine, SignalLine, TrainLine, end_field, point_line}
use Rattle.case_file.specs.Form.{join_line, signal_line, closed_line, train_line, rising, spell, Writable, WritableEnd}
use Rattle.case_file.specs.Form.{WritableJoin, WritableSignal, WritableWeight, WritableTrain}
use Rattle.case_file.specs.Rows.{most_bytes}
use Rattle.case_file.specs.Recording.{field_of, signal_of}
use Rattle.case_file.specs.Writing.{join_from, join_at, signal_at, closed_line_of, description_of, written_text}
use Rattle.case_file.specs.Claims.{WrittenFits}
use Rattle.case_file.proofs.Lines.{weight_bytes, weight-last}
use Rattle.case_file.proofs.Writing.{well-formed}

decimal-short : (n : ℕ) → n < 1000 → length (decimal n) ≤ 3
decimal-short n h = digits-short 10 2 n (omega arith)

end_short : (e : EndField) → WritableEnd e → length (end_field e) ≤ 4
end_short (section n s) h = simp length-append (omega (arith, decimal-short n h))
end_short (port n l) h = simp length-append (omega (arith, decimal-short n h))

join-short : (j : JoinLine) → WritableJoin j → length (join_line j) ≤ 12
unfolding line
join-short j h = simp length-append (omega (arith, end_short j.one h.0, end_short j.other h.1))

signal-short : (g : SignalLine) → WritableSignal g → length (signal_line g) ≤ 12
unfolding line
signal-short g h = simp length-append (omega (arith, decimal-short g.number h))

closed-short : (n : ℕ) → Writable n → length (closed_line n) ≤ 12
unfolding line
closed-short n h = simp length-append (omega (arith, decimal-short n h))

point-short : (n : ℕ) (s : Side) → n < 1000 → length (point_line n s) ≤ 20
unfolding line
point-short n s h = simp length-append (omega (arith, decimal-short n h))

weight-short : (w : Option ℕ) → WritableWeight w → length (weight_bytes w) ≤ 4
weight-short none h = omega arith
weight-short (some w) h = omega (arith, decimal-short w h)

train-short : (n : ℕ) (t : TrainLine) → n < 1000 → WritableTrain t → length (train_line n t) ≤ 20
unfolding line
train-short n t b h =
    simp (weight-last, length-append)
    (omega (arith, decimal-short n b, decimal-short t.start h.0, decimal-short t.destination h.1, weight-short t.weight h.2))

module _ {A : Type 0} (good : A → Type 0) where
  each-short : (f : A → List ℕ) → ((x : A) → good x → length (f x) ≤ 12) → (xs : List A) → Every good xs → length (flat_map f xs) ≤ length xs * 12
  unfolding flat_map
  each-short f h [] g = omega arith
  each-short f h (x ∷ xs) g = simp length-append (omega (arith, h x (g x (Memᴰ.head refl)), each-short f h xs (λ y m. g y (Memᴰ.tail m))))

  rising-short : (f : ℕ → A → List ℕ) → ((n : ℕ) (x : A) → n < 1000 → good x → length (f n x) ≤ 20) → (n : ℕ) (xs : List A) → n + length xs ≤ 1000 → Every good xs
      → length (rising f n xs) ≤ length xs * 20
  unfolding rising
  rising-short f h n [] b g = omega arith
  rising-short f h n (x ∷ xs) b g =
      simp length-append (omega (arith, h n x (omega arith) (g x (Memᴰ.head refl)), rising-short f h (suc n) xs (omega arith) (λ y m. g y (Memᴰ.tail m))))

gather-short : {A : Type 0} (f : ℕ → List A) → ((i : ℕ) → length (f i) ≤ 1) → (k : ℕ) → length (gather_below f k) ≤ k
unfolding gather_below
gather-short f h zero = omega arith
gather-short f h (suc k) = simp length-append (omega (arith, h k, gather-short f h k))

pub one_at_most : {A : Type 0} (x : A) (p : Bool) → length (cond p (x ∷ []) []) ≤ 1
one_at_most x true = omega arith
one_at_most x false = omega arith

pub one-join : (i : ℕ) (x : Joined) → length (join_from i x) ≤ 1
one-join i Nothing = omega arith
one-join i (With f) = one_at_most (record { one = field_of (end_at i); other = field_of f }) (ltb i (end_index f))

module _ (r : Railway) (w : Accepted r) where
  few-joins : length (description_of r).joins ≤ all_ends
  unfolding description_of
  few-joins = gather-short (join_at r) (λ i. one-join i (link_at r i)) all_ends

  few-signals : length (description_of r).signals ≤ section_ends
  unfolding description_of
  few-signals = gather-short (signal_at r) (λ i. one_at_most (signal_of i) (flag_at r i)) section_ends

  few-closed : length (description_of r).closed ≤ most_sections
  unfolding description_of
  few-closed = gather-short (closed_line_of r) (λ x. one_at_most (suc x) (closed_at r x)) most_sections

  counts : ((description_of r).points ≡ r.points) × ((description_of r).trains ≡ r.trains)
  unfolding description_of
  counts = (refl, refl)

  pub short : length (spell (description_of r)) ≤ most_bytes
  unfolding spell line
  short =
      let b = w.bounds in
      let f = well-formed r w in
      let d = description_of r in
      let p = counts in
      simp length-append
      (omega (
        arith,
        decimal-short d.sections f.sections,
        decimal-short d.points f.points,
        decimal-short d.trains f.trains,
        rising-short (λ s. Unit {0}) point_line (λ n s h u. point-short n s h) 1 d.legs (omega (arith, f.one-a-point, p.0)) (λ s m. tt),
        each-short WritableJoin join_line join-short d.joins f.joins,
        each-short WritableSignal signal_line signal-short d.signals f.signals,
        each-short Writable closed_line closed-short d.closed f.closed,
        rising-short WritableTrain train_line train-short 1 d.roster (omega (arith, f.one-a-train, p.1)) f.roster,
        few-joins,
        few-signals,
        few-closed,
        f.one-a-point,
        f.one-a-train,
        p.0,
        p.1,
      ))

pub written-fits : WrittenFits
unfolding written_text
written-fits r e = short r (accepted-facts r e)
