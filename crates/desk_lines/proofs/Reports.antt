-- A line is read as a report exactly if it is written as one: each step reads what is written at its cursor, and what is written there is read (text/Reading). So a report has seven bytes at
-- most, and eight bytes of a line decide. Assumes nothing.
use mathlib.Core.Path.{◌≡◌, refl, sym, ◌∙◌, ap, subst}
use mathlib.Core.Logic.{inl, inr}
use mathlib.Core.Bool.{Bool, true, false, cond}
use mathlib.Core.List.{List, [], ◌∷◌, ◌++◌, append-nil}
use mathlib.Core.Option.{none, some}
use Prim.Native.Nat.{ℕ, ◌-◌, ◌≤◌, ◌<◌, min}
use native.Mathlib.Omega.{arith}
use lib.Dec.{ltb}
use lib.ListN.{length, take, drop, length-append, length-take, length-drop, drop_of_length-le}
use lib.Seq.{take_all}
use borrow.Author.Tests.{ltb-false, lt-ltb, le-ltb, eq-eqb, ne_eqb}
use Rattle.laws.proofs.Bools.{option?, some-none, some_one}
use Rattle.text.specs.Text.{decimal, tab}
use Rattle.text.specs.Reading.{is_digit, Got, bad, got, value, byte_at, number_at}
use Rattle.text.proofs.Reading.{bad-got, Lies, Reads, on, go_on, byte-sound, byte-complete, number-sound, number-complete}
use Rattle.text.specs.declared.Cursor.{Cursor}
use Rattle.text.specs.Byte.{Byte, Other, Past}
use Rattle.text.specs.Answers.{byte_got, byte_inside}
use Rattle.text.proofs.Chain.{fails, goes, byte-fails, byte-goes}
use Rattle.text.proofs.Decimal.{digits-short}
use Rattle.desk_lines.specs.Reports.{Told, Spells, end_at, report_at, report_in, ReadsExactly, CutReads, place_of}

-- (Examples is named so that it is checked before: a wrong definition then shows at a computed value.)

-- WHAT IS READ is written
ended : (s : List ℕ) (x y : Told) (c e : ℕ) (b : Bool) → ltb e (length s) ≡ b → cond b bad (got x e) ≡ got y c → (length s ≤ e) × (x ≡ y)
ended s x y c e true l h = bad-got refl h
ended s x y c e false l h = (ltb-false e (length s) l, cc)

read-spelled : (s : List ℕ) (y : Told) (c : ℕ) → report_at s ≡ got y c → Spells s y
unfolding report_at
read-spelled s y c read =
    on (number_at s 2 0) _ y c read (λ t a train past-train. on (byte_at s tab a) _ y c past-train (λ z b part past-part. on (number_at s 2 b) _ y c past-part (λ x e section end.
    let w = number-sound s 0 2 t a (omega arith) train in
    let v = number-sound s b 2 x e (omega arith) section in
    let p = byte-sound s tab a z b (omega arith) part in
    let h = ended s (record { train = t; section = x }) y c e (ltb e (length s)) refl end in
    let nothing : drop e s ≡ [] = drop_of_length-le s h.0 in
    let all : s ≡ decimal t ++ (tab ∷ decimal x) = w.text ∙ ap (λ (l : List ℕ). decimal t ++ l) (p ∙ ap (λ (l : List ℕ). tab ∷ l) (v.text ∙ rw nothing (append-nil (decimal x)))) in
    subst (Spells s) h.1 (record { small-train = omega (arith, w.small); small-section = omega (arith, v.small); text = all }))))

-- WHAT IS WRITTEN is read
spelled-read : (s : List ℕ) (y : Told) → Spells s y → Reads s (report_at s) y []
unfolding report_at is_digit
spelled-read s y w =
    go_on _ (number-complete s (tab ∷ decimal y.section) refl 2 y.train 0 (omega arith) (omega (arith, w.small-train)) (record { text = w.text }))
    (λ a past-train. go_on _ (byte-complete s tab a (decimal y.section) past-train)
    (λ b past-part. go_on _ (number-complete s [] refl 2 y.section b (omega arith) (omega (arith, w.small-section)) (record { text = past-part.text ∙ sym (append-nil (decimal y.section)) }))
    (λ e past-section. over e past-section)))
  where
    over : (e : ℕ) → Lies s e [] → Reads s (end_at s (record { train = y.train; section = y.section }) e) y []
    over e l = record { cursor = e; is = rw (le-ltb e (length s) (omega (arith, length-drop e s, ap length l.text))); left = l }

pub reads-exactly : ReadsExactly
reads-exactly s y = (λ e. some_read (report_at s) refl e, λ w. ap value (spelled-read s y w).is)
  where
    some_read : (g : Got Told) → report_at s ≡ g → value g ≡ some y → Spells s y
    some_read bad r e = some-none e refl
    some_read (got x c) r e = read-spelled s y c (r ∙ ap (λ (z : Told). got z c) (some_one e))

-- SEVEN BYTES at most
spelled-short : (s : List ℕ) (y : Told) → Spells s y → length s ≤ 7
spelled-short s y w =
    rw w.text (simp length-append (omega (arith, digits-short 10 2 y.train (omega (arith, w.small-train)), digits-short 10 2 y.section (omega (arith, w.small-section)))))

pub cut-reads : CutReads
cut-reads s n enough = elim (option? (report_in s)) [
  | inr w ↦ same (spelled-short s w.0 ((reads-exactly s w.0).0 w.1))
  | inl e ↦ elim (option? (report_in (take n s))) [
    | inl f ↦ f ∙ sym e
    | inr w ↦ same (let l = spelled-short (take n s) w.0 ((reads-exactly (take n s) w.0).0 w.1) in let m : length (take n s) ≡ min n (length s) = length-take n s in omega arith)
  ]
]
  where
    same : length s ≤ 7 → report_in (take n s) ≡ report_in s
    same l = ap report_in (take_all n s (omega arith))

-- AS CODE READS IT: a step that reads nothing, or the next one
end_more : (s : List ℕ) (y : Told) (c : ℕ) → c < length s → bad ≡ end_at s y c
end_more s y c l = rw (lt-ltb c (length s) l)

end-here : (s : List ℕ) (y : Told) (c : ℕ) → length s ≤ c → got y c ≡ end_at s y c
end-here s y c l = rw (le-ltb c (length s) l)

module _ (s : List ℕ) where
  pub no-train : number_at s 2 0 ≡ bad → none ≡ report_in s
  unfolding report_at
  no-train e = ap value (fails _ e)

  module _ (t a : ℕ) (train : number_at s 2 0 ≡ got t a) (r : Byte) (looked : byte_got tab r ≡ byte_inside s tab a) where
    pub no-tab : r ≡ Other → none ≡ report_in s
    unfolding report_at
    no-tab e = ap value (goes _ train (byte-fails s tab a (omega arith) r looked e _))

    module _ (d : Cursor) (past : r ≡ Past d) where
      pub no-section : number_at s 2 d.at ≡ bad → none ≡ report_in s
      unfolding report_at
      no-section e = ap value (goes _ train (byte-goes s tab a (omega arith) r looked d past _ (fails _ e)))

      module _ (x c : ℕ) (section : number_at s 2 d.at ≡ got x c) where
        pub more-behind : c < length s → none ≡ report_in s
        unfolding report_at
        more-behind l = ap value (goes _ train (byte-goes s tab a (omega arith) r looked d past _ (goes _ section (end_more s _ c l))))

        pub a-report : length s ≤ c → some (record { train = t; section = x }) ≡ report_in s
        unfolding report_at
        a-report l = ap value (goes _ train (byte-goes s tab a (omega arith) r looked d past _ (goes _ section (end-here s _ c l))))

-- NUMBERS as the desk counts them
pub place_none : (n : ℕ) → n ≡ 0 → 255 ≡ place_of n
place_none n e = rw (eq-eqb n 0 e)

module _ (n : ℕ) (is : n ≡ 0 → ⊥) where
  pub place-beyond : 255 < n → 255 ≡ place_of n
  place-beyond l = rw (ne_eqb n 0 is, lt-ltb 255 n l)

  pub place-there : n ≤ 255 → n - 1 ≡ place_of n
  place-there l = rw (ne_eqb n 0 is, le-ltb 255 n l)
