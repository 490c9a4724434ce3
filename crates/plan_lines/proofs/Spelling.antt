-- The pieces of a placement's line, one behind the other, are its fields: by induction on the number of trains and points. The digits of the
-- open trains are none exactly if no train is open, and then `0` stands for them. Assumes nothing.
use Prim.Native.Nat.{ℕ, zero, suc, ◌+◌, ◌<◌}
use mathlib.Core.Path.{◌≡◌, refl, sym, ◌∙◌, ap}
use mathlib.Core.Logic.{inl, inr}
use mathlib.Core.Bool.{Bool, true, false, cond}
use mathlib.Core.List.{List, [], ◌∷◌, ◌++◌, map, append_assoc}
use native.Mathlib.Omega.{arith}
use native.Mathlib.Numerals.{add-one}
use lib.ListN.{length, get_or, length-append}
use Rattle.laws.specs.Below.{any_below, which_below, list_below, gather_below}
use Rattle.laws.specs.Bits.{bit}
use Rattle.laws.proofs.Bools.{lt?, either, clash}
use Rattle.laws.proofs.Below.{any_false, list_length, list_get}
use Rattle.laws.proofs.Lists.{map-append}
use Rattle.laws.proofs.Which.{which-map}
use Rattle.text.specs.Text.{byte, decimal, tab, line_end, line}
use Rattle.text.specs.Appending.{Appended}
use Rattle.text.proofs.Appending.{append-none, append-then, line-more, line-last}
use Rattle.game_tables.specs.Entries.{opens_in}
use Rattle.plan.specs.Lines.{start_line, placement_line, or_byte, train_digit, open_field, sign, point_field, section_field, plan_word, spell}
use Rattle.game_placement.specs.declared.Placement.{Placement}
use Rattle.game_placement.specs.ByValue.{section_in}
use Rattle.game_placement.proofs.ByValue.{bit_high}
use Rattle.plan_lines.specs.Spelling.{section_piece, open_piece, point_piece, line_of}

-- A FIELD that is not empty stands for itself
or_kept : (b : ℕ) (xs : List ℕ) → 0 < length xs → or_byte b xs ≡ xs
or_kept b [] h = absurd (omega arith)
or_kept b (x ∷ xs) h = refl

-- OPEN TRAINS
module _ (f : ℕ → Bool) where
  one-open : (b : Bool) (t : ℕ) → map train_digit (cond b (t ∷ []) []) ≡ cond b (train_digit t ∷ []) []
  one-open true t = refl
  one-open false t = refl

  which-pieces : (k : ℕ) → map train_digit (which_below f k) ≡ gather_below (open_piece f) k
  unfolding which_below gather_below
  which-pieces zero = refl
  which-pieces (suc k) = map-append train_digit (which_below f k) (cond (f k) (k ∷ []) []) ∙ rw (which-pieces k, one-open (f k) k)

  pieces-some : (k : ℕ) → any_below f k ≡ true → 0 < length (gather_below (open_piece f) k)
  unfolding any_below gather_below
  pieces-some zero e = clash e refl
  pieces-some (suc k) e =
      rw (length-append (gather_below (open_piece f) k) (open_piece f k))
      (elim (either (any_below f k) (f k) e) [
        | inl a ↦ omega (arith, pieces-some k a)
        | inr a ↦ rw a (omega arith)
      ])

  pieces-not : (k : ℕ) → ((t : ℕ) → t < k → f t ≡ false) → gather_below (open_piece f) k ≡ []
  unfolding gather_below
  pieces-not zero h = refl
  pieces-not (suc k) h = rw (pieces-not k (λ t l. h t (omega arith)), h k (omega arith))

  open-pieces : (k : ℕ) → open_field (list_below f k) ≡ or_byte (byte "0") (gather_below (open_piece f) k)
  open-pieces k =
      rw (list_length f k)
      (ap (or_byte (byte "0")) (which-map (λ t. get_or (list_below f k) t false) f train_digit train_digit k (λ t l. list_get f k t false l) (λ t l. refl) ∙ which-pieces k))

  module _ (k : ℕ) {o o₁ : List ℕ} {a a₁ : ℕ} (b : Bool) (is : b ≡ any_below f k) where
    pub open-some : b ≡ true → Appended o a (gather_below (open_piece f) k) o₁ a₁ → Appended o a (open_field (list_below f k)) o₁ a₁
    open-some e p = rw (open-pieces k, or_kept (byte "0") (gather_below (open_piece f) k) (pieces-some k (sym is ∙ e))) p

    pub open_none : b ≡ false → Appended o a (byte "0" ∷ []) o₁ a₁ → Appended o a (open_field (list_below f k)) o₁ a₁
    open_none e p = rw (open-pieces k, pieces-not k (any_false f k (sym is ∙ e))) p

  module _ (t : ℕ) {o : List ℕ} {a : ℕ} (b : Bool) (is : b ≡ f t) where
    pub train-open : {o₁ : List ℕ} {a₁ : ℕ} → b ≡ true → Appended o a (train_digit t ∷ []) o₁ a₁ → Appended o a (open_piece f t) o₁ a₁
    train-open e p = rw (← is, e) p

    pub train-closed : b ≡ false → Appended o a (open_piece f t) o a
    train-closed e = rw (← is, e) (append-none o a)

-- a train whose bit is set is one of sixteen
pub open-digit : (v t : ℕ) (b : Bool) → v < 4294967296 → b ≡ opens_in v t → b ≡ true → t < 16
open-digit v t b l is e = elim (lt? t 16) [ inl h ↦ h | inr h ↦ clash (sym is ∙ e) (sym (bit_high v (16 + t) l (omega arith))) ]

-- POINTS
pub sign-plus : (plus : Bool) → plus ≡ true → byte "+" ≡ sign plus
sign-plus plus e = rw e

pub sign-minus : (plus : Bool) → plus ≡ false → byte "-" ≡ sign plus
sign-minus plus e = rw e

module _ (f : ℕ → Bool) where
  sign-pieces : (m : ℕ) → map sign (list_below f m) ≡ gather_below (point_piece f) m
  unfolding list_below gather_below
  sign-pieces zero = refl
  sign-pieces (suc m) = map-append sign (list_below f m) (f m ∷ []) ∙ rw (sign-pieces m)

  signs-length : (m : ℕ) → length (gather_below (point_piece f) m) ≡ m
  unfolding gather_below
  signs-length zero = refl
  signs-length (suc m) = length-append (gather_below (point_piece f) m) (point_piece f m) ∙ (rw (signs-length m) (omega arith))

  module _ (m : ℕ) {o o₁ : List ℕ} {a a₁ : ℕ} where
    pub points_none : m ≡ 0 → Appended o a (byte "." ∷ []) o₁ a₁ → Appended o a (point_field (list_below f m)) o₁ a₁
    unfolding list_below
    points_none e p = rw e p

    pub points-some : (m ≡ 0 → ⊥) → Appended o a (gather_below (point_piece f) m) o₁ a₁ → Appended o a (point_field (list_below f m)) o₁ a₁
    points-some e p = rw (sign-pieces m, or_kept (byte ".") (gather_below (point_piece f) m) (rw (signs-length m) (omega arith))) p

  pub sign-piece : (n b : ℕ) (plus : Bool) {o o₁ : List ℕ} {a a₁ : ℕ} → plus ≡ f n → b ≡ sign plus → Appended o a (b ∷ []) o₁ a₁ → Appended o a (point_piece f n) o₁ a₁
  sign-piece n b plus is e p = rw (← is, ← e) p

-- SECTIONS: each with a tab behind it, in front of the other fields
module _ (g : ℕ → ℕ) where
  abbrev sections_piece : ℕ → List ℕ
  sections_piece t = section_field (g t) ++ (tab ∷ [])

  section-pieces : (k : ℕ) (f : List ℕ) (fs : List (List ℕ)) → line (map section_field (list_below g k) ++ (f ∷ fs)) ≡ gather_below sections_piece k ++ line (f ∷ fs)
  unfolding list_below gather_below line
  section-pieces zero f fs = refl
  section-pieces (suc k) f fs =
      rw (map-append section_field (list_below g k) (g k ∷ []), append_assoc (map section_field (list_below g k)) (section_field (g k) ∷ []) (f ∷ fs))
      (section-pieces k (section_field (g k)) (f ∷ fs)
      ∙ rw (append_assoc (gather_below sections_piece k) (sections_piece k) (line (f ∷ fs)), append_assoc (section_field (g k)) (tab ∷ []) (line (f ∷ fs))))

module _ (q : Placement) (t x : ℕ) {o o₁ : List ℕ} {a a₁ : ℕ} where
  pub section-piece : x ≡ section_in q t → Appended o a (decimal (x + 1) ++ (tab ∷ [])) o₁ a₁ → Appended o a (section_piece q t) o₁ a₁
  section-piece is p = rw (← is, ← add-one x) p

-- THE LINES
pub start-spelled : {o o₁ o₂ : List ℕ} {a a₁ a₂ : ℕ} (n : ℕ) → Appended o a (plan_word ++ (tab ∷ [])) o₁ a₁
    → Appended o₁ a₁ (decimal n ++ (line_end ∷ [])) o₂ a₂ → Appended o a (spell (start_line n)) o₂ a₂
unfolding spell
start-spelled n p d = line-more plan_word (decimal n) [] p (line-last (decimal n) d)

module _ {o o₁ o₂ o₃ o₄ : List ℕ} {a a₁ a₂ a₃ a₄ : ℕ} where
  pub placement-spelled : {o₅ o₆ : List ℕ} {a₅ a₆ : ℕ} (k m : ℕ) (q : Placement) (n v : ℕ) → Appended o a (gather_below (section_piece q) k) o₁ a₁
      → Appended o₁ a₁ (decimal n ++ (tab ∷ [])) o₂ a₂ → Appended o₂ a₂ (open_field (list_below (opens_in v) k)) o₃ a₃ → Appended o₃ a₃ (tab ∷ []) o₄ a₄
      → Appended o₄ a₄ (point_field (list_below (bit v) m)) o₅ a₅ → Appended o₅ a₅ (line_end ∷ []) o₆ a₆ → Appended o a (spell (placement_line (line_of k m q n v))) o₆ a₆
  unfolding spell
  placement-spelled k m q n v s d e t p l =
      let opened = open_field (list_below (opens_in v) k) in
      let points = point_field (list_below (bit v) m) in
      rw (section-pieces (section_in q) k (decimal n) (opened ∷ points ∷ []))
      (append-then s
      (line-more (decimal n) opened (points ∷ []) d
      (line-more opened points [] (append-then e t) (line-last points (append-then p l)))))
