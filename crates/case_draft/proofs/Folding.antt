-- Lines put into a draft one by one as they are read, or all of them when they are read: it is the same. Each line that is read is put in before
-- the next is read, and where one is not in form neither way gives anything.
-- Assumes nothing.
use Prim.Native.Nat.{ℕ, zero, suc}
use mathlib.Core.Path.{◌≡◌, refl, ◌∙◌}
use mathlib.Core.Bool.{Bool, true, false, cond}
use mathlib.Core.List.{List, [], ◌∷◌}
use lib.Dec.{ltb, eqb}
use lib.ListN.{length, get_or}
use Rattle.text.specs.Text.{byte}
use Rattle.text.specs.Reading.{Got, bad, got, then}
use Rattle.case_file.specs.Form.{Description}
use Rattle.case_file.specs.Reading.{counted, while, header_at, point_line_at, join_line_at, signal_line_at, closed_line_at, train_line_at, walk}
use Rattle.case_draft.specs.declared.Draft.{Draft}
use Rattle.case_draft.specs.Drafting.{opened, put_point, put_join, put_signal, put_closed, put_train, fold_counted, fold_while, draft_of}

-- all of a list put in, with numbers rising from n; without numbers
module _ {A R : Type 0} where
  unfoldable pub put_rising : (R → ℕ → A → R) → ℕ → R → List A → R
  put_rising put n r [] = r
  put_rising put n r (x ∷ xs) = put_rising put (suc n) (put r n x) xs

  unfoldable pub put_each : (R → A → R) → R → List A → R
  put_each put r [] = r
  put_each put r (x ∷ xs) = put_each put (put r x) xs

module _ {A R : Type 0} (line : ℕ → ℕ → Got A) (put : R → ℕ → A → R) where
  abbrev number_into : ℕ → ℕ → R → Got R
  number_into n c r = then (line n c) (λ x c. got (put r n x) c)

  counted_step : (k n : ℕ) (r : R)
      → ((c : ℕ) (r : R) → fold_counted number_into k (suc n) c r ≡ then (counted line k (suc n) c)
      (λ xs c. got (put_rising put (suc n) r xs) c))
      → (g : Got A) → then (then g (λ x c. got (put r n x) c)) (λ r c. fold_counted number_into k (suc n) c r)
      ≡ then (then g (λ x c. then (counted line k (suc n) c) (λ xs c. got (x ∷ xs) c))) (λ xs c. got (put_rising put n r xs) c)
  unfolding put_rising
  counted_step k n r ih bad = refl
  counted_step k n r ih (got x d) = ih d (put r n x) ∙ last (counted line k (suc n) d)
    where
      last : (g : Got (List A))
          → then g (λ xs c. got (put_rising put (suc n) (put r n x) xs) c) ≡ then (then g (λ xs c. got (x ∷ xs) c))
          (λ xs c. got (put_rising put n r xs) c)
      last bad = refl
      last (got xs c) = refl

  pub fold-counted : (k n c : ℕ) (r : R) → fold_counted number_into k n c r ≡ then (counted line k n c) (λ xs c. got (put_rising put n r xs) c)
  unfolding fold_counted counted put_rising
  fold-counted zero n c r = refl
  fold-counted (suc k) n c r = counted_step k n r (fold-counted k (suc n)) (line n c)

module _ {A R : Type 0} (begins : ℕ → Bool) (line : ℕ → Got A) (put : R → A → R) where
  abbrev step_into : ℕ → R → Got R
  step_into c r = then (line c) (λ x c. got (put r x) c)

  while-step : (most : ℕ) → ((c : ℕ) (r : R) → fold_while begins step_into most c r ≡ then (while begins line most c) (λ xs c. got (put_each put r xs) c))
      → (c : ℕ) (r : R) (p : Bool) → elim p [ true ↦ then (step_into c r) (λ r c. fold_while begins step_into most c r) | false ↦ got r c ]
      ≡ then (elim p [
        | true ↦ then (line c)
            (λ x c. then (while begins line most c) (λ xs c. got (x ∷ xs) c))
        | false ↦ got [] c
      ])
      (λ xs c. got (put_each put r xs) c)
  unfolding put_each
  while-step most ih c r false = refl
  while-step most ih c r true = go (line c)
    where
      last : (x : A) (g : Got (List A))
          → then g (λ xs c. got (put_each put (put r x) xs) c) ≡ then (then g (λ xs c. got (x ∷ xs) c))
          (λ xs c. got (put_each put r xs) c)
      last x bad = refl
      last x (got xs c) = refl

      go : (g : Got A) → then (then g (λ x c. got (put r x) c)) (λ r c. fold_while begins step_into most c r)
          ≡ then (then g (λ x c. then (while begins line most c) (λ xs c. got (x ∷ xs) c))) (λ xs c. got (put_each put r xs) c)
      go bad = refl
      go (got x d) = ih d (put r x) ∙ last x (while begins line most d)

  pub fold-while : (most c : ℕ) (r : R) → fold_while begins step_into most c r ≡ then (while begins line most c) (λ xs c. got (put_each put r xs) c)
  unfolding fold_while while put_each
  fold-while zero c r = refl
  fold-while (suc most) c r = while-step most (fold-while most) c r (begins c)

-- step by step
same_step : {X B C : Type 0} (g : Got X) (k : X → ℕ → Got B) (h : X → ℕ → Got C) (f : B → ℕ → Got C)
    → ((x : X) (c : ℕ) → h x c ≡ then (k x c) f) → then g h ≡ then (then g k) f
same_step bad k h f e = refl
same_step (got x c) k h f e = e x c

fold_step : {X R B C : Type 0} (g : Got X) (into : X → R) (k : X → ℕ → Got B) (h : R → ℕ → Got C) (f : B → ℕ → Got C) (d : Got R)
    → d ≡ then g (λ x c. got (into x) c) → ((x : X) (c : ℕ) → h (into x) c ≡ then (k x c) f) → then d h ≡ then (then g k) f
fold_step bad into k h f d p e = rw p
fold_step (got x c) into k h f d p e = rw p (e x c)

last_step : {B C : Type 0} (p : Bool) (x : B) (y : C) (c : ℕ) (f : B → C) → f x ≡ y → cond p bad (got y c) ≡ then (cond p bad (got x c)) (λ x c. got (f x) c)
last_step true x y c f e = refl
last_step false x y c f e = rw e

-- THE DRAFT OF A DESCRIPTION: all its lines put in
unfoldable pub drafted : Description → Draft
drafted d =
    put_rising put_train 1
    (put_each put_closed
    (put_each put_signal
    (put_each put_join (put_rising put_point 1 (opened d.sections d.points d.trains) d.legs) d.joins)
    d.signals) d.closed) d.roster

pub draft-walked : (s : List ℕ) → draft_of s ≡ then (walk s) (λ d c. got (drafted d) c)
unfolding draft_of walk drafted
draft-walked s =
    same_step (header_at s 0) _ _ _ (λ h c.
    let f : Description → ℕ → Got Draft = λ d c. got (drafted d) c in
    fold_step (counted (point_line_at s) h.points 1 c) (put_rising put_point 1 (opened h.sections h.points h.trains)) _ _ f _
    (fold-counted (point_line_at s) put_point h.points 1 c (opened h.sections h.points h.trains)) (λ legs c.
    let d1 = put_rising put_point 1 (opened h.sections h.points h.trains) legs in
    fold_step (while (λ c. eqb (get_or s c 0) (byte "J")) (join_line_at s) (length s) c) (put_each put_join d1) _ _ f _
    (fold-while (λ c. eqb (get_or s c 0) (byte "J")) (join_line_at s) put_join (length s) c d1) (λ joins c.
    let d2 = put_each put_join d1 joins in
    fold_step (while (λ c. eqb (get_or s c 0) (byte "G")) (signal_line_at s) (length s) c) (put_each put_signal d2) _ _ f _
    (fold-while (λ c. eqb (get_or s c 0) (byte "G")) (signal_line_at s) put_signal (length s) c d2) (λ signals c.
    let d3 = put_each put_signal d2 signals in
    fold_step (while (λ c. eqb (get_or s c 0) (byte "X")) (closed_line_at s) (length s) c) (put_each put_closed d3) _ _ f _
    (fold-while (λ c. eqb (get_or s c 0) (byte "X")) (closed_line_at s) put_closed (length s) c d3) (λ closed c.
    let d4 = put_each put_closed d3 closed in
    fold_step (counted (train_line_at s) h.trains 1 c) (put_rising put_train 1 d4) _ _ f _
    (fold-counted (train_line_at s) put_train h.trains 1 c d4) (λ roster c.
    last_step (ltb c (length s)) _ _ c drafted refl))))))
