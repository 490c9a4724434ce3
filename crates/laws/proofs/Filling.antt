-- A list filled from the front, entry after entry, as a loop fills an array or a lent table. Assumes nothing.
use mathlib.Core.Path.{◌≡◌, sym, ◌∙◌}
use mathlib.Core.Logic.{inl, inr}
use mathlib.Core.List.{List}
use Prim.Native.Nat.{ℕ, ◌+◌, ◌-◌, ◌≤◌, ◌<◌}
use native.Mathlib.Omega.{arith}
use lib.ListN.{length, get_or, set, replicate, length-set, length-replicate, get_or-replicate}
use lib.Seq.{get_or-set_same, get_or-set_other, ext_get_or}
use Rattle.laws.proofs.Bools.{eq?}

-- Of n entries those before i are what f gives.
pub record FilledTo (f : ℕ → ℕ) (n : ℕ) (list : List ℕ) (i : ℕ) : Type 0 where
  pub within : i ≤ n
  pub sized : length list ≡ n
  pub below : (j : ℕ) → j < i → get_or list j 0 ≡ f j

module _ (f : ℕ → ℕ) (n : ℕ) where
  pub fill_start : (list : List ℕ) → length list ≡ n → FilledTo f n list 0
  fill_start list s = record { within = omega arith; sized = s; below = λ j l. absurd (omega arith) }

  module _ (list : List ℕ) (i : ℕ) (h : FilledTo f n list i) where
    pub fill-next : (x : ℕ) → i < n → x ≡ f i → FilledTo f n (set list i x) (i + 1)
    fill-next x l e =
        record {
          within = omega arith;
          sized = length-set list i x ∙ h.sized;
          below = λ j m. elim (eq? j i) [
            | inl z ↦ rw z (get_or-set_same list i x 0 (rw h.sized l) ∙ e)
            | inr z ↦ get_or-set_other list i j x 0 z ∙ h.below j (omega arith)
          ];
        }

    -- as a loop asks whose bound is the list's own length
    pub fill-inside : i < length list → i < n
    fill-inside l = omega (arith, h.sized)

    pub fill-less : i < length list → n - (i + 1) < n - i
    fill-less l = omega (arith, h.sized)

-- all entries alike
pub fill-alike : (v n : ℕ) (list : List ℕ) (i : ℕ) → FilledTo (λ j. v) n list i → length list ≤ i → list ≡ replicate n v
fill-alike v n list i h l =
    ext_get_or 0 list (replicate n v) (h.sized ∙ sym (length-replicate n v))
    (λ q m. h.below q (omega arith) ∙ sym (get_or-replicate n q v 0 (omega (arith, h.sized))))
