-- Line after line: what has been written is all that is written for the lines so far, and as long as lines are read, what is written for more of them is that and what they are answered at the panel
-- as it was left last. Assumes nothing.
use mathlib.Core.Path.{◌≡◌, refl, sym, ◌∙◌, ap}
use mathlib.Core.Bool.{Bool, true, false, cond}
use mathlib.Core.List.Memᴰ
use mathlib.Core.List.{List, [], ◌∷◌, ◌++◌, append-nil, append_assoc}
use Prim.Native.Nat.{ℕ, suc, ◌+◌, ◌*◌, ◌≤◌, ◌<◌}
use native.Mathlib.Omega.{arith}
use lib.ListN.{length, take, replicate, length-append, length-replicate}
use lib.Seq.{length-take-le}
use Rattle.io.specs.Counts.{IsPrefixLen}
use Rattle.laws.specs.Lists.{Every}
use Rattle.laws.proofs.Bools.{clash}
use Rattle.laws.proofs.Lists.{every-none, every_more}
use Rattle.text.specs.Appending.{Appended}
use Rattle.text.proofs.Appending.{append-none, append-then, front_fits, front_cut}
use Rattle.railway.specs.declared.Railway.{Railway}
use Rattle.case_file.specs.Rows.{most_bytes}
use Rattle.case_file.proofs.Cut.{cut-decides}
use Rattle.case_file.proofs.Given.{refused-exactly, accepted-exactly}
use Rattle.desk_lines.specs.Panel.{most_state_bytes}
use Rattle.desk_text.specs.Said.{opening_said}
use Rattle.desk_io.specs.Session.{Panel, Heard, heard_at, Input, heard_for, answers, all_behind, panel_text}
use Rattle.desk_io.specs.Followed.{Wrote, Came, Turned, over, heard, Ran, CaseFollowed, Followed, CutFollows}

-- THE LOOP: so many bytes were written for the opening and the lines so far, of which there were as many as turns at most
pub record Listened (r : Railway) (figs sets : List ℕ) (p : Panel) (n : ℕ) (going : Bool) (turns : ℕ) : Type 0 where
  pub inputs : List Input
  pub came : Every Came inputs
  pub count : n ≡ length (panel_text r figs sets inputs)
  pub more : going ≡ true → (xs : List Input) → length (panel_text r figs sets (inputs ++ xs)) ≡ n + length (answers p xs)
  pub few : n ≤ most_state_bytes * (turns + 1)

-- one more that came
every-last : (xs : List Input) (x : Input) → Every Came xs → Came x → Every Came (xs ++ (x ∷ []))
every-last [] x h c = every_more Came x [] c (every-none Came)
every-last (y ∷ xs) x h c = every_more Came y (xs ++ (x ∷ [])) (h y (Memᴰ.head refl)) (every-last xs x (λ z m. h z (Memᴰ.tail m)) c)

-- nothing is written for no lines
none-behind : (b : Bool) (p : Panel) → cond b (answers p []) [] ≡ []
unfolding answers
none-behind true p = refl
none-behind false p = refl

alone : (h : Heard) → length (all_behind h []) ≡ length h.text
alone h = rw (none-behind h.going h.panel, append-nil h.text)

-- for what was written, and lines behind it
behind : (h : Heard) (p : Panel) (n : ℕ) → p ≡ h.panel → h.going ≡ true → n ≡ length h.text → (xs : List Input) → length (all_behind h xs) ≡ n + length (answers p xs)
behind h p n same on count xs = rw (on, same, count) (length-append h.text (answers h.panel xs))

module _ (r : Railway) (figs sets : List ℕ) where
  abbrev opening : Heard
  opening = heard_at r figs sets (opening_said r figs sets)

  pub listened-opening : (p : Panel) (n : ℕ) (g : Bool) → Wrote opening p n g → Listened r figs sets p n g 0
  listened-opening p n g w =
      record {
        inputs = [];
        came = every-none Came;
        count = w.bytes ∙ sym (alone opening);
        more = λ on xs. behind opening p n w.panel (sym w.going ∙ on) w.bytes xs;
        few = omega (arith, w.few);
      }

  module _ (p : Panel) (n : ℕ) (g : Bool) (turns : ℕ) (w : Listened r figs sets p n g turns) (on : g ≡ true) (q : Panel) (m : ℕ) (h : Bool) where
    listened-over : m ≡ 0 → h ≡ false → Listened r figs sets q (n + m) h (turns + 1)
    listened-over none ends =
        record { inputs = w.inputs; came = w.came; count = omega (arith, none, w.count); more = λ goes. clash goes ends; few = omega (arith, none, w.few) }

    module _ (x : Input) (c : Came x) (v : Wrote (heard_for p x) q m h) where
      heard-one : length (answers p (x ∷ [])) ≡ m
      unfolding answers
      heard-one = alone (heard_for p x) ∙ sym v.bytes

      heard-more : h ≡ true → (xs : List Input) → length (answers p (x ∷ xs)) ≡ m + length (answers q xs)
      unfolding answers
      heard-more goes xs = behind (heard_for p x) q m v.panel (sym v.going ∙ goes) v.bytes xs

      listened-heard : Listened r figs sets q (n + m) h (turns + 1)
      listened-heard =
          record {
            inputs = w.inputs ++ (x ∷ []);
            came = every-last w.inputs x w.came c;
            count = omega (arith, heard-one, w.more on (x ∷ []));
            more = λ goes xs. ap (λ (k : List Input). length (panel_text r figs sets k)) (append_assoc w.inputs (x ∷ []) xs) ∙ w.more on (x ∷ xs) ∙ omega (arith, heard-more goes xs);
            few = omega (arith, w.few, v.few);
          }

    pub listened-next : Turned p q m h → Listened r figs sets q (n + m) h (turns + 1)
    listened-next (over same none ends) = listened-over none ends
    listened-next (heard x c v) = listened-heard x c v

    -- what is written in a turn is counted: no more lines come than this
    pub counted : Turned p q m h → turns < 72057594037927936 → n + m < 18446744073709551616
    counted t few = omega (arith, (listened-next t).few)

  pub listened-end : (p : Panel) (n : ℕ) (g : Bool) (turns : ℕ) → Listened r figs sets p n g turns → Ran r figs sets n
  listened-end p n g turns w = record { inputs = w.inputs; came = w.came; count = w.count }

-- THE CASE that came in
pub followed-by : (old case : List ℕ) (came n : ℕ) → length old ≡ suc most_bytes → length case ≡ length old → came ≤ length case → CaseFollowed (take came case) n → Followed n
followed-by old case came n most same within f =
    record { case = take came case; short = omega (arith, length-take-le came case within, most, same, within); followed = f }

pub cut-follows : CutFollows
cut-follows case n m enough f =
    let same = cut-decides case m enough in
    record {
      refused = λ g w. f.refused g ((refused-exactly (take m case) g).0 (same ∙ (refused-exactly case g).1 w));
      accepted = λ r w. f.accepted r ((accepted-exactly (take m case) r).0 (same ∙ (accepted-exactly case r).1 w));
    }

-- a buffer of the call's own
pub own-length : (own : List ℕ) (n : ℕ) → own ≡ replicate n 0 → length own ≡ n
own-length own n blank = ap length blank ∙ length-replicate {A = ℕ} n 0

-- A LINE that is read byte by byte: what is kept of it stands at the front of the buffer
pub record Kept (old new : List ℕ) (n : ℕ) : Type 0 where
  pub text : List ℕ
  pub put : Appended old 0 text new n
  pub sized : length new ≡ length old

pub kept-none : (old : List ℕ) → Kept old old 0
kept-none old = record { text = []; put = append-none old 0; sized = refl }

module _ {old new : List ℕ} {n : ℕ} (k : Kept old new n) where
  pub kept_next : (b : ℕ) (next : List ℕ) (m : ℕ) → Appended new n (b ∷ []) next m → length next ≡ length new → Kept old next m
  kept_next b next m p same = record { text = k.text ++ (b ∷ []); put = append-then k.put p; sized = same ∙ k.sized }

  pub kept-counts : IsPrefixLen n new
  kept-counts = (front_fits k.put k.sized, front_cut k.put k.sized)
