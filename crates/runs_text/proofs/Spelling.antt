-- The lines of runs, from the bytes put one behind the other, and how long they can be. Assumes nothing.
use mathlib.Core.Path.{◌≡◌, refl, sym, ◌∙◌, ap}
use mathlib.Core.Bool.{Bool, true, false, cond}
use mathlib.Core.List.{List, [], ◌∷◌, ◌++◌}
use mathlib.Core.Option.{none}
use Prim.Native.Nat.{ℕ, zero, suc, ◌+◌, ◌*◌, ◌≤◌, ◌<◌}
use native.Mathlib.Omega.{arith}
use native.Mathlib.Numerals.{add-one}
use lib.ListN.{length, get_or, length-append}
use borrow.Author.Tests.{eq-eqb, ne_eqb}
use Rattle.laws.specs.Below.{any_below, sum_below, gather_below}
use Rattle.laws.proofs.Below.{any_same, sum_same, gather-same}
use Rattle.text.specs.Text.{decimal, tab, line_end, line, bytes}
use Rattle.text.specs.Appending.{Appended}
use Rattle.text.proofs.Appending.{append-then, line-more, line-last}
use Rattle.text.proofs.Decimal.{digits-length}
use Rattle.railway.specs.declared.Railway.{Railway}
use Rattle.railway.specs.Bounds.{most_trains}
use Rattle.railway.specs.Rows.{record_refusal}
use Rattle.game.proofs.Accepted.{facts}
use Rattle.answer_lines.specs.Lines.{none_line, PutPost, Puts}
use Rattle.case_file.specs.Written.{Written}
use Rattle.runs.specs.Runs.{no_run, train_run}
-- (Examples is named so that it is checked before: a wrong definition then shows at a computed value.)
use Rattle.runs_text.specs.Written.{is_none, run_field, run_line, last_line, runs_text, RailwayRuns, text_bytes, TrainsRun}

-- A TRAIN'S LINE, without a run and with one
pub run_none : {o o₁ o₂ o₃ : List ℕ} {a a₁ a₂ a₃ : ℕ} (t m v : ℕ) → m ≡ t + 1 → v ≡ no_run → Appended o a (bytes "run" ++ (tab ∷ [])) o₁ a₁
    → Appended o₁ a₁ (decimal m ++ (tab ∷ [])) o₂ a₂
    → Appended o₂ a₂ (bytes "none" ++ (line_end ∷ [])) o₃ a₃ → Appended o a (run_line t v) o₃ a₃
run_none t m v is e word train run =
    let b : is_none v ≡ true = eq-eqb v no_run e in
    let n : suc t ≡ m = sym (add-one t) ∙ sym is in
    rw (b, n) (line-more (bytes "run") (decimal m) _ word (line-more (decimal m) (bytes "none") [] train (line-last (bytes "none") run)))

pub run-some : {o o₁ o₂ o₃ : List ℕ} {a a₁ a₂ a₃ : ℕ} (t m v : ℕ) → m ≡ t + 1 → (v ≡ no_run → ⊥) → Appended o a (bytes "run" ++ (tab ∷ [])) o₁ a₁
    → Appended o₁ a₁ (decimal m ++ (tab ∷ [])) o₂ a₂
    → Appended o₂ a₂ (decimal v ++ (line_end ∷ [])) o₃ a₃ → Appended o a (run_line t v) o₃ a₃
run-some t m v is e word train run =
    let b : is_none v ≡ false = ne_eqb v no_run e in
    let n : suc t ≡ m = sym (add-one t) ∙ sym is in
    rw (b, n) (line-more (bytes "run") (decimal m) _ word (line-more (decimal m) (decimal v) [] train (line-last (decimal v) run)))

-- ALL LINES, with the last
module _ (f : ℕ → ℕ) (k : ℕ) {o o₁ o₂ : List ℕ} {a a₁ a₂ : ℕ} (trains : Appended o a (gather_below (λ t. run_line t (f t)) k) o₁ a₁) (some-none : Bool)
    (is : some-none ≡ any_below (λ t. is_none (f t)) k) where
  pub text-none : some-none ≡ true → Appended o₁ a₁ (bytes "none" ++ (line_end ∷ [])) o₂ a₂ → Appended o a (runs_text f k) o₂ a₂
  text-none e last = let b : any_below (λ t. is_none (f t)) k ≡ true = sym is ∙ e in rw b (append-then trains (line-last (bytes "none") last))

  pub text-sum : {o₃ : List ℕ} {a₃ : ℕ} (n : ℕ) → some-none ≡ false → n ≡ sum_below f k → Appended o₁ a₁ (bytes "least" ++ (tab ∷ [])) o₂ a₂
      → Appended o₂ a₂ (decimal n ++ (line_end ∷ [])) o₃ a₃
      → Appended o a (runs_text f k) o₃ a₃
  text-sum n e sum word last =
      let b : any_below (λ t. is_none (f t)) k ≡ false = sym is ∙ e in
      rw (b, ← sum) (append-then trains (line-more (bytes "least") (decimal n) [] word (line-last (decimal n) last)))

-- LENGTHS: a line of a train has at most 26 bytes, the last 17
field-short : (v : ℕ) → length (run_field v) ≤ 10
unfolding bytes
field-short v = go (is_none v)
  where
    go : (b : Bool) → length (cond b (bytes "none") (decimal v)) ≤ 10
    go true = omega arith
    go false = digits-length 10 v

line-short : (t v : ℕ) → length (run_line t v) ≤ 26
unfolding line bytes
line-short t v = simp length-append (omega (arith, digits-length 10 (suc t), field-short v))

lines-short : (f : ℕ → ℕ) (k : ℕ) → length (gather_below (λ t. run_line t (f t)) k) ≤ 26 * k
unfolding gather_below
lines-short f zero = omega arith
lines-short f (suc k) = rw (length-append (gather_below (λ t. run_line t (f t)) k) (run_line k (f k))) (omega (arith, lines-short f k, line-short k (f k)))

least-short : (n : ℕ) → length (line (bytes "least" ∷ decimal n ∷ [])) ≤ 17
unfolding line bytes
least-short n = simp length-append (omega (arith, digits-length 10 n))

none-short : length none_line ≤ 17
unfolding line bytes
none-short = omega arith

last-short : (f : ℕ → ℕ) (k : ℕ) → length (last_line f k) ≤ 17
last-short f k = go (any_below (λ t. is_none (f t)) k)
  where
    go : (b : Bool) → length (cond b none_line (line (bytes "least" ∷ decimal (sum_below f k) ∷ []))) ≤ 17
    go true = none-short
    go false = least-short (sum_below f k)

pub text-short : (f : ℕ → ℕ) (k : ℕ) → k ≤ most_trains → length (runs_text f k) ≤ text_bytes
text-short f k l = rw (length-append (gather_below (λ t. run_line t (f t)) k) (last_line f k)) (omega (arith, l, lines-short f k, last-short f k))

-- THE SAME RUNS below k, the same text
pub text_same : (f g : ℕ → ℕ) (k : ℕ) → ((t : ℕ) → t < k → f t ≡ g t) → runs_text f k ≡ runs_text g k
text_same f g k h =
    let a : gather_below (λ t. run_line t (f t)) k ≡ gather_below (λ t. run_line t (g t)) k = gather-same (λ t. run_line t (f t)) (λ t. run_line t (g t)) k (λ t l. ap (run_line t) (h t l)) in
    let b : any_below (λ t. is_none (f t)) k ≡ any_below (λ t. is_none (g t)) k = any_same (λ t. is_none (f t)) (λ t. is_none (g t)) k (λ t l. ap is_none (h t l)) in
    let c : sum_below f k ≡ sum_below g k = sum_same f g k h in
    rw (a, b, c) refl

-- A RAILWAY'S TEXT, put
pub railway-put : (r : Railway) → record_refusal r ≡ none → (runs old new : List ℕ) (w : Written) → TrainsRun r runs
    → PutPost (runs_text (λ t. get_or runs t 0) r.trains) old w new → Puts (RailwayRuns r) text_bytes old w new
railway-put r accepted runs old new w h p =
    record {
      text = runs_text (λ t. get_or runs t 0) r.trains;
      output = record { up = h.up; down = h.down; is_up = h.is_up; is_down = h.is_down; written = text_same (λ t. get_or runs t 0) (train_run r h.up h.down) r.trains h.each };
      short = text-short (λ t. get_or runs t 0) r.trains (facts r accepted).few-trains;
      put = p;
    }
