-- What the comparison answers is `compare` (logs/Computed). The record's refusal comes first; then a log that is at fault; then the lowest train that differs. Assumes nothing.
use mathlib.Core.Path.{◌≡◌, refl, sym, ◌∙◌, ap}
use mathlib.Core.Logic.{◌⊎◌, inl, inr}
use mathlib.Core.Bool.{Bool, true, false, ◌||◌}
use mathlib.Core.List.{List}
use mathlib.Core.Option.{none, some}
use Prim.Native.Nat.{ℕ, ◌+◌, ◌≤◌, ◌<◌}
use native.Mathlib.Omega.{arith}
use lib.ListN.{length, take}
use borrow.Author.Tests.{lt-ltb}
use Rattle.laws.specs.Below.{lowest}
use Rattle.laws.proofs.Bools.{lt?, clash, or_right}
use Rattle.laws.proofs.Below.{lowest-cases, lowest-least}
use Rattle.railway.specs.declared.Railway.{Railway}
use Rattle.railway.specs.declared.Refusal.{Refusal}
use Rattle.railway.specs.declared.Refusal.TheVariants.{Log}
use Rattle.railway.specs.CaseAnswer.{Accepted, Refused as CaseRefused}
use Rattle.railway.specs.Refusals.{refuse_if}
use Rattle.railway_acceptance.specs.Answers.{Judged}
use Rattle.railway_acceptance.proofs.Answers.{judged-refused, judged-accepted}
use Rattle.logs.specs.declared.Entry.{Entry}
use Rattle.logs.specs.LogAnswer.{LogAnswer, Agree, Differ, Refused}
use Rattle.logs.specs.Logs.{most_entries, faulty, LogPost}
use Rattle.logs.specs.Computed.{differs, answer_by, compare}
use Rattle.logs.proofs.Computed.{compare-keeps, compare-refused, compare-logs}
use Rattle.logs_entries.specs.declared.Packed.{Packed}
use Rattle.logs_entries.specs.Packing.{PackedPost}
use Rattle.logs_entries.proofs.Packing.{whole}

module _ (r : Railway) (a b : List Entry) where
  keeps : (x : LogAnswer) → x ≡ compare r a b → LogPost r a b x
  keeps x e = rw e (compare-keeps r a b)

  pub compare-record : (f : Refusal) → Judged r (CaseRefused f) → LogPost r a b (Refused f)
  compare-record f j = keeps (Refused f) (sym (compare-refused r a b f (judged-refused r j {f = f} refl)))

  module _ (j : Judged r Accepted) (x y : Bool) (first : x ≡ faulty r a) (second : y ≡ faulty r b) where
    by_logs : compare r a b ≡ answer_by (refuse_if (x || y) Log none) (lowest (differs a b) r.trains)
    by_logs = compare-logs r a b (judged-accepted r j refl) ∙ rw (first, second) refl

    pub compare-fault : (x || y) ≡ true → LogPost r a b (Refused Log)
    compare-fault h = keeps (Refused Log) (sym (by_logs ∙ rw h refl))

    pub compare-trains : (x || y) ≡ false → (z : LogAnswer) → z ≡ answer_by none (lowest (differs a b) r.trains) → LogPost r a b z
    compare-trains h z e = keeps z (e ∙ sym (by_logs ∙ rw h refl))

-- WITH EACH LOG TAKEN OUT. A log that is longer than a log may be is at fault; of others what was taken out is the log.
module _ (r : Railway) where
  too-long : (log : List Entry) (p : Packed) → PackedPost log p → 256 < p.count → true ≡ faulty r log
  unfolding faulty
  too-long log p h l = let m : most_entries < length log = (let c = h.out.counted in omega arith) in rw (lt-ltb most_entries (length log) m) refl

  module _ (a b : List Entry) where
    pub compare-long : Judged r Accepted → (p q : Packed) → PackedPost a p → PackedPost b q → (256 < p.count) ⊎ (256 < q.count) → LogPost r a b (Refused Log)
    compare-long j p q h k (inl l) = compare-fault r a b j true (faulty r b) (too-long a p h l) refl refl
    compare-long j p q h k (inr l) = compare-fault r a b j (faulty r a) true refl (too-long b q k l) (or_right (faulty r a) true refl)

    pub compare-taken : (p q : Packed) → PackedPost a p → PackedPost b q → p.count ≤ 256 → q.count ≤ 256 → (x : LogAnswer)
        → LogPost r (take p.next p.entries) (take q.next q.entries) x → LogPost r a b x
    compare-taken p q h k l m x w = let f = whole a p h l in let g = whole b q k m in rw (sym f, sym g) w

-- THE LOWEST that passes a test, where none below t does
module _ (f : ℕ → Bool) (t : ℕ) (none_below : (u : ℕ) → u < t → f u ≡ false) where
  pub lowest-here : (k : ℕ) → t < k → true ≡ f t → Differ t ≡ answer_by none (lowest f k)
  lowest-here k l e = elim (lowest-cases f k) [
    | inr w ↦ clash (sym e) (w.1 t l)
    | inl w ↦ elim (lt? w.0 t) [
      | inl m ↦ clash w.3 (none_below w.0 m)
      | inr m ↦ (let n : w.0 ≤ t = lowest-least f k w.0 w.1 t (sym e) l in let z : w.0 ≡ t = omega arith in sym (ap (answer_by none) (w.1 ∙ ap (λ (u : ℕ). some u) z)))
    ]
  ]

  pub lowest-none : (k : ℕ) → k ≤ t → Agree ≡ answer_by none (lowest f k)
  lowest-none k l = elim (lowest-cases f k) [
    | inr w ↦ sym (ap (answer_by none) w.0)
    | inl w ↦ clash w.3 (none_below w.0 (let m = w.2 in omega arith))
  ]

  pub below_next : false ≡ f t → (u : ℕ) → u < t + 1 → f u ≡ false
  below_next e u l = elim (lt? u t) [ inl m ↦ none_below u m | inr m ↦ (let z : u ≡ t = omega arith in rw z (sym e)) ]
