-- Row 4: the draft has noted a name that is not there exactly where the description names one. The record's counts are the description's at every
-- line, so each line is judged as the row judges it; a note once made stays.
-- Assumes nothing.
use Prim.Native.Nat.{ℕ, suc, ◌+◌, ◌≤◌}
use mathlib.Core.Path.{◌≡◌, refl, sym, ◌∙◌, ap}
use mathlib.Core.Bool.{Bool, true, false, cond, not, ◌&&◌, ◌||◌}
use mathlib.Core.List.{List, [], ◌∷◌}
use native.Mathlib.Omega.{arith}
use lib.ListN.{length}
use Rattle.laws.specs.Lists.{any}
use Rattle.railway.specs.declared.End.{End}
use Rattle.railway.specs.declared.Side.{Side}
use Rattle.railway.specs.declared.Railway.{Railway}
use Rattle.case_file.specs.Form.{EndField, section, port, JoinLine, SignalLine, TrainLine, Description, WellFormed, said_weight}
use Rattle.case_file.specs.Rows.{within, known, unknown_join, unknown_signal, unknown_closed, unknown_train, unknown_row}
use Rattle.case_file.specs.Recording.{end_of}
use Rattle.case_file.proofs.Rows.{is-within}
use Rattle.case_draft.specs.declared.Draft.{Draft}
use Rattle.case_draft.specs.KnownEnd.{NotThere, There}
use Rattle.case_draft.specs.Drafting.{is_there, put_point, put_ends, put_join, put_at, put_signal, put_closed, weighed_in, put_train, with_railway, unknown_in}
use Rattle.case_draft.proofs.Folding.{put_rising, put_each}
use Rattle.case_draft.proofs.Sized.{Sized, SizedDraft, sized-rising, sized-each, sized-point, sized-put-join, sized-put-signal, sized-put-closed, sized-put-train}

-- or
pub or_nothing : (a : Bool) → (a || false) ≡ a
or_nothing true = refl
or_nothing false = refl

pub or-all : (a : Bool) → (a || true) ≡ true
or-all true = refl
or-all false = refl

pub or_assoc : (a b c : Bool) → ((a || b) || c) ≡ (a || (b || c))
or_assoc true b c = refl
or_assoc false b c = refl

-- a flag that each line may raise
module _ (s p k : ℕ) {A : Type 0} (flag : Draft → Bool) (test : A → Bool) where
  pub flag-each : (put : Draft → A → Draft) → ((d : Draft) → SizedDraft s p k d → (x : A) → SizedDraft s p k (put d x))
      → ((d : Draft) → SizedDraft s p k d → (x : A) → flag (put d x) ≡ (flag d || test x))
      → (xs : List A) (d : Draft) → SizedDraft s p k d → flag (put_each put d xs) ≡ (flag d || any test xs)
  unfolding put_each any
  flag-each put keep h [] d z = sym (or_nothing (flag d))
  flag-each put keep h (x ∷ xs) d z =
      flag-each put keep h xs (put d x) (keep d z x) ∙ ap (λ (b : Bool). b || any test xs) (h d z x) ∙ or_assoc (flag d) (test x) (any test xs)

  pub flag-rising : (put : Draft → ℕ → A → Draft) (top : ℕ) → ((d : Draft) → SizedDraft s p k d → (n : ℕ) (x : A) → SizedDraft s p k (put d n x))
      → ((d : Draft) → SizedDraft s p k d → (n : ℕ) (x : A) → 1 ≤ n → n ≤ top → flag (put d n x) ≡ (flag d || test x))
      → (xs : List A) (n : ℕ) (d : Draft) → SizedDraft s p k d → 1 ≤ n → n + length xs ≤ suc top → flag (put_rising put n d xs) ≡ (flag d || any test xs)
  unfolding put_rising any
  flag-rising put top keep h [] n d z l f = sym (or_nothing (flag d))
  flag-rising put top keep h (x ∷ xs) n d z l f =
      flag-rising put top keep h xs (suc n) (put d n x) (keep d z n x) (omega arith) (omega arith)
      ∙ ap (λ (b : Bool). b || any test xs) (h d z n x l (omega arith)) ∙ or_assoc (flag d) (test x) (any test xs)

-- P lines raise no flag
pub points-keep : (flag : Draft → Bool) → ((w : Draft) (r : Railway) → flag (with_railway w r) ≡ flag w)
    → (xs : List Side) (n : ℕ) (w : Draft) → flag (put_rising put_point n w xs) ≡ flag w
unfolding put_rising put_point
points-keep flag h [] n w = refl
points-keep flag h (x ∷ xs) n w = points-keep flag h xs (suc n) (put_point w n x) ∙ h w _

module _ (d : Description) where
  abbrev pub SizedBy : Railway → Type 0
  SizedBy r = Sized d.sections d.points d.trains r

  pub there-known : (r : Railway) → SizedBy r → (e : EndField) → is_there r e ≡ known d e
  there-known r z (section n s) = ap (within n) z.sections
  there-known r z (port n l) = ap (within n) z.points

  module _ (w : Draft) (z : SizedBy w.railway) where
    ends-unknown : (a b : Bool) (e f : End) → (put_ends w (cond a (There e) NotThere) (cond b (There f) NotThere)).unknown ≡ (w.unknown || not (a && b))
    ends-unknown true true e f = sym (or_nothing w.unknown)
    ends-unknown true false e f = sym (or-all w.unknown)
    ends-unknown false b e f = sym (or-all w.unknown)

    pub join-unknown : (j : JoinLine) → (put_join w j).unknown ≡ (w.unknown || unknown_join d j)
    unfolding put_join
    join-unknown j =
        rw (← there-known w.railway z j.one, ← there-known w.railway z j.other)
        (ends-unknown (is_there w.railway j.one) (is_there w.railway j.other) (end_of j.one) (end_of j.other))

    at-unknown : (a : Bool) (e : End) → (put_at w (cond a (There e) NotThere)).unknown ≡ (w.unknown || not a)
    at-unknown true e = sym (or_nothing w.unknown)
    at-unknown false e = sym (or-all w.unknown)

    pub signal-unknown : (g : SignalLine) → (put_signal w g).unknown ≡ (w.unknown || unknown_signal d g)
    unfolding put_signal
    signal-unknown g =
        rw (← there-known w.railway z (section g.number g.side))
        (at-unknown (is_there w.railway (section g.number g.side)) (end_of (section g.number g.side)))

    closed-cases : (a b v : Bool) (r : Railway) → a ≡ b
        → (cond a (record { railway = r; weight = w.weight; unknown = w.unknown; wrong = w.wrong; double = v })
        (unknown_in w)).unknown ≡ (w.unknown || not b)
    closed-cases a true v r e = rw e (sym (or_nothing w.unknown))
    closed-cases a false v r e = rw e (sym (or-all w.unknown))

    pub closed-unknown : (n : ℕ) → (put_closed w n).unknown ≡ (w.unknown || unknown_closed d n)
    unfolding put_closed
    closed-unknown n = closed-cases (within n w.railway.sections) (within n d.sections) _ _ (ap (within n) z.sections)

    train-cases : (v : Draft) → v.unknown ≡ w.unknown → (a b c x y : Bool) (r : Railway) → a ≡ true → b ≡ x → c ≡ y
        → (cond (a && (b && c)) (with_railway v r) (unknown_in v)).unknown ≡ (w.unknown || not (x && y))
    train-cases v u a b c true true r e f g = rw (e, f, g) (u ∙ sym (or_nothing w.unknown))
    train-cases v u a b c true false r e f g = rw (e, f, g) (sym (or-all w.unknown))
    train-cases v u a b c false y r e f g = rw (e, f) (sym (or-all w.unknown))

    pub train-unknown : (n : ℕ) (t : TrainLine) → 1 ≤ n → n ≤ d.trains → (put_train w n t).unknown ≡ (w.unknown || unknown_train d t)
    unfolding put_train
    train-unknown n t l h =
        let r = w.railway in
        train-cases (weighed_in w (said_weight t.weight)) refl (within n r.trains)
        (within t.start r.sections) (within t.destination r.sections) _ _ _
        (ap (within n) z.trains ∙ is-within n d.trains l h) (ap (within t.start) z.sections) (ap (within t.destination) z.sections)

  pub unknown-noted : (w : Draft) → SizedBy w.railway → w.unknown ≡ false → WellFormed d
      → (put_rising put_train 1 (put_each put_closed
      (put_each put_signal (put_each put_join (put_rising put_point 1 w d.legs) d.joins) d.signals) d.closed)
      d.roster).unknown ≡ unknown_row d
  unfolding unknown_row
  unknown-noted w z u f =
      let s = d.sections in
      let p = d.points in
      let k = d.trains in
      let w1 = put_rising put_point 1 w d.legs in
      let w2 = put_each put_join w1 d.joins in
      let w3 = put_each put_signal w2 d.signals in
      let w4 = put_each put_closed w3 d.closed in
      let z1 = sized-rising s p k put_point (sized-point s p k) d.legs 1 w z in
      let z2 = sized-each s p k put_join (sized-put-join s p k) d.joins w1 z1 in
      let z3 = sized-each s p k put_signal (sized-put-signal s p k) d.signals w2 z2 in
      let z4 = sized-each s p k put_closed (sized-put-closed s p k) d.closed w3 z3 in
      let o = f.one-a-train in
      let e1 : w1.unknown ≡ w.unknown = points-keep (λ x. x.unknown) (λ w r. refl) d.legs 1 w in
      let e2 = flag-each s p k (λ x. x.unknown) (unknown_join d) put_join (sized-put-join s p k) join-unknown d.joins w1 z1 in
      let e3 = flag-each s p k (λ x. x.unknown) (unknown_signal d) put_signal (sized-put-signal s p k) signal-unknown d.signals w2 z2 in
      let e4 = flag-each s p k (λ x. x.unknown) (unknown_closed d) put_closed (sized-put-closed s p k) closed-unknown d.closed w3 z3 in
      let e5 = flag-rising s p k (λ x. x.unknown) (unknown_train d) put_train d.trains
      (sized-put-train s p k) train-unknown d.roster 1 w4 z4 (omega arith) (omega arith) in
      e5 ∙ rw (e4, e3, e2, e1, u)
