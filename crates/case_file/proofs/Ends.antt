-- Ends as a case text names them, and what its J lines join. An end as written and its end of the record give each other; where no end stands in
-- two J lines, an end's join leads to the other end of the one J line that names it.
-- Assumes nothing.
use Prim.Native.Nat.{ℕ, suc, ◌-◌, ◌≤◌}
use mathlib.Core.Path.{◌≡◌, refl, sym, ◌∙◌, ap}
use mathlib.Core.Logic.{inl, inr}
use mathlib.Core.Bool.{Bool, true, false, cond, ◌||◌}
use mathlib.Core.List.{List, [], ◌∷◌, Memᴰ}
use native.Mathlib.Omega.{arith}
use lib.Dec.{eqb}
use borrow.Author.Tests.{eqb-true, eqb-false, eq-eqb, ne_eqb}
use Rattle.laws.specs.Lists.{any, repeats}
use Rattle.laws.proofs.Bools.{bool?, clash, not-true, and-true, and_both}
use Rattle.laws.proofs.Lists.{repeats-head}
use Rattle.railway.specs.declared.Side.{Side}
use Rattle.railway.specs.declared.Side.TheVariants.{Up, Down}
use Rattle.railway.specs.declared.Leg.{Leg}
use Rattle.railway.specs.declared.Leg.TheVariants.{Stem, Plus, Minus}
use Rattle.railway.specs.declared.End.{End}
use Rattle.railway.specs.declared.End.TheVariants.{Section, Port}
use Rattle.railway.specs.Joined.{Nothing, With}
use Rattle.railway.specs.Ends.{same_side, leg_index, leg_at}
use Rattle.railway.specs.Rows.{one_owner}
use Rattle.railway.specs.Rows as RR
use Rattle.case_file.specs.Form.{EndField, section, port, JoinLine, SignalLine, same_end, same_signal}
use Rattle.case_file.specs.Rows.{owner_of, join_ends}
use Rattle.case_file.specs.Recording.{end_of, field_of, partner}

-- THE SAME END, the same signal
pub side-is : (s t : Side) → same_side s t ≡ true → s ≡ t
side-is Up Up e = refl
side-is Up Down e = clash e refl
side-is Down Up e = clash e refl
side-is Down Down e = refl

pub side-self : (s : Side) → same_side s s ≡ true
side-self Up = refl
side-self Down = refl

leg-back : (l : Leg) → leg_at (leg_index l) ≡ l
leg-back Stem = refl
leg-back Plus = refl
leg-back Minus = refl

leg-is : (l k : Leg) → eqb (leg_index l) (leg_index k) ≡ true → l ≡ k
leg-is l k e = sym (leg-back l) ∙ ap leg_at (eqb-true (leg_index l) (leg_index k) e) ∙ leg-back k

pub same-is : (a b : EndField) → same_end a b ≡ true → a ≡ b
same-is (section m s) (section n t) e = let h = and-true (eqb m n) (same_side s t) e in rw (eqb-true m n h.0, side-is s t h.1)
same-is (section m s) (port n l) e = clash e refl
same-is (port m l) (section n s) e = clash e refl
same-is (port m l) (port n k) e = let h = and-true (eqb m n) (eqb (leg_index l) (leg_index k)) e in rw (eqb-true m n h.0, leg-is l k h.1)

pub same_self : (a : EndField) → same_end a a ≡ true
same_self (section m s) = and_both (eqb m m) (same_side s s) (eq-eqb m m refl) (side-self s)
same_self (port m l) = and_both (eqb m m) (eqb (leg_index l) (leg_index l)) (eq-eqb m m refl) (eq-eqb (leg_index l) (leg_index l) refl)

pub not_same : (a b : EndField) → (a ≡ b → ⊥) → same_end a b ≡ false
not_same a b f = not-true (same_end a b) (λ e. f (same-is a b e))

pub same-turned : (a b : EndField) → same_end a b ≡ false → same_end b a ≡ false
same-turned a b h = not_same b a (λ e. let z : same_end a b ≡ true = rw e (same_self a) in clash z h)

signal-path : (m n : ℕ) (s t : Side) → m ≡ n → s ≡ t → ◌≡◌ {A = SignalLine} (record { number = m; side = s }) (record { number = n; side = t })
signal-path m n s t p q = rw (p, q)

pub signal-is : (g h : SignalLine) → same_signal g h ≡ true → g ≡ h
signal-is g h e =
    let t = and-true (eqb g.number h.number) (same_side g.side h.side) e in
    signal-path g.number h.number g.side h.side (eqb-true g.number h.number t.0) (side-is g.side h.side t.1)

pub signal-self : (g : SignalLine) → same_signal g g ≡ true
signal-self g = and_both (eqb g.number g.number) (same_side g.side g.side) (eq-eqb g.number g.number refl) (side-self g.side)

-- THE TWO NUMBERINGS
pub end-field : (e : End) → end_of (field_of e) ≡ e
end-field (Section n s) = let z : suc n.0 - 1 ≡ n.0 = omega arith in rw z
end-field (Port n l) = let z : suc n.0 - 1 ≡ n.0 = omega arith in rw z

pub field-one : (e f : End) → field_of e ≡ field_of f → e ≡ f
field-one e f h = sym (end-field e) ∙ ap end_of h ∙ end-field f

abbrev pub Counted : EndField → Type 0
Counted (section n s) = 1 ≤ n
Counted (port n l) = 1 ≤ n

pub field_end : (e : EndField) → Counted e → field_of (end_of e) ≡ e
field_end (section n s) h = let z : suc (n - 1) ≡ n = omega arith in rw z
field_end (port n l) h = let z : suc (n - 1) ≡ n = omega arith in rw z

-- the test of row 5 for owners, of ends as written and of the record's
pub less_one : (m n : ℕ) → 1 ≤ m → 1 ≤ n → eqb (m - 1) (n - 1) ≡ eqb m n
less_one m n a b = elim (bool? (eqb m n)) [
  | inl e ↦ let p = eqb-true m n e in rw e (eq-eqb (m - 1) (n - 1) (omega arith))
  | inr e ↦ let p = eqb-false m n e in rw e (ne_eqb (m - 1) (n - 1) (λ q. p (omega arith)))
]

pub one_same : (a b : EndField) → Counted a → Counted b → one_owner (RR.owner_of (end_of a)) (RR.owner_of (end_of b)) ≡ one_owner (owner_of a) (owner_of b)
one_same (section m s) (section n t) p q = less_one m n p q
one_same (section m s) (port n l) p q = refl
one_same (port m l) (section n s) p q = refl
one_same (port m l) (port n k) p q = less_one m n p q

-- the ends of the J lines
pub one_end : (js : List JoinLine) (j : JoinLine) → Memᴰ j js → Memᴰ j.one (join_ends js)
unfolding join_ends
one_end [] j x' = elim x' [ ]
one_end (k ∷ js) j (Memᴰ.head p) = Memᴰ.head (ap (λ (x : JoinLine). x.one) p)
one_end (k ∷ js) j (Memᴰ.tail m) = Memᴰ.tail (Memᴰ.tail (one_end js j m))

pub other-end : (js : List JoinLine) (j : JoinLine) → Memᴰ j js → Memᴰ j.other (join_ends js)
unfolding join_ends
other-end [] j x' = elim x' [ ]
other-end (k ∷ js) j (Memᴰ.head p) = Memᴰ.tail (Memᴰ.head (ap (λ (x : JoinLine). x.other) p))
other-end (k ∷ js) j (Memᴰ.tail m) = Memᴰ.tail (Memᴰ.tail (other-end js j m))

-- an end that the J lines join to x: the J line that does it, either way round
pub data Ties (js : List JoinLine) (e : EndField) (f : End) : Type 0 where
  forth : (j : JoinLine) → Memᴰ j js → e ≡ j.one → f ≡ end_of j.other → Ties js e f
  back : (j : JoinLine) → Memᴰ j js → e ≡ j.other → f ≡ end_of j.one → Ties js e f

ties-tail : (k : JoinLine) (js : List JoinLine) (e : EndField) (f : End) → Ties js e f → Ties (k ∷ js) e f
ties-tail k js e f (forth j m p q) = forth j (Memᴰ.tail m) p q
ties-tail k js e f (back j m p q) = back j (Memᴰ.tail m) p q

partner-step : (k : JoinLine) (js : List JoinLine) (e : EndField) (f : End) (p q : Bool) → same_end e k.one ≡ p → same_end e k.other ≡ q
    → (partner js e ≡ With f → Ties js e f) → cond p (With (end_of k.other)) (cond q (With (end_of k.one)) (partner js e)) ≡ With f → Ties (k ∷ js) e f
partner-step k js e f true q hp hq ih h = let z : end_of k.other ≡ f = cc in forth k (Memᴰ.head refl) (same-is e k.one hp) (sym z)
partner-step k js e f false true hp hq ih h = let z : end_of k.one ≡ f = cc in back k (Memᴰ.head refl) (same-is e k.other hq) (sym z)
partner-step k js e f false false hp hq ih h = ties-tail k js e f (ih h)

pub partner-ties : (js : List JoinLine) (e : EndField) (f : End) → partner js e ≡ With f → Ties js e f
unfolding partner
partner-ties [] e f h = let z : ◌≡◌ {A = ℕ} 0 1 = cc in absurd (omega arith)
partner-ties (k ∷ js) e f h = partner-step k js e f (same_end e k.one) (same_end e k.other) refl refl (λ g. partner-ties js e f g) h

-- where no end is in two joins, each J line joins its two ends
module _ (k : JoinLine) (js : List JoinLine) (once : repeats same_end (join_ends (k ∷ js)) ≡ false) where
  apart : same_end k.one k.other ≡ false
  unfolding join_ends
  apart = (repeats-head same_end k.one (k.other ∷ join_ends js) once).0 k.other (Memᴰ.head refl)

  one-not : (e : EndField) → Memᴰ e (join_ends js) → same_end e k.one ≡ false
  unfolding join_ends
  one-not e m = same-turned k.one e ((repeats-head same_end k.one (k.other ∷ join_ends js) once).0 e (Memᴰ.tail m))

  other-not : (e : EndField) → Memᴰ e (join_ends js) → same_end e k.other ≡ false
  unfolding join_ends
  other-not e m = same-turned k.other e ((repeats-head same_end k.other (join_ends js) (repeats-head same_end k.one (k.other ∷ join_ends js) once).1).0 e m)

  later-once : repeats same_end (join_ends js) ≡ false
  unfolding join_ends
  later-once = (repeats-head same_end k.other (join_ends js) (repeats-head same_end k.one (k.other ∷ join_ends js) once).1).1

pub partner-one : (js : List JoinLine) (j : JoinLine) → repeats same_end (join_ends js) ≡ false → Memᴰ j js → partner js j.one ≡ With (end_of j.other)
unfolding partner
partner-one [] j once x'' = elim x'' [ ]
partner-one (k ∷ js) j once (Memᴰ.head p) = rw (p, same_self k.one)
partner-one (k ∷ js) j once (Memᴰ.tail m) =
    rw (one-not k js once j.one (one_end js j m), other-not k js once j.one (one_end js j m)) (partner-one js j (later-once k js once) m)

pub partner-other : (js : List JoinLine) (j : JoinLine) → repeats same_end (join_ends js) ≡ false → Memᴰ j js → partner js j.other ≡ With (end_of j.one)
unfolding partner
partner-other [] j once x'' = elim x'' [ ]
partner-other (k ∷ js) j once (Memᴰ.head p) = rw (p, same-turned k.one k.other (apart k js once), same_self k.other)
partner-other (k ∷ js) j once (Memᴰ.tail m) =
    rw (one-not k js once j.other (other-end js j m), other-not k js once j.other (other-end js j m)) (partner-other js j (later-once k js once) m)

-- an end that is not joined is in no J line
nothing-step : (k : JoinLine) (js : List JoinLine) (e : EndField) (p q : Bool) → same_end e k.one ≡ p → same_end e k.other ≡ q
    → (partner js e ≡ Nothing → any (same_end e) (join_ends js) ≡ false)
    → cond p (With (end_of k.other)) (cond q (With (end_of k.one)) (partner js e)) ≡ Nothing → p || (q || any (same_end e) (join_ends js)) ≡ false
nothing-step k js e true q hp hq ih h = let z : ◌≡◌ {A = ℕ} 0 1 = cc in absurd (omega arith)
nothing-step k js e false true hp hq ih h = let z : ◌≡◌ {A = ℕ} 0 1 = cc in absurd (omega arith)
nothing-step k js e false false hp hq ih h = ih h

pub partner-nothing : (js : List JoinLine) (e : EndField) → partner js e ≡ Nothing → any (same_end e) (join_ends js) ≡ false
unfolding partner join_ends any
partner-nothing [] e h = refl
partner-nothing (k ∷ js) e h = nothing-step k js e (same_end e k.one) (same_end e k.other) refl refl (λ g. partner-nothing js e g) h
