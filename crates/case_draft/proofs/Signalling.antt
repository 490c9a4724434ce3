-- Row 7 and the flags: signals are added one by one. A section end has its flag exactly if a G line names it or it had one before; a signal stands
-- there already exactly where a G line before names it too.
-- Assumes nothing.
use Prim.Native.Nat.{ℕ, suc, ◌-◌, ◌/◌, ◌<◌, ◌≤◌}
use mathlib.Core.Path.{◌≡◌, refl, sym, ◌∙◌, ap}
use mathlib.Core.Logic.{◌⊎◌, inl, inr}
use mathlib.Core.Bool.{Bool, true, false, cond, ◌&&◌, ◌||◌}
use mathlib.Core.List.{List, [], ◌∷◌, Memᴰ}
use native.Mathlib.Omega.{arith}
use lib.Dec.{ltb, eqb}
use lib.ListN.{length, get_or, set, length-set}
use lib.Seq.{get_or-set_same, get_or-set_other}
use borrow.Author.Tests.{lt-ltb, eqb-true, eqb-false, eq-eqb, ne_eqb}
use Rattle.laws.specs.Lists.{any, repeats, Every}
use Rattle.laws.proofs.Bools.{bool?, clash, or-false, or-none, and_both}
use Rattle.laws.proofs.Lists.{repeats-head, repeats-none, every-none}
use Rattle.railway.specs.declared.Side.{Side}
use Rattle.railway.specs.declared.End.{End}
use Rattle.railway.specs.declared.Railway.{Railway}
use Rattle.railway.specs.Bounds.{most_sections, section_ends}
use Rattle.railway.specs.Ends.{same_side, end_index}
use Rattle.railway.specs.Record.{flag_at, has_signal, with_signal}
use Rattle.railway.proofs.Ends.{index-one, section-below, end-section, index-end}
use Rattle.case_file.specs.Form.{section, SignalLine, same_signal}
use Rattle.case_file.specs.Recording.{end_of, field_of, signal_of}
use Rattle.case_file.proofs.Ends.{signal-is, side-self, field_end}
use Rattle.case_draft.proofs.Built.{signal_end, signal_all, doubles}

-- a G line whose section a railway can have, and the index of its end
abbrev pub Placed : SignalLine → Type 0
Placed g = (1 ≤ g.number) × (g.number ≤ most_sections)

abbrev pub index : SignalLine → ℕ
index g = end_index (end_of (signal_end g))

index-small : (g : SignalLine) → Placed g → index g < section_ends
index-small g h = section-below (record { 0 = g.number - 1 }) g.side (omega arith)

parts_same : (g h : SignalLine) → signal_end g ≡ signal_end h → same_signal g h ≡ true
parts_same g h e = go g.number h.number g.side h.side e
  where
    go : (m n : ℕ) (s t : Side) → section m s ≡ section n t → (eqb m n && same_side s t) ≡ true
    go m n s t e = let p : m ≡ n = cc in let q : s ≡ t = cc in and_both (eqb m n) (same_side s t) (eq-eqb m n p) (rw q (side-self t))

pub same_index : (g h : SignalLine) → Placed g → Placed h → same_signal g h ≡ eqb (index g) (index h)
same_index g h pg ph = elim (bool? (same_signal g h)) [
  | inl e ↦ rw e (sym (eq-eqb (index g) (index h) (ap index (signal-is g h e))))
  | inr e ↦ rw e (sym (ne_eqb (index g) (index h) (λ q.
      let z = index-one (end_of (signal_end g)) (end_of (signal_end h)) (omega arith) (omega arith) q in
      clash (parts_same g h (sym (field_end (signal_end g) pg.0) ∙ ap field_of z ∙ field_end (signal_end h) ph.0)) e)))
]

placed_of : (i : ℕ) → i < section_ends → Placed (signal_of i)
placed_of i h = (omega arith, omega arith)

index_of : (i : ℕ) → i < section_ends → index (signal_of i) ≡ i
index_of i h =
    let z : suc (i / 2) - 1 ≡ i / 2 = omega arith in
    rw z (ap end_index (sym (end-section i h)) ∙ index-end i (omega arith))

module _ (r : Railway) (room : length r.signals ≡ section_ends) (e : End) (small : end_index e < section_ends) where
  has-flag : has_signal r e ≡ flag_at r (end_index e)
  unfolding has_signal
  has-flag = rw (lt-ltb (end_index e) section_ends small)

  added : (with_signal r e).signals ≡ set r.signals (end_index e) true
  unfolding with_signal
  added = rw (lt-ltb (end_index e) section_ends small)

  pub flag-set : (i : ℕ) → flag_at (with_signal r e) i ≡ (eqb (end_index e) i || flag_at r i)
  flag-set i = ap (λ (l : List Bool). get_or l i false) added ∙ go (bool? (eqb (end_index e) i))
    where
      go : (eqb (end_index e) i ≡ true) ⊎ (eqb (end_index e) i ≡ false) → get_or (set r.signals (end_index e) true) i false ≡ (eqb (end_index e) i || flag_at r i)
      go (inl p) = let q = eqb-true (end_index e) i p in rw (p, ← q) (get_or-set_same r.signals (end_index e) true false (omega arith))
      go (inr p) = let q = eqb-false (end_index e) i p in rw p (get_or-set_other r.signals (end_index e) i true false (λ z. q (sym z)))

-- the length stays
kept : (r : Railway) → length r.signals ≡ section_ends → (e : End) → length (with_signal r e).signals ≡ section_ends
unfolding with_signal
kept r room e = cases (ltb (end_index e) section_ends)
  where
    cases : (c : Bool)
        → length (cond c (record {
          sections = r.sections;
          points = r.points;
          trains = r.trains;
          legs = r.legs;
          links = r.links;
          signals = set r.signals (end_index e) true;
          closed = r.closed;
          roster = r.roster;
        }) r).signals ≡ section_ends
    cases true = simp length-set room
    cases false = room

pub swap : (a b c : Bool) → (a || (b || c)) ≡ ((b || a) || c)
swap true true c = refl
swap true false c = refl
swap false b c = sym (ap (λ (x : Bool). x || c) (or_left b))
  where
    or_left : (b : Bool) → (b || false) ≡ b
    or_left true = refl
    or_left false = refl

pub flags-all : (gs : List SignalLine) (r : Railway) → length r.signals ≡ section_ends → Every Placed gs → (i : ℕ) → i < section_ends
    → flag_at (signal_all r gs) i ≡ (any (same_signal (signal_of i)) gs || flag_at r i)
unfolding signal_all any
flags-all [] r room h i b = refl
flags-all (g ∷ gs) r room h i b =
    let pg = h g (Memᴰ.head refl) in
    let e = end_of (signal_end g) in
    let s : same_signal (signal_of i) g ≡ eqb (index g) i = same_index (signal_of i) g (placed_of i b) pg
    ∙ ap (λ (n : ℕ). eqb n (index g)) (index_of i b) ∙ turned i (index g) in
    flags-all gs (with_signal r e) (kept r room e) (λ x m. h x (Memᴰ.tail m)) i b
    ∙ rw (flag-set r room e (index-small g pg) i, ← s) (swap (any (same_signal (signal_of i)) gs) (same_signal (signal_of i) g) (flag_at r i))
  where
    turned : (m n : ℕ) → eqb m n ≡ eqb n m
    turned m n = elim (bool? (eqb n m)) [
      | inl p ↦ rw p (eq-eqb m n (sym (eqb-true n m p)))
      | inr p ↦ rw p (ne_eqb m n (λ q. eqb-false n m p (sym q)))
    ]

-- G lines of which none finds a signal
pub record Single (r : Railway) (gs : List SignalLine) : Type 0 where
  pub once : repeats same_signal gs ≡ false
  pub free : Every (λ g. flag_at r (index g) ≡ false) gs

pub single-doubles : (gs : List SignalLine) (r : Railway) → length r.signals ≡ section_ends → Every Placed gs → Single r gs → doubles r gs ≡ false
unfolding doubles
single-doubles [] r room h f = refl
single-doubles (g ∷ gs) r room h f =
    let pg = h g (Memᴰ.head refl) in
    let e = end_of (signal_end g) in
    let o = repeats-head same_signal g gs f.once in
    or-none _ _ (has-flag r room e (index-small g pg) ∙ f.free g (Memᴰ.head refl))
    (single-doubles gs (with_signal r e) (kept r room e) (λ x m. h x (Memᴰ.tail m))
    (record {
      once = o.1;
      free = λ x m.
          flag-set r room e (index-small g pg) (index x)
          ∙ or-none _ _ (sym (same_index g x pg (h x (Memᴰ.tail m))) ∙ o.0 x m) (f.free x (Memᴰ.tail m));
    }))

pub doubles-single : (gs : List SignalLine) (r : Railway) → length r.signals ≡ section_ends → Every Placed gs → doubles r gs ≡ false → Single r gs
unfolding doubles repeats
doubles-single [] r room h p = record { once = refl; free = every-none _ }
doubles-single (g ∷ gs) r room h p =
    let pg = h g (Memᴰ.head refl) in
    let e = end_of (signal_end g) in
    let q = or-false (has_signal r e) (doubles (with_signal r e) gs) p in
    let f = doubles-single gs (with_signal r e) (kept r room e) (λ x m. h x (Memᴰ.tail m)) q.1 in
    let both : (x : SignalLine) → Memᴰ x gs → (eqb (index g) (index x) ≡ false) × (flag_at r (index x) ≡ false) =
    λ x m. or-false (eqb (index g) (index x)) (flag_at r (index x)) (sym (flag-set r room e (index-small g pg) (index x)) ∙ f.free x m) in
    record {
      once = repeats-none same_signal g gs (λ x m. same_index g x pg (h x (Memᴰ.tail m)) ∙ (both x m).0) f.once;
      free = all-free g gs r (sym (has-flag r room e (index-small g pg)) ∙ q.0) (λ x m. (both x m).1);
    }
  where
    all-free : (g : SignalLine) (gs : List SignalLine) (r : Railway) → flag_at r (index g) ≡ false
        → ((x : SignalLine) → Memᴰ x gs → flag_at r (index x) ≡ false)
        → (x : SignalLine) → Memᴰ x (g ∷ gs) → flag_at r (index x) ≡ false
    all-free g gs r p f x (Memᴰ.head q) = rw q p
    all-free g gs r p f x (Memᴰ.tail m) = f x m
