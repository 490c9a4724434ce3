-- Section ends by their index and by name: the order of the indexes is that of the ends, and an end is tried exactly if it has no signal. Assumes nothing.
use mathlib.Core.Path.{◌≡◌, refl, sym, ◌∙◌, ap}
use mathlib.Core.Logic.{inl, inr}
use mathlib.Core.Bool.{Bool, true, false, not}
use mathlib.Core.Option.{none, some}
use Prim.Native.Nat.{ℕ, zero, suc, ◌+◌, ◌*◌, ◌/◌, ◌%◌, ◌<◌, ◌≤◌}
use native.Mathlib.Omega.{arith}
use borrow.Author.Tests.{lt-ltb}
use Rattle.laws.proofs.Bools.{bool?, lt?, clash}
use Rattle.railway.specs.declared.Side.{Side}
use Rattle.railway.specs.declared.Side.TheVariants.{Up, Down}
use Rattle.railway.specs.declared.SectionNo.{SectionNo}
use Rattle.railway.specs.declared.End.TheVariants.{Section}
use Rattle.railway.specs.declared.Railway.{Railway}
use Rattle.railway.specs.Bounds.{most_sections}
use Rattle.railway.specs.Ends.{side_index, end_index, side_at, end_at}
use Rattle.railway.specs.Record.{flag_at, has_signal}
use Rattle.railway.proofs.Ends.{side-small, end-index, section-below, numbered_of, end-section, index-end}
use Rattle.railway.proofs.Lookups.{signal-there}
use Rattle.advice.specs.Advising.{HasNone, ends_of, tries, with_one, NoneBefore, FirstHelp, last_tried, There, Bare, Earlier, signalled, FirstHelping, LastBare}

-- (Examples is named so that it is checked before: a wrong definition then shows at a computed value.)

-- the index of a section end that a railway can have
index_is : (n : SectionNo) (s : Side) → n.0 < most_sections → end_index (Section n s) ≡ 2 * n.0 + side_index s
index_is n s l = rw (lt-ltb n.0 most_sections l)

-- THE ORDER
pub earlier-index : (m : SectionNo) (d : Side) (n : SectionNo) (s : Side) → m.0 < most_sections → n.0 < most_sections → Earlier m d n s → end_index (Section m d) < end_index (Section n s)
earlier-index m d n s lm ln (inl h) = let a = side-small d in rw (index_is m d lm, index_is n s ln) (omega arith)
earlier-index m d n s lm ln (inr h) =
    let a : side_index d ≡ 0 = ap side_index h.1 in
    let b : side_index s ≡ 1 = ap side_index h.2 in
    let e = h.0 in
    rw (index_is m d lm, index_is n s ln) (omega arith)

in_order : (m : SectionNo) (d : Side) (n : SectionNo) (s : Side) → 2 * m.0 + side_index d < 2 * n.0 + side_index s → Earlier m d n s
in_order m Down n Down h = inl (omega arith)
in_order m Down n Up h = elim (lt? m.0 n.0) [ inl l ↦ inl l | inr l ↦ inr (omega arith, refl, refl) ]
in_order m Up n Down h = inl (omega arith)
in_order m Up n Up h = inl (omega arith)

pub index-earlier : (m : SectionNo) (d : Side) (n : SectionNo) (s : Side) → m.0 < most_sections → n.0 < most_sections → end_index (Section m d) < end_index (Section n s) → Earlier m d n s
index-earlier m d n s lm ln h = in_order m d n s (rw (index_is m d lm, index_is n s ln) at h)

module _ (r : Railway) (few : r.sections ≤ most_sections) where
  -- AN INDEX has a name
  pub record Named (i : ℕ) : Type 0 where
    pub section : SectionNo
    pub side : Side
    pub there : There r section
    pub index : end_index (Section section side) ≡ i
    pub is : end_at i ≡ Section section side

  pub named-of : (i : ℕ) → i < ends_of r → Named i
  named-of i l =
      let e : end_at i ≡ Section (record { 0 = i / 2 }) (side_at (i % 2)) = end-section i (omega arith) in
      record {
        section = record { 0 = i / 2 };
        side = side_at (i % 2);
        there = omega arith;
        index = ap end_index (sym e) ∙ index-end i (omega arith);
        is = e;
      }

  -- A NAME has an index
  pub index_below : (n : SectionNo) (s : Side) → There r n → end_index (Section n s) < ends_of r
  index_below n s l = let a = side-small s in rw (index_is n s (omega arith)) (omega arith)

  pub below-there : (n : SectionNo) (s : Side) → end_index (Section n s) < ends_of r → There r n
  below-there n s l =
      let w : n.0 < most_sections = numbered_of (Section n s) (omega arith) in
      let e = index_is n s w in
      omega arith

  module _ (n : SectionNo) (s : Side) (l : There r n) where
    within : n.0 < most_sections
    within = omega arith

    pub end_is : end_at (end_index (Section n s)) ≡ Section n s
    end_is = end-index (Section n s) within

    pub one-is : with_one r (end_index (Section n s)) ≡ signalled r n s
    one-is = rw end_is

    flag_is : flag_at r (end_index (Section n s)) ≡ has_signal r (Section n s)
    flag_is = signal-there r (Section n s) (end_index (Section n s)) refl (section-below n s within)

    pub tried-bare : tries r (end_index (Section n s)) ≡ true → Bare r n s
    tried-bare h = record { there = l; no-signal = sym flag_is ∙ flag_off (flag_at r (end_index (Section n s))) h }
      where
        flag_off : (b : Bool) → not b ≡ true → b ≡ false
        flag_off true e = clash e refl
        flag_off false e = refl

    pub bare-tried : Bare r n s → tries r (end_index (Section n s)) ≡ true
    bare-tried h = rw (flag_is, h.no-signal)

  -- THE FIRST THAT HELPS
  pub none_before : (n : SectionNo) (s : Side) → There r n → NoneBefore r (end_index (Section n s)) → (m : SectionNo) (d : Side) → Bare r m d → Earlier m d n s → HasNone (signalled r m d)
  none_before n s l h m d b e =
      let w : n.0 < most_sections = omega arith in
      let v : m.0 < most_sections = omega (arith, b.there) in
      rw (← one-is m d b.there) (h (end_index (Section m d)) (earlier-index m d n s v w e) (bare-tried m d b.there b))

  pub helping : (n : SectionNo) (s : Side) → FirstHelp r (end_index (Section n s)) → FirstHelping r n s
  helping n s h =
      let l = below-there n s h.there in
      record { bare = tried-bare n s l h.tried; helps = rw (one-is n s l) at h.helps; before = none_before n s l h.before }

  pub helps-first : (n : SectionNo) (s : Side) → FirstHelping r n s → FirstHelp r (end_index (Section n s))
  helps-first n s h =
      let l = h.bare.there in
      record {
        there = index_below n s l;
        tried = bare-tried n s l h.bare;
        helps = rw (one-is n s l) h.helps;
        before = λ j lj tj.
            let x = named-of j (omega (arith, index_below n s l)) in
            let w : n.0 < most_sections = omega arith in
            let v : x.section.0 < most_sections = omega (arith, x.there) in
            let i = x.index in
            rw x.is
            (h.before x.section x.side (tried-bare x.section x.side x.there (rw i tj)) (index-earlier x.section x.side n s v w (rw i lj)));
      }

  -- NONE HELPS
  pub none_named : NoneBefore r (ends_of r) → (n : SectionNo) (s : Side) → Bare r n s → HasNone (signalled r n s)
  none_named h n s b = rw (← one-is n s b.there) (h (end_index (Section n s)) (index_below n s b.there) (bare-tried n s b.there b))

  -- THE LAST THAT IS TRIED
  pub last-is : (n : SectionNo) (s : Side) → LastBare r n s → last_tried r (ends_of r) ≡ some (end_index (Section n s))
  unfolding last_tried
  last-is n s h = reached (ends_of r) (index_below n s l) (λ j lj tj. quiet j lj tj)
    where
      l : There r n
      l = h.bare.there

      quiet : (j : ℕ) → end_index (Section n s) < j → j < ends_of r → tries r j ≡ false
      quiet j lj bj = elim (bool? (tries r j)) [
        | inr e ↦ e
        | inl e ↦
            let x = named-of j bj in
            let w : n.0 < most_sections = omega arith in
            let v : x.section.0 < most_sections = omega (arith, x.there) in
            let i = x.index in
            absurd (h.behind x.section x.side (tried-bare x.section x.side x.there (rw i e)) (index-earlier n s x.section x.side w v (rw i lj)))
      ]

      reached : (k : ℕ) → end_index (Section n s) < k → ((j : ℕ) → end_index (Section n s) < j → j < k → tries r j ≡ false) → last_tried r k ≡ some (end_index (Section n s))
      reached zero lk q = absurd (omega arith)
      reached (suc k) lk q = elim (lt? (end_index (Section n s)) k) [
        | inl b ↦ rw (q k b (omega arith)) (reached k b (λ j lj tj. q j lj (omega arith)))
        | inr b ↦ let e : k ≡ end_index (Section n s) = omega arith in rw (e, bare-tried n s l h.bare)
      ]

  -- none is, where every end has a signal
  pub none_tried : ((n : SectionNo) (s : Side) → There r n → has_signal r (Section n s) ≡ true) → last_tried r (ends_of r) ≡ none
  unfolding last_tried
  none_tried full = through (ends_of r) (λ j l. l)
    where
      off : (j : ℕ) → j < ends_of r → tries r j ≡ false
      off j l = elim (bool? (tries r j)) [
        | inr e ↦ e
        | inl e ↦ let x = named-of j l in let i = x.index in clash (full x.section x.side x.there) (tried-bare x.section x.side x.there (rw i e)).no-signal
      ]

      through : (k : ℕ) → ((j : ℕ) → j < k → j < ends_of r) → last_tried r k ≡ none
      through zero b = refl
      through (suc k) b = rw (off k (b k (omega arith))) (through k (λ j l. b j (omega arith)))
