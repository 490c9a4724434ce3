-- The counts of a figure table, entry after entry: each entry is in one count, to which 1 is added, and the others stay. No count is larger than the number of entries before. And what
-- follows for the reply. Assumes nothing.
use mathlib.Core.Path.{◌≡◌, refl, sym, ◌∙◌, ap, subst}
use mathlib.Core.Logic.{inl, inr}
use mathlib.Core.Bool.{Bool, true, false, cond}
use mathlib.Core.List.{List}
use mathlib.Core.Option.{none, some}
use Prim.Native.Nat.{ℕ, suc, ◌+◌, ◌≤◌, ◌<◌, min}
use native.Mathlib.Omega.{arith}
use native.Mathlib.Numerals.{add-one}
use lib.ListN.{length, get_or, set, replicate, length-set, length-replicate, get_or-replicate}
use lib.Seq.{get_or-set_same, get_or-set_other, ext_get_or}
use borrow.Author.Tests.{eq-eqb, ne_eqb, lt-ltb, le-ltb}
use Rattle.std.specs.Prelude.{Ok, Err}
use Rattle.laws.specs.Below.{count_below, list_below}
use Rattle.laws.proofs.Bools.{eq?, lt?}
use Rattle.laws.proofs.Below.{count-le, list_get, list_length}
use Rattle.railway.specs.declared.Railway.{Railway}
use Rattle.railway.specs.declared.Refusal.{Refusal}
use Rattle.railway.specs.declared.Refusal.TheVariants.{Space}
use Rattle.railway.specs.CaseAnswer.{Accepted, Refused}
use Rattle.railway.specs.Rows.{record_refusal}
use Rattle.railway_acceptance.specs.Answers.{Judged}
use Rattle.railway_acceptance.proofs.Answers.{judged-refused, judged-accepted}
use Rattle.game.specs.Placement.{placements}
use Rattle.game.proofs.Accepted.{facts}
use Rattle.game_moves.specs.Steps.{stride_of}
use Rattle.game_moves.proofs.Coding.{stride-is}
use Rattle.game_tables.specs.Tables.{no_figure, figure_entry, figure_in}
use Rattle.counts.specs.Counts.{classes, class_of, in_class, count_of, reply_of, reply_by, CountPost}
use Rattle.counts.proofs.Counts.{by-record, too_short, enough, reply-made}

-- IN WHICH COUNT an entry is
module _ (x : ℕ) where
  pub class-none : x ≡ no_figure → 256 ≡ class_of (figure_entry x)
  class-none e = rw (eq-eqb x no_figure e)

  module _ (is : x ≡ no_figure → ⊥) where
    class-alone : x < 255 → x ≡ class_of (figure_entry x)
    class-alone l = rw (ne_eqb x no_figure is, lt-ltb x 255 l)

    class-greater : 255 ≤ x → 255 ≡ class_of (figure_entry x)
    class-greater l = rw (ne_eqb x no_figure is, le-ltb x 255 l)

    pub class-figure : min 255 x ≡ class_of (figure_entry x)
    class-figure = elim (lt? x 255) [
      | inl l ↦ (let e : min 255 x ≡ x = omega arith in e ∙ class-alone l)
      | inr l ↦ (let e : min 255 x ≡ 255 = omega arith in e ∙ class-greater l)
    ]

  pub class-there : (c : ℕ) → c ≡ class_of (figure_entry x) → c < classes
  class-there c e = elim (eq? x no_figure) [
    | inl h ↦ omega (arith, e, class-none h)
    | inr h ↦ elim (lt? x 255) [ inl l ↦ omega (arith, e, class-alone h l) | inr l ↦ omega (arith, e, class-greater h l) ]
  ]

-- ENTRY AFTER ENTRY: of n entries those before p are counted
pub record Tallied (figs : List ℕ) (n p : ℕ) (counts : List ℕ) : Type 0 where
  pub within : p ≤ n
  pub sized : length counts ≡ classes
  pub each : (i : ℕ) → i < classes → get_or counts i 0 ≡ count_below (in_class figs i) p

pub tally-start : (figs : List ℕ) (n : ℕ) (counts : List ℕ) → counts ≡ replicate classes 0 → Tallied figs n 0 counts
unfolding count_below
tally-start figs n counts e =
    record {
      within = omega arith;
      sized = ap (λ (xs : List ℕ). length xs) e ∙ length-replicate {A = ℕ} classes 0;
      each = λ i l. ap (λ (xs : List ℕ). get_or xs i 0) e ∙ get_or-replicate classes i 0 0 l;
    }

module _ {figs : List ℕ} {n p : ℕ} {counts : List ℕ} (t : Tallied figs n p counts) where
  -- no count is larger than the number of entries counted
  pub tally-most : (c : ℕ) → c < classes → get_or counts c 0 ≤ p
  tally-most c l = omega (arith, t.each c l, count-le (in_class figs c) p)

  module _ (l : p < n) (x c : ℕ) (entry : x ≡ get_or figs p no_figure) (class : c ≡ class_of (figure_entry x)) where
    -- the entry is in count c and in no other
    in-own : in_class figs c p ≡ true
    unfolding in_class
    in-own = eq-eqb (class_of (figure_in figs p)) c (ap (λ (y : ℕ). class_of (figure_entry y)) (sym entry) ∙ sym class)

    in-other : (i : ℕ) → (i ≡ c → ⊥) → in_class figs i p ≡ false
    unfolding in_class
    in-other i h = ne_eqb (class_of (figure_in figs p)) i (λ e. h (sym e ∙ ap (λ (y : ℕ). class_of (figure_entry y)) (sym entry) ∙ sym class))

    one_more : (i : ℕ) (b : Bool) → in_class figs i p ≡ b → count_below (in_class figs i) (p + 1) ≡ count_below (in_class figs i) p + cond b 1 0
    unfolding count_below
    one_more i b e = let z : p + 1 ≡ suc p = add-one p in rw (z, e)

    pub tally-next : Tallied figs n (p + 1) (set counts c (get_or counts c 0 + 1))
    tally-next =
        let b : c < classes = class-there x c class in
        record {
          within = omega arith;
          sized = length-set counts c (get_or counts c 0 + 1) ∙ t.sized;
          each = λ i h. elim (eq? i c) [
            | inl e ↦ rw e (get_or-set_same counts c (get_or counts c 0 + 1) 0 (omega (arith, t.sized)) ∙ omega (arith, t.each c b, one_more c true in-own))
            | inr e ↦ get_or-set_other counts c i (get_or counts c 0 + 1) 0 e ∙ omega (arith, t.each i h, one_more i false (in-other i e))
          ];
        }

  -- ALL of them
  pub tally-all : n ≤ p → counts ≡ list_below (λ i. count_below (in_class figs i) n) classes
  tally-all l =
      let e : p ≡ n = omega (arith, t.within) in
      ext_get_or 0 counts (list_below (λ i. count_below (in_class figs i) n) classes) (t.sized ∙ sym (list_length (λ i. count_below (in_class figs i) n) classes))
      (λ i h.
      let b : i < classes = omega (arith, t.sized) in
      t.each i b ∙ ap (λ (k : ℕ). count_below (in_class figs i) k) e ∙ sym (list_get (λ i. count_below (in_class figs i) n) classes i 0 b))

-- THE REPLY. The record is refused
pub record-refused : (r : Railway) (figs : List ℕ) (f : Refusal) → Judged r (Refused f) → CountPost r figs (reply_of (Err f))
record-refused r figs f judged = reply-made r figs (some f) (by-record r figs f (judged-refused r judged {f = f} refl))

-- it is accepted, and has so many placements: the table is too short, or the counts are there
module _ (r : Railway) (figs : List ℕ) (judged : Judged r Accepted) (n : ℕ) (power : n ≡ stride_of r.sections r.trains) where
  acc : record_refusal r ≡ none
  acc = judged-accepted r judged refl

  is : n ≡ placements r
  is = power ∙ stride-is r.sections r.trains (facts r acc).few-trains

  pub space-refused : length figs < n → CountPost r figs (reply_of (Err Space))
  space-refused l = reply-made r figs (some Space) (too_short r figs acc (omega (arith, is)))

  pub all-counted : n ≤ length figs → (counts : List ℕ) → counts ≡ list_below (λ i. count_below (in_class figs i) n) classes → CountPost r figs (reply_of (Ok counts))
  all-counted l counts e =
      let made : CountPost r figs (reply_by r figs none) = reply-made r figs none (enough r figs acc (omega (arith, is))) in
      let same : list_below (count_of r figs) classes ≡ counts = ap (λ (m : ℕ). list_below (λ i. count_below (in_class figs i) m) classes) (sym is) ∙ sym e in
      subst (λ (xs : List ℕ). CountPost r figs (reply_of (Ok xs))) same made
