-- What the reader's functions answer, over plain values: each return is a case of the definition that its contract cites.
-- Assumes nothing.
use Prim.Native.Nat.{ℕ, ◌<◌, ◌≤◌}
use mathlib.Core.Path.{◌≡◌, refl, sym, ◌∙◌, ap}
use mathlib.Core.Logic.{inl, inr}
use mathlib.Core.Bool.{Bool, true, false}
use mathlib.Core.List.{List, [], ◌∷◌}
use mathlib.Core.Option.{Option, none, some}
use native.Mathlib.Omega.{arith}
use lib.Dec.{ltb}
use lib.ListN.{length}
use borrow.Author.Tests.{lt-ltb, le-ltb, le-leb, lt-leb}
use Rattle.text.specs.Reading.{Got, bad, got, then}
use Rattle.laws.proofs.Bools.{lt?}
use Rattle.railway.specs.declared.Railway.{Railway}
use Rattle.railway.specs.declared.Refusal.{Refusal}
use Rattle.railway.specs.Refusals.{number_given, first, number_of}
use Rattle.railway.proofs.Refusals.{number-tells}
use Rattle.railway.specs.Record.{empty_railway}
use Rattle.railway.specs.Rows.{outside}
use Rattle.railway.proofs.Rows.{bounded}
use Rattle.railway.specs.CaseAnswer.{CaseAnswer}
use Rattle.railway.specs.CaseAnswer as goal
use Rattle.case_file.specs.Given.{accepted, refused}
use Rattle.case_file.specs.Reading.{Counts, header_at}
use Rattle.case_draft.specs.declared.Draft.{Draft}
use Rattle.case_draft.specs.declared.Kind.{Kind}
use Rattle.case_draft.specs.declared.Kind.TheVariants.{P, J, G, X, T}
use Rattle.case_draft.specs.Lines.{Lines, InForm}
use Rattle.case_draft.specs.Drafting.{cap, opened, entry, lines_into, end_at, kinds_into, draft_of, lines_got, draft_rows, answer_of, draft_answer}

-- NUMBERS
cap-low : (n : ℕ) → n ≤ 255 → n ≡ cap n
cap-low n h = rw (le-leb n 255 h)

cap-under : (m n : ℕ) → m < 255 → ltb m (cap n) ≡ ltb m n
cap-under m n h = elim (lt? 255 n) [
  | inl l ↦ rw (lt-leb n 255 l, lt-ltb m 255 h, lt-ltb m n (omega arith))
  | inr l ↦ rw (le-leb n 255 l)
]

cap-over : (n : ℕ) → ltb (cap n) 1 ≡ ltb n 1
cap-over n = elim (lt? 255 n) [
  | inl l ↦ rw (lt-leb n 255 l, le-ltb n 1 (omega arith))
  | inr l ↦ rw (le-leb n 255 l)
]

-- THE COUNTS
module _ (s p k : ℕ) where
  pub outside-capped : outside (cap s) (cap p) (cap k) ≡ outside s p k
  outside-capped = rw (cap-over s, cap-under 48 s (omega arith), cap-under 16 p (omega arith), cap-over k, cap-under 4 k (omega arith))

  module _ (a b c : ℕ) (ha : a ≡ cap s) (hb : b ≡ cap p) (hc : c ≡ cap k) (x : Bool) (hx : x ≡ outside a b c) where
    judged-so : (y : Bool) → x ≡ y → outside s p k ≡ y
    judged-so y e = sym outside-capped ∙ rw (← ha, ← hb, ← hc) (sym hx) ∙ e

    pub begin-out : x ≡ true → (r : Railway) → r ≡ empty_railway → (d : Draft) → d ≡ record { railway = r; weight = false; unknown = false; wrong = false; double = false } → d ≡ opened s p k
    unfolding opened
    begin-out e r q d w = w ∙ rw (judged-so true e, q)

    pub begin-in : x ≡ false → (r : Railway) → r ≡ empty_railway → (d : Draft)
        → d ≡ record {
          railway = record { sections = a; points = b; trains = c; legs = r.legs; links = r.links; signals = r.signals; closed = r.closed; roster = r.roster };
          weight = false;
          unknown = false;
          wrong = false;
          double = false;
        } → d ≡ opened s p k
    unfolding opened
    begin-in e r q d w =
        let o = judged-so false e in
        let m = bounded s p k o in
        let u : a ≡ s = ha ∙ sym (cap-low s (omega (arith, m.few-sections))) in
        let v : b ≡ p = hb ∙ sym (cap-low p (omega (arith, m.few-points))) in
        let t : c ≡ k = hc ∙ sym (cap-low k (omega (arith, m.few-trains))) in
        w ∙ rw (o, u, v, t, q)

-- THE WHOLE TEXT, kind after kind
in-turn : {B D E : Type 0} (g : Got B) (f : B → ℕ → Got D) (k : D → ℕ → Got E) → then (then g f) k ≡ then g (λ x c. then (f x c) k)
in-turn bad f k = refl
in-turn (got x c) f k = refl

module _ (s : List ℕ) where
  pub header-bad : bad ≡ header_at s 0 → bad ≡ draft_of s
  unfolding draft_of
  header-bad e = rw (← e)

  module _ (h : Counts) (c : ℕ) (is : got h c ≡ header_at s 0) where
    -- what the lines behind some others give
    abbrev behind : Lines → List Kind → Got Draft
    behind l rest = then (lines_got l) (λ d c. kinds_into s h rest c d)

    -- the lines of a kind, behind those before them
    abbrev pub Read : Kind → Lines → Lines → Type 0
    Read kind l m = lines_got m ≡ then (lines_got l) (λ d c. lines_into s kind ((entry kind).count h) c d)

    -- and those of the kinds behind it
    one-kind : (l m : Lines) (kind : Kind) (rest : List Kind) → Read kind l m → behind m rest ≡ behind l (kind ∷ rest)
    one-kind l m kind rest e = rw e (in-turn (lines_got l) _ _)

    pub all_kinds : (w : Draft) → w ≡ opened h.sections h.points h.trains → (p j g x t : Lines)
        → Read P (InForm w (record { at = c })) p → Read J p j → Read G j g → Read X g x → Read T x t
        → then (lines_got t) (λ d c. end_at s d c) ≡ draft_of s
    unfolding draft_of
    all_kinds w hw p j g x t hp hj hg hx ht =
        one-kind x t T [] ht
        ∙ one-kind g x X (T ∷ []) hx
        ∙ one-kind j g G (X ∷ T ∷ []) hg
        ∙ one-kind p j J (G ∷ X ∷ T ∷ []) hj
        ∙ one-kind (InForm w (record { at = c })) p P (J ∷ G ∷ X ∷ T ∷ []) hp
        ∙ rw (hw, ← is)

-- nothing, or bytes, behind the last line
pub more_left : (s : List ℕ) (d : Draft) (c : ℕ) → c < length s → bad ≡ end_at s d c
more_left s d c h = rw (lt-ltb c (length s) h)

pub all_read : (s : List ℕ) (d : Draft) (c : ℕ) → length s ≤ c → got d c ≡ end_at s d c
all_read s d c h = rw (le-ltb c (length s) h)

-- THE ANSWER, by the number that the rows give
module _ (d : Draft) where
  pub answered : (o : Option Refusal) → number_of o ≡ number_of (first (draft_rows d)) → answer_of d.railway o ≡ draft_answer d
  unfolding draft_answer
  answered o e = rw (number-tells o (first (draft_rows d)) e)

  -- the answer to a test that gave that number
  module _ (t : CaseAnswer) (e : number_given t ≡ number_of (first (draft_rows d))) where
    pub refused-by : (f : Refusal) → t ≡ goal.Refused f → refused f ≡ draft_answer d
    refused-by f h = answered (some f) (sym (ap number_given h) ∙ e)

    pub accepted-by : t ≡ goal.Accepted → accepted d.railway ≡ draft_answer d
    accepted-by h = answered none (sym (ap number_given h) ∙ e)
