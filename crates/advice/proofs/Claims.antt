-- From the promise the claims follow. A start has a figure or none, and not both; so what is said can be told from what
-- is so, answer by answer, and of two first ends that help neither comes before the other. All cases that are tried
-- have the same placements. Assumes nothing.
use mathlib.Core.Path.{◌≡◌, refl, sym, ◌∙◌, ap}
use mathlib.Core.Logic.{inl, inr}
use mathlib.Core.List.{List}
use mathlib.Core.Option.{none, some}
use Prim.Native.Nat.{ℕ, zero, suc, ◌<◌, ◌≤◌}
use native.Mathlib.Omega.{arith}
use Rattle.laws.proofs.Bools.{bool?, lt?, option?, some-none, some_one}
use Rattle.railway.specs.declared.Side.{Side}
use Rattle.railway.specs.declared.SectionNo.{SectionNo}
use Rattle.railway.specs.declared.End.{End}
use Rattle.railway.specs.declared.End.TheVariants.{Section, Port}
use Rattle.railway.specs.declared.Railway.{Railway}
use Rattle.railway.specs.declared.Refusal.{Refusal}
use Rattle.railway.specs.Bounds.{most_sections}
use Rattle.railway.specs.Ends.{end_index}
use Rattle.railway.specs.Refusals.{number, number_of}
use Rattle.railway.specs.Rows.{record_refusal}
use Rattle.railway.proofs.Ends.{index-one}
use Rattle.railway.proofs.Refusals.{number-one}
use Rattle.game.specs.Placement.{placements}
use Rattle.game.proofs.Accepted.{facts}
use Rattle.game_tables.specs.Tables.{case_refusal, Filled}
use Rattle.game_tables.specs.Solver.{Kept, SolverTables}
use Rattle.game_tables.proofs.Refusals.{case-none}
use Rattle.advice.specs.Advice.{Advice, NotNeeded, Signal, NoneHelps, Refused}
use Rattle.advice.specs.Advising.{HasFigure, HasNone, ends_of, tries, with_one, NoneBefore, FirstHelp, last_tried}
use Rattle.advice.specs.Advising.{case_of, number_said, Said, last_case, AdvicePost, Bare, signalled, AdviceClaims}
use Rattle.advice.specs.Advising.{StillAccepted}
use Rattle.advice.proofs.Accepting.{still-accepted}
use Rattle.advice.proofs.Naming.{named-of, below-there, helping, helps-first, none_named, last-is, none_tried, one-is, tried-bare}

-- A FIGURE OR NONE, not both
pub apart : {A : Type 0} {q : Railway} → HasFigure q → HasNone q → A
apart x h = absurd (h x.total x.figure.0)

-- only one end is the first that helps
one-first : (r : Railway) (i j : ℕ) → FirstHelp r i → FirstHelp r j → i ≡ j
one-first r i j x y = elim (lt? i j) [
  | inl l ↦ apart x.helps (y.before i l x.tried)
  | inr l ↦ elim (lt? j i) [ inl m ↦ apart y.helps (x.before j m y.tried) | inr m ↦ omega arith ]
]

-- the answer that names an end
abbrev naming : End → Advice
naming (Section n s) = Signal n s
naming (Port n l) = NoneHelps

module _ (r : Railway) (accepted : record_refusal r ≡ none) where
  few : r.sections ≤ most_sections
  few = (facts r accepted).few-sections

  -- A TRY is still accepted, by its index
  pub still_one : (i : ℕ) → i < ends_of r → StillAccepted r (with_one r i)
  still_one i l = let x = named-of r few i l in rw x.is (still-accepted r x.section x.side accepted x.there)

  own-accepted : StillAccepted r r
  own-accepted = record { accepted = accepted; placements = refl; start = refl }

  pub last-accepted : (k : ℕ) → k ≤ ends_of r → StillAccepted r (case_of r (last_tried r k))
  unfolding last_tried
  last-accepted zero l = own-accepted
  last-accepted (suc k) l = elim (bool? (tries r k)) [
    | inl e ↦ rw e (still_one k (omega arith))
    | inr e ↦ rw e (last-accepted k (omega arith))
  ]

  -- WHAT IS SAID is told by what is so
  needed : (a : Advice) → Said r a → HasFigure r → a ≡ NotNeeded
  needed NotNeeded x h = refl
  needed (Signal n s) x h = apart h x.0
  needed NoneHelps x h = apart h x.0
  needed (Refused f) x h = absurd x

  same-end : (n : SectionNo) (s : Side) (m : SectionNo) (d : Side) → FirstHelp r (end_index (Section n s)) → FirstHelp r (end_index (Section m d)) → Signal n s ≡ Signal m d
  same-end n s m d x y =
      let ln = below-there r few n s x.there in
      let lm = below-there r few m d y.there in
      let b = few in
      let wn : n.0 < most_sections = omega arith in
      let wm : m.0 < most_sections = omega arith in
      ap naming (index-one (Section n s) (Section m d) wn wm (one-first r _ _ x y))

  named_by : (a : Advice) → Said r a → HasNone r → (n : SectionNo) (s : Side) → FirstHelp r (end_index (Section n s)) → a ≡ Signal n s
  named_by NotNeeded x h n s f = apart x h
  named_by (Signal m d) x h n s f = same-end m d n s x.1 f
  named_by NoneHelps x h n s f = apart f.helps (x.1 (end_index (Section n s)) f.there f.tried)
  named_by (Refused g) x h n s f = absurd x

  none-by : (a : Advice) → Said r a → HasNone r → NoneBefore r (ends_of r) → a ≡ NoneHelps
  none-by NotNeeded x h b = apart x h
  none-by (Signal n s) x h b = apart x.1.helps (b (end_index (Section n s)) x.1.there x.1.tried)
  none-by NoneHelps x h b = refl
  none-by (Refused f) x h b = absurd x

  pub said-one : (a b : Advice) → Said r a → Said r b → a ≡ b
  said-one NotNeeded b x y = sym (needed b y x)
  said-one (Signal n s) b x y = sym (named_by b y x.0 n s x.1)
  said-one NoneHelps b x y = sym (none-by b y x.0 x.1)
  said-one (Refused f) b x y = absurd x

  none-index : ((n : SectionNo) (s : Side) → Bare r n s → HasNone (signalled r n s)) → NoneBefore r (ends_of r)
  none-index h j l t =
      let x = named-of r few j l in
      let i = x.index in
      rw x.is (h x.section x.side (tried-bare r few x.section x.side x.there (rw i t)))

  -- the last case tried has as many placements
  last-placements : (a : Advice) → Said r a → placements (last_case r a) ≡ placements r
  last-placements NotNeeded x = refl
  last-placements (Signal n s) x = (still-accepted r n s accepted (below-there r few n s x.1.there)).placements
  last-placements NoneHelps x = (last-accepted (ends_of r) (omega arith)).placements
  last-placements (Refused f) x = refl

-- tables kept for one case are kept for another with as many placements
pub kept-as : (r q : Railway) (old new : List ℕ) → placements q ≡ placements r → Kept q old new → Kept r old new
kept-as r q old new e k = record { as_long = k.as_long; past = λ p l. k.past p (rw e l) }

-- THE CLAIMS
module _ (r : Railway) (a : Advice) (figs sets figs' sets' : List ℕ) (fine : case_refusal r figs sets ≡ none) (post : AdvicePost r a figs sets figs' sets') where
  ok : record_refusal r ≡ none
  ok = ((case-none r figs sets).0 fine).0

  left : Said r a × SolverTables (last_case r a) figs sets figs' sets'
  left = rw fine at post.leaves

  filled : Filled (last_case r a) figs' sets'
  filled = left.1.filled

  said-as : (b : Advice) → a ≡ b → Said r b
  said-as b e = rw e at left.0

  filled-as : (q : Railway) (b : Advice) → a ≡ b → last_case r b ≡ q → Filled q figs' sets'
  filled-as q b e h = let f : Filled (last_case r b) figs' sets' = rw e at filled in rw h at f

  pub claims : AdviceClaims r a figs sets figs' sets'
  claims =
      let b = few r ok in
      record {
        not-needed = (said-as NotNeeded, needed r ok a left.0);
        named = λ n s. (
          (λ e. let x = said-as (Signal n s) e in (x.0, helping r b n s x.1)),
          (λ h. named_by r ok a left.0 h.0 n s (helps-first r b n s h.1)),
        );
        none-helps = (
          (λ e. let x = said-as NoneHelps e in (x.0, none_named r b x.1)),
          (λ h. none-by r ok a left.0 h.0 (none-index r ok h.1)),
        );
        own-tables = λ e. filled-as r NotNeeded e refl;
        named-tables = λ n s e. filled-as (signalled r n s) (Signal n s) e refl;
        last-tables = λ e n s h. filled-as (signalled r n s) NoneHelps e (ap (case_of r) (last-is r b n s h) ∙ one-is r b n s h.bare.there);
        full-tables = λ e full. filled-as r NoneHelps e (ap (case_of r) (none_tried r b full));
        kept-figs = kept-as r (last_case r a) figs figs' (last-placements r ok a left.0) left.1.kept-figs;
        kept_sets = kept-as r (last_case r a) sets sets' (last-placements r ok a left.0) left.1.kept_sets;
      }

-- REFUSED
refused-by : (a : Advice) (f : Refusal) → number_said a ≡ some (number f) → a ≡ Refused f
refused-by NotNeeded f e = some-none e refl
refused-by (Signal n s) f e = some-none e refl
refused-by NoneHelps f e = some-none e refl
refused-by (Refused g) f e = ap (λ (h : Refusal). Refused h) (number-one g f (some_one e))

pub refused : (r : Railway) (a : Advice) (figs sets figs' sets' : List ℕ) (f : Refusal)
    → case_refusal r figs sets ≡ some f → AdvicePost r a figs sets figs' sets'
    → (a ≡ Refused f) × (figs' ≡ figs) × (sets' ≡ sets)
refused r a figs sets figs' sets' f e post =
    let kept : (figs' ≡ figs) × (sets' ≡ sets) = rw e at post.leaves in
    (refused-by a f (post.numbered ∙ ap number_of e), kept.0, kept.1)

-- ONE ANSWER
pub only : (r : Railway) (a b : Advice) (figs sets figs₁ sets₁ figs₂ sets₂ : List ℕ) → AdvicePost r a figs sets figs₁ sets₁ → AdvicePost r b figs sets figs₂ sets₂ → a ≡ b
only r a b figs sets figs₁ sets₁ figs₂ sets₂ x y = elim (option? (case_refusal r figs sets)) [
  | inr f ↦ (refused r a figs sets figs₁ sets₁ f.0 f.1 x).0 ∙ sym (refused r b figs sets figs₂ sets₂ f.0 f.1 y).0
  | inl e ↦ said-one r (ok r a figs sets figs₁ sets₁ e x) a b (left r a figs sets figs₁ sets₁ e x).0 (left r b figs sets figs₂ sets₂ e y).0
]
