-- Q-8 holds of every reply that keeps the promise: it is the one by definition, so what was refused tells which, and the counts are those of the table (Spreading). A table that a solver
-- filled has each placement's figure at its code, and no placement has two. Assumes nothing.
use mathlib.Core.Path.{◌≡◌, refl, sym, ◌∙◌, ap}
use mathlib.Core.Logic.{◌↔◌, inl, inr}
use mathlib.Core.Bool.{true, not}
use mathlib.Core.List.Memᴰ
use mathlib.Core.List.{List, [], ◌∷◌, ◌++◌, Memᴰ}
use mathlib.Core.Option.{Option, none, some}
use Prim.Native.Nat.{ℕ, ◌≤◌, ◌<◌}
use native.Mathlib.Omega.{arith}
use lib.ListN.{length, get_or, replicate, length-replicate, get_or-replicate, get_or-eq_default}
use lib.Dec.{eqb}
use borrow.Author.Tests.{eq-eqb, lt-ltb, le-ltb}
use Rattle.laws.specs.Below.{or_else, list_below}
use Rattle.laws.specs.Lists.{all}
use Rattle.laws.proofs.Bools.{option?, lt?, clash, some-none, some_one}
use Rattle.laws.proofs.Lists.{all_in}
use Rattle.laws.proofs.Below.{list_same}
use Rattle.railway.specs.declared.Railway.{Railway}
use Rattle.railway.specs.declared.Refusal.{Refusal}
use Rattle.railway.specs.declared.Refusal.TheVariants.{Space}
use Rattle.railway.specs.Refusals.{number, number_of, Row, row, refuse_if, first}
use Rattle.railway.specs.Rows.{record_rows, record_refusal}
use Rattle.railway.proofs.Refusals.{first-append, first-is, number-one as refusal-one}
use Rattle.game.specs.Game.{IsFigure}
use Rattle.game.specs.Placement.{placements, start_code}
use Rattle.game.specs.Moves.{game_of}
use Rattle.game.proofs.Figures.{figure-one, lost-unforced}
use Rattle.game_tables.specs.SolverAnswer.{SolverAnswer}
use Rattle.game_tables.specs.Tables.{no_figure, figure_in, case_refusal}
use Rattle.game_tables.specs.Solver.{SolverTables, SolverPost, figure_given}
use Rattle.game_tables.proofs.Refusals.{case-none}
use Rattle.counts.specs.CountAnswer.{Counted, Refused}
use Rattle.counts.specs.Counts.{CountReply, classes, in_class, count_of, table_short, count_refusal, reply_by, count_number, CountPost, Spread, CountClaims, CountsHold}
use Rattle.counts.proofs.Spreading.{count_same, number-one, spread-of}

-- no row of a record has the number 9
other-numbers : (r : Railway) → all (λ (x : Row). not (eqb (number x.refusal) 9)) (record_rows r) ≡ true
unfolding all
other-numbers r = refl

record-nine : (r : Railway) (f : Refusal) → record_refusal r ≡ some f → number f ≡ 9 → ⊥
unfolding record_refusal
record-nine r f e n =
    let w = first-is (record_rows r) f e in
    let t : not (eqb (number f) 9) ≡ true = all_in (λ (x : Row). not (eqb (number x.refusal) 9)) (record_rows r) (row f true) (other-numbers r) (member w.before w.after w.order) in
    clash t (ap not (eq-eqb (number f) 9 n))
  where
    member : (before after : List Row) → record_rows r ≡ before ++ (row f true ∷ after) → Memᴰ (row f true) (record_rows r)
    member before after o = rw o (Memᴰ.append_right before (Memᴰ.head refl))

-- WHAT IS REFUSED: what the test of the record gives, else 9
module _ (r : Railway) (figs : List ℕ) where
  count-rows : count_refusal r figs ≡ or_else (record_refusal r) (refuse_if (table_short r figs) Space none)
  unfolding count_refusal record_refusal first
  count-rows = first-append (record_rows r) (row Space (table_short r figs) ∷ [])

  pub by-record : (f : Refusal) → record_refusal r ≡ some f → count_refusal r figs ≡ some f
  by-record f e = count-rows ∙ rw e

  pub by_length : record_refusal r ≡ none → count_refusal r figs ≡ refuse_if (table_short r figs) Space none
  by_length e = count-rows ∙ rw e

  pub too_short : record_refusal r ≡ none → length figs < placements r → count_refusal r figs ≡ some Space
  too_short e l = by_length e ∙ rw (lt-ltb (length figs) (placements r) l)

  pub enough : record_refusal r ≡ none → placements r ≤ length figs → count_refusal r figs ≡ none
  enough e l = by_length e ∙ rw (le-ltb (length figs) (placements r) l)

  -- one of three
  none-refused : count_refusal r figs ≡ none → (record_refusal r ≡ none) × (placements r ≤ length figs)
  none-refused e = elim (option? (record_refusal r)) [
    | inr x ↦ some-none (by-record x.0 x.1) e
    | inl x ↦ elim (lt? (length figs) (placements r)) [ inl l ↦ some-none (too_short x l) e | inr l ↦ (x, l) ]
  ]

  nine-refused : number_of (count_refusal r figs) ≡ some 9 → (record_refusal r ≡ none) × (length figs < placements r)
  nine-refused e = elim (option? (record_refusal r)) [
    | inr x ↦ absurd (record-nine r x.0 x.1 (some_one (ap number_of (sym (by-record x.0 x.1)) ∙ e)))
    | inl x ↦ elim (lt? (length figs) (placements r)) [ inl l ↦ (x, l) | inr l ↦ some-none e (ap number_of (enough x l)) ]
  ]

-- ANY REPLY that keeps the promise
reply-number : (r : Railway) (figs : List ℕ) (o : Option Refusal) → count_number (reply_by r figs o).answer ≡ number_of o
reply-number r figs none = refl
reply-number r figs (some f) = refl

pub reply-made : (r : Railway) (figs : List ℕ) (o : Option Refusal) → count_refusal r figs ≡ o → CountPost r figs (reply_by r figs o)
reply-made r figs o e = record { numbered = reply-number r figs o ∙ ap number_of (sym e); replied = ap (reply_by r figs) (sym e) }

counted_none : (r : Railway) (figs : List ℕ) (o : Option Refusal) → (reply_by r figs o).answer ≡ Counted → o ≡ none
counted_none r figs none e = refl
counted_none r figs (some f) e = some-none refl (ap count_number e)

refused-some : (r : Railway) (figs : List ℕ) (o : Option Refusal) (f : Refusal) → (reply_by r figs o).answer ≡ Refused f → o ≡ some f
refused-some r figs none f e = some-none (ap count_number e) refl
refused-some r figs (some g) f e = ap (λ (h : Refusal). some h) (refusal-one g f (some_one (ap count_number e)))

module _ (r : Railway) (figs : List ℕ) (x : CountReply) (post : CountPost r figs x) where
  answer-is : (o : Option Refusal) → count_refusal r figs ≡ o → x.answer ≡ (reply_by r figs o).answer
  answer-is o e = ap (λ (y : CountReply). y.answer) (post.replied ∙ ap (reply_by r figs) e)

  counts-are : (o : Option Refusal) → count_refusal r figs ≡ o → x.counts ≡ (reply_by r figs o).counts
  counts-are o e = ap (λ (y : CountReply). y.counts) (post.replied ∙ ap (reply_by r figs) e)

  pub is-counted : x.answer ≡ Counted → count_refusal r figs ≡ none
  is-counted e = counted_none r figs (count_refusal r figs) (sym (answer-is (count_refusal r figs) refl) ∙ e)

  is-refused : (f : Refusal) → x.answer ≡ Refused f → count_refusal r figs ≡ some f
  is-refused f e = refused-some r figs (count_refusal r figs) f (sym (answer-is (count_refusal r figs) refl) ∙ e)

  all-zero : (f : Refusal) → x.answer ≡ Refused f → (i : ℕ) → get_or x.counts i 0 ≡ 0
  all-zero f e i = ap (λ (xs : List ℕ). get_or xs i 0) (counts-are (some f) (is-refused f e)) ∙ zero-at i
    where
      zero-at : (i : ℕ) → ◌≡◌ {A = ℕ} (get_or (replicate classes 0) i 0) 0
      zero-at i = elim (lt? i classes) [
        | inl l ↦ get_or-replicate classes i 0 0 l
        | inr l ↦ get_or-eq_default (replicate classes 0) 0 {n = i} (rw (length-replicate {A = ℕ} classes 0) l)
      ]

  -- another table with the same entries up to the last code
  same-counts : (other : List ℕ) → ((p : ℕ) → p < placements r → get_or other p no_figure ≡ get_or figs p no_figure) → (i : ℕ) → count_of r other i ≡ count_of r figs i
  unfolding in_class
  same-counts other h i = count_same (in_class other i) (in_class figs i) (placements r) (λ p l. rw (h p l))

  same-reply : (other : List ℕ) → placements r ≤ length figs → placements r ≤ length other → ((p : ℕ) → p < placements r → get_or other p no_figure ≡ get_or figs p no_figure)
      → (y : CountReply) → CountPost r other y → y ≡ x
  same-reply other l m h y p = elim (option? (record_refusal r)) [
    | inr f ↦ p.replied ∙ ap (reply_by r other) (by-record r other f.0 f.1) ∙ sym (ap (reply_by r figs) (by-record r figs f.0 f.1)) ∙ sym post.replied
    | inl f ↦
        let c : list_below (count_of r other) classes ≡ list_below (count_of r figs) classes =
        list_same (count_of r other) (count_of r figs) classes (λ i b. same-counts other h i) in
        p.replied
        ∙ ap (reply_by r other) (enough r other f m)
        ∙ ap (λ (xs : List ℕ). reply xs) c
        ∙ sym (ap (reply_by r figs) (enough r figs f l))
        ∙ sym post.replied
  ]
    where
      reply : List ℕ → CountReply
      reply xs = record { answer = Counted; counts = xs }

  pub claims : CountClaims r figs x
  claims =
      record {
        counted = ((λ e. none-refused r figs (is-counted e)), λ h. answer-is none (enough r figs h.0 h.1));
        spread = λ e. spread-of figs (placements r) (λ p f. figure_in figs p ≡ f) (λ p l f. ((λ h. h), λ h. h)) x.counts (counts-are none (is-counted e));
        record-first = λ f e. answer-is (some f) (by-record r figs f e);
        nine = (
          (λ e. nine-refused r figs (sym post.numbered ∙ e)),
          λ h. post.numbered ∙ ap number_of (too_short r figs h.0 h.1),
        );
        zeros = all-zero;
        unread = same-reply;
      }

-- WITH THE SOLVER'S TABLE
module _ (r : Railway) (a : SolverAnswer) (figs sets figs₁ sets₁ : List ℕ) (accepted : record_refusal r ≡ none) (long-figs : placements r ≤ length figs) (long-sets : placements r ≤ length sets)
    (post : SolverPost r a figs sets figs₁ sets₁) where
  left : SolverTables r figs sets figs₁ sets₁
  left = (
      let e : case_refusal r figs sets ≡ none = (case-none r figs sets).1 (accepted, record { figures = long-figs; settings = long-sets }) in
      let u : SolverTables r figs sets figs₁ sets₁ × (figure_given a ≡ figure_in figs₁ (start_code r)) = rw e at post.leaves in
      u.0
      )

  -- the table has a placement's figure, and no other is its figure
  agreeing : (p : ℕ) → p < placements r → (f : Option ℕ) → (figure_in figs₁ p ≡ f) ↔ IsFigure (game_of r) p f
  agreeing p l f = (
    (λ e. rw e at (left.filled.figures p l)),
    λ i. figure-one (game_of r) p (figure_in figs₁ p) f (left.filled.figures p l) i,
  )

  solved-counts : (x : CountReply) → CountPost r figs₁ x → (x.answer ≡ Counted) × Spread (IsFigure (game_of r)) (placements r) x.counts
  solved-counts x p =
      let e : count_refusal r figs₁ ≡ none = enough r figs₁ accepted (omega (arith, left.kept-figs.as_long)) in
      (answer-is r figs₁ x p none e, spread-of figs₁ (placements r) (IsFigure (game_of r)) agreeing x.counts (counts-are r figs₁ x p none e))

pub counts-hold : CountsHold
counts-hold =
    record {
      claims = claims;
      solved = solved-counts;
      lost = λ r p e n forced. lost-unforced (game_of r) p n e forced;
      one_number = number-one;
      answered = λ r figs. (reply_by r figs (count_refusal r figs), reply-made r figs (count_refusal r figs) refl);
    }
