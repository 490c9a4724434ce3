-- The hypotheses of the statement can be met: in every accepted case, with tables that are long enough, a search can be opened, and each call for a round can be answered as promised, so that
-- there are lists of any number of calls. The tables are those of each round (game_tables/proofs/RoundTables), and marks that all have the number of the round are right. Assumes nothing.
use mathlib.Core.Path.{◌≡◌, refl, sym, ◌∙◌, ap, subst}
use mathlib.Core.Logic.{inl, inr}
use mathlib.Core.Bool.{Bool, true, false, cond, ◌&&◌}
use mathlib.Core.List.{List}
use mathlib.Core.Option
use mathlib.Core.Option.{Option, none, some}
use Prim.Native.Nat.{ℕ, zero, suc, ◌+◌, ◌*◌, ◌≤◌, ◌<◌}
use native.Mathlib.Omega.{arith}
use lib.ListN.{length, get_or, replicate, length-replicate, get_or-replicate}
use lib.Dec.{ltb, eqb}
use borrow.Author.Tests.{ltb-true, lt-ltb, eqb-true, eq-eqb}
use Rattle.laws.specs.Below.{all_below, any_below, lowest}
use Rattle.laws.proofs.Bools.{lt?, clash, some-none, some_one, and-true, and_both}
use Rattle.laws.proofs.Below.{all-at, all_of, any_at, any_of, lowest-cases, lowest-least, overwritten, overwritten-length, overwritten-past}
use Rattle.railway.specs.declared.Railway.{Railway}
use Rattle.railway.specs.declared.Refusal.{Refusal}
use Rattle.railway.specs.Bounds.{most_trains}
use Rattle.railway.specs.Refusals.{number_of}
use Rattle.railway.specs.Rows.{record_refusal}
use Rattle.game.specs.Game.{IsFigure}
use Rattle.game.specs.Placement.{placements}
use Rattle.game.specs.Moves.{game_of}
use Rattle.game.proofs.Accepted.{facts}
use Rattle.game.proofs.Figures.{figure-one}
use Rattle.game_tables.specs.Tables.{no_figure, case_refusal}
use Rattle.game_tables.specs.Solver.{Kept}
use Rattle.game_tables.proofs.Rounds.{accepted-go}
use Rattle.game_tables.specs.Rounds.{RoundTables, HasFigure, AllBelow, most_figure}
use Rattle.game_tables.proofs.Refusals.{case-none}
use Rattle.game_tables.proofs.Exists.{Solution, solution, few-placements}
use Rattle.game_tables.proofs.RoundTables.{of-up-to, round-written}
use Rattle.solver_marks.specs.Marks.{stretch_of, stretches, due_at, most_at, Room}
use Rattle.solver_rounds.specs.Visits.{passed_by, since, MarkedFor}
use Rattle.search.specs.SearchAnswer.{SearchAnswer, Going, Ended}
use Rattle.search.proofs.Opening.{none-cleared}
use Rattle.search.specs.Searching.{State, number_given, going_on, Coming, Standing, OpenLeaves, OpenPost, Rounded, RoundLeaves, SearchPost, Searching, begun, call}

-- (Searching is named so that it is checked before: a wrong definition then shows at what follows from it.)

-- MARKS that are all the same
marks_of : ℕ → List ℕ
marks_of n = replicate ((most_trains + 1) * stretches) n

marks-room : (n : ℕ) → Room (marks_of n)
unfolding marks_of
marks-room n = record { enough = length-replicate {A = ℕ} ((most_trains + 1) * stretches) n }

mark-at : (n i : ℕ) → i < (most_trains + 1) * stretches → get_or (marks_of n) i 0 ≡ n
unfolding marks_of
mark-at n i l = get_or-replicate ((most_trains + 1) * stretches) i n 0 l

-- what is still to have its turn is not before the round
since-least : (n t q : ℕ) → n ≤ since n (record { train = 0; code = 0 }) t q
since-least n t q = go (passed_by (record { train = 0; code = 0 }) t q)
  where
    go : (b : Bool) → n ≤ cond b (suc n) n
    go true = omega arith
    go false = omega arith

-- a figure is j; it is below n
abbrev is_figure : ℕ → Option ℕ → Bool
is_figure j none = false
is_figure j (some i) = eqb i j

is-figure : (j : ℕ) (f : Option ℕ) → is_figure j f ≡ true → f ≡ some j
is-figure j none e = clash e refl
is-figure j (some i) e = ap (λ (k : ℕ). some k) (eqb-true i j e)

figure-is : (j : ℕ) (f : Option ℕ) → f ≡ some j → is_figure j f ≡ true
figure-is j f e = rw e (eq-eqb j j refl)

abbrev is_below : ℕ → Option ℕ → Bool
is_below n none = true
is_below n (some j) = ltb j n

is-below : (n : ℕ) (f : Option ℕ) (j : ℕ) → is_below n f ≡ true → f ≡ some j → j < n
is-below n none j b e = some-none e refl
is-below n (some i) j b e = omega (arith, ltb-true i n b, some_one e)

below-is : (n : ℕ) (f : Option ℕ) → ((j : ℕ) → f ≡ some j → j < n) → is_below n f ≡ true
below-is n none h = refl
below-is n (some j) h = lt-ltb j n (h j refl)

module _ (r : Railway) (accepted : record_refusal r ≡ none) (figs sets : List ℕ) (lf : placements r ≤ length figs) (ls : placements r ≤ length sets) where
  x : Solution r
  x = solution r accepted

  figure-of : (p : ℕ) (f : Option ℕ) → p < placements r → IsFigure (game_of r) p f → x.figure p ≡ f
  figure-of p f l i = figure-one (game_of r) p (x.figure p) f (x.figures p l) i

  -- some placement has figure j; the next after n that one has
  has_figure : ℕ → Bool
  has_figure j = any_below (λ p. is_figure j (x.figure p)) (placements r)

  has-true : (j : ℕ) → has_figure j ≡ true → HasFigure r j
  unfolding has_figure
  has-true j e =
      let y = any_at (λ p. is_figure j (x.figure p)) (placements r) e in
      let z : x.figure y.0 ≡ some j = is-figure j (x.figure y.0) y.2 in
      record { code = y.0; there = y.1; is = rw z at (x.figures y.0 y.1) }

  true-has : (j : ℕ) → HasFigure r j → has_figure j ≡ true
  unfolding has_figure
  true-has j h = any_of (λ p. is_figure j (x.figure p)) (placements r) h.code h.there (figure-is j (x.figure h.code) (figure-of h.code (some j) h.there h.is))

  comes : ℕ → ℕ → Bool
  comes n j = ltb n j && has_figure j

  next : ℕ → ℕ
  next n = Option.get_or (lowest (comes n) no_figure) no_figure

  is-coming : (n : ℕ) → n < no_figure → Coming r n (next n)
  unfolding next comes
  is-coming n room =
      elim (lowest-cases (comes n) no_figure) [
        | inl y ↦ (
            let e : lowest (comes n) no_figure ≡ some y.0 = y.1 in
            let b = and-true (ltb n y.0) (has_figure y.0) y.3 in
            rw e (record { first = λ j h l. lowest-least (comes n) no_figure y.0 e j (comes-at j h l) (small j h); later = ltb-true n y.0 b.0; brings = λ a l. has-true y.0 b.1 })
            )
        | inr y ↦ (
            let e : lowest (comes n) no_figure ≡ none = y.0 in
            rw e (record { first = λ j h l. clash (comes-at j h l) (y.1 j (small j h)); later = room; brings = λ a l. absurd (omega arith) })
            )
      ]
    where
      small : (j : ℕ) → HasFigure r j → j < no_figure
      small j h = x.small h.code j h.there (figure-of h.code (some j) h.there h.is)

      comes-at : (j : ℕ) → HasFigure r j → n < j → (ltb n j && has_figure j) ≡ true
      comes-at j h l = and_both (ltb n j) (has_figure j) (lt-ltb n j l) (true-has j h)

  -- whether it has ended
  is_ended : ℕ → Bool
  is_ended n = all_below (λ p. is_below n (x.figure p)) (placements r)

  ended-true : (n : ℕ) → is_ended n ≡ true → AllBelow r n
  unfolding is_ended
  ended-true n e p j l i = is-below n (x.figure p) j (all-at (λ p. is_below n (x.figure p)) (placements r) e p l) (figure-of p (some j) l i)

  true-ended : (n : ℕ) → AllBelow r n → is_ended n ≡ true
  unfolding is_ended
  true-ended n h = all_of (λ p. is_below n (x.figure p)) (placements r) (λ p l. below-is n (x.figure p) (λ j e. h p j l (rw e at (x.figures p l))))

  -- THE TABLES of round n, and the search
  record Made (n : ℕ) : Type 0 where
    new-figs : List ℕ
    new-sets : List ℕ
    tables : RoundTables r n new-figs new-sets
    kept-figs : Kept r figs new-figs
    kept_sets : Kept r sets new-sets

  kept-over : (f : ℕ → ℕ) (old : List ℕ) → placements r ≤ length old → Kept r old (overwritten f (placements r) old)
  kept-over f old l = record { as_long = overwritten-length f (placements r) old l; past = λ p b. overwritten-past f (placements r) old l p 0 b }

  made : (n : ℕ) → Made n
  made n = record { new-figs = _; new-sets = _; tables = round-written r accepted n x figs sets lf ls; kept-figs = kept-over _ figs lf; kept_sets = kept-over _ sets ls }

  abbrev state : ℕ → State
  state n = record { search = record { rounds = n; ended = is_ended n; coming = next n }; figs = (made n).new-figs; sets = (made n).new-sets; marks = marks_of n }

  is-marked : (n c : ℕ) → n < c → MarkedFor r c (made n).new-figs (marks_of n)
  is-marked n c b =
      record {
        room = marks-room n;
        few = few-placements r accepted;
        most = λ q j l e.
            let m : most_at (marks_of n) q ≡ n = mark-at n (most_trains * stretches + stretch_of q) (omega (arith, few-placements r accepted)) in
            omega (arith, m, (of-up-to n (x.figure q) j (sym ((made n).tables.figures q l (x.figure q) (x.figures q l)) ∙ e)).1);
        due = λ q j t l lt first e s.
            let m : due_at (marks_of n) t q ≡ n = mark-at n (t * stretches + stretch_of q) (omega (arith, few-placements r accepted, (facts r accepted).few-trains)) in
            omega (arith, m, s, since-least c t q);
      }

  -- a search that goes on has finished fewer rounds than there are numbers
  few-rounds : (n : ℕ) → is_ended n ≡ false → n < no_figure
  few-rounds n e = elim (lt? n no_figure) [
    | inl l ↦ l
    | inr l ↦ clash (true-ended n (λ p j lp i. omega (arith, x.small p j lp (figure-of p (some j) lp i), l))) e
  ]

  no-more-rounds : (n : ℕ) → is_ended n ≡ false → n ≤ most_figure
  no-more-rounds n e = elim (lt? most_figure n) [
    | inr l ↦ l
    | inl l ↦ clash (true-ended n (λ p j lp i. omega (arith, (accepted-go r accepted).small p j lp i, l))) e
  ]

  stands : (n : ℕ) → Standing r n (state n)
  stands n =
      record {
        rounds = refl;
        tables = (made n).tables;
        ended = (ended-true n, true-ended n);
        carried = λ e. (let c : Coming r n (next n) = is-coming n (few-rounds n e) in record { coming = c; marked = λ l. is-marked n (next n) c.later });
      }

  fits : (f s : List ℕ) → Kept r figs f → Kept r sets s → case_refusal r f s ≡ none
  fits f s a b = (case-none r f s).1 (accepted, record { figures = rw a.as_long lf; settings = rw b.as_long ls })

  itself : (old : List ℕ) → Kept r old old
  itself old = record { as_long = refl; past = λ p l. refl }

  between : {old a b : List ℕ} → Kept r old a → Kept r old b → Kept r a b
  between u v = record { as_long = v.as_long ∙ sym u.as_long; past = λ p l. v.past p l ∙ sym (u.past p l) }

  number-none : (b : Bool) → number_given (cond b Ended Going) ≡ none
  number-none true = refl
  number-none false = refl

  -- OPENING
  opens : (marks : List ℕ) → OpenPost r figs sets marks (going_on (state 0).search) (state 0)
  opens marks =
      let e : case_refusal r figs sets ≡ none = fits figs sets (itself figs) (itself sets) in
      record {
        numbered = number-none (is_ended 0) ∙ sym (ap number_of e);
        leaves =
            subst (λ (o : Option Refusal). OpenLeaves r figs sets marks (going_on (state 0).search) (state 0) o) (sym e)
            (record {
              stands = stands 0;
              cleared = none-cleared r accepted (made 0).new-figs (made 0).new-sets
                  (made 0).tables;
              told = refl;
              kept-figs = (made 0).kept-figs;
              kept_sets = (made 0).kept_sets;
            });
      }

  -- A CALL, of one that has ended and of one that has not
  abbrev following : ℕ → Bool → State
  following n b = state (cond b n (suc n))

  rounded : (n : ℕ) (b : Bool) → is_ended n ≡ b → Rounded r (state n) (going_on (following n b).search) (following n b)
  rounded n true e = record {
    done = λ f. refl;
    one_more = λ m s f. clash e f;
    too_many = λ l. refl;
    counted = λ f k. clash e f;
    told = refl;
    kept-figs = itself (state n).figs;
    kept_sets = itself (state n).sets;
  }
  rounded n false e =
      record {
        done = λ f. clash f e;
        one_more = λ m s f. subst (λ (c : ℕ). Standing r (suc c) (state (suc n))) s.rounds (stands (suc n));
        too_many = λ l. absurd (omega (arith, no-more-rounds n e, l));
        counted = λ f k. refl;
        told = refl;
        kept-figs = between (made n).kept-figs (made (suc n)).kept-figs;
        kept_sets = between (made n).kept_sets (made (suc n)).kept_sets;
      }

  answers : (n : ℕ) → SearchPost r (state n) (going_on (following n (is_ended n)).search) (following n (is_ended n))
  answers n =
      let e : case_refusal r (state n).figs (state n).sets ≡ none = fits (state n).figs (state n).sets (made n).kept-figs (made n).kept_sets in
      record {
        numbered = number-none (is_ended (cond (is_ended n) n (suc n))) ∙ sym (ap number_of e);
        leaves =
            subst (λ (o : Option Refusal). RoundLeaves r (state n) (going_on (following n (is_ended n)).search) (following n (is_ended n)) o) (sym e)
            (rounded n (is_ended n) refl);
      }

  -- ANY NUMBER OF CALLS
  after : ℕ → ℕ
  after zero = 0
  after (suc k) = cond (is_ended (after k)) (after k) (suc (after k))

  calls : (k : ℕ) → Searching r (state 0) k (state (after k))
  unfolding after
  calls zero = begun
  calls (suc k) = call (going_on (following (after k) (is_ended (after k))).search) (calls k) (answers (after k))

-- THERE IS A SEARCH, of any number of calls, whatever marks are lent
pub record Searched (r : Railway) (figs sets marks : List ℕ) : Type 0 where
  pub answer : SearchAnswer
  pub opening : State
  pub opened : OpenPost r figs sets marks answer opening
  pub standing : ℕ → State
  pub runs : (k : ℕ) → Searching r opening k (standing k)

pub search-exists : (r : Railway) → record_refusal r ≡ none → (figs sets : List ℕ) → placements r ≤ length figs → placements r ≤ length sets → (marks : List ℕ) → Searched r figs sets marks
search-exists r accepted figs sets lf ls marks =
    record {
      answer = going_on (state r accepted figs sets lf ls 0).search;
      opening = state r accepted figs sets lf ls 0;
      opened = opens r accepted figs sets lf ls marks;
      standing = λ k. state r accepted figs sets lf ls (after r accepted figs sets lf ls k);
      runs = calls r accepted figs sets lf ls;
    }
