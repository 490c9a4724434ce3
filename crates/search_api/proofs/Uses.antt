-- The exported calls at work in Yard A, whose figures are 0 at (3, 1), 1 at (2, 1) and 2 at (2, 3), codes 2, 1 and 7: a search that is opened and a round that follows it, one that
-- has ended, what placements show, and texts and tables that are refused, with all as it was. Assumes nothing.
use mathlib.Core.Path.{◌≡◌, refl, sym, ◌∙◌, ap, subst}
use mathlib.Core.Bool.{Bool, false, cond}
use mathlib.Core.List.{List, [], ◌∷◌}
use mathlib.Core.Option
use mathlib.Core.Option.{Option, none, some}
use Prim.Native.Nat.{ℕ, suc, ◌≤◌, ◌<◌}
use native.Mathlib.Omega.{arith}
use lib.ListN.{length, get_or, replicate}
use Rattle.laws.specs.Below.{any_below, sum_below, list_below}
use Rattle.laws.specs.Lists.{any, all}
use Rattle.laws.proofs.Bools.{not-true, some-none, some_one}
use Rattle.text.specs.Text.{bytes}
use Rattle.text.specs.Reading.{is_digit, byte_at, digits_at, number_at}
use Rattle.railway.specs.declared.Refusal.{Refusal}
use Rattle.railway.specs.declared.Refusal.TheVariants.{Form, Space}
use Rattle.railway.specs.Ends.{end_at}
use Rattle.railway.specs.Refusals.{number, number_of, first}
use Rattle.railway.specs.Record.{is_closed, joined_by, joined, has_signal, legs_of, train_of, weight_of, with_join, with_signal, with_legs, with_train}
use Rattle.railway.specs.Rows.{weight_row, unknown_row, join_row, loose_row, longer, chain_row, place_row}
use Rattle.railway.specs.Yards.{yard_a}
use Rattle.case_file.specs.Given.{refused, AcceptedWith, RefusedWith}
use Rattle.case_file.specs.Reading.{header_at, walk, read, case_answer}
use Rattle.case_file.specs.YardTexts.{yard_texts}
use Rattle.case_file.proofs.Given.{refused-exactly}
use Rattle.case_file.proofs.YardTexts.{yards-accepted}
use Rattle.game.specs.Placement.{code_of, names_none, placements}
use Rattle.game_tables.specs.Tables.{no_figure, figure_in, tables_short, case_refusal}
use Rattle.game_tables.specs.Rounds.{AllBelow}
use Rattle.game_tables.proofs.Refusals.{case-none}
use Rattle.game_tables.proofs.KnownYards.{figs_a, sets_a, yard_a-accepted, yard_a-filled}
use Rattle.game_placement.specs.ByValue.{section_in}
use Rattle.search.specs.declared.Search.{Search}
use Rattle.search.specs.SearchAnswer.{SearchAnswer, Going, Ended, Refused}
use Rattle.search.specs.Shown.{Shown, Figure, NotYet, NoFigure, Refused as ShownRefused}
use Rattle.search.specs.Searching.{State, number_given, going_on, Standing, Opened, Rounded, SearchPost, looked_up}
use Rattle.search_api.specs.Exported.{search_of, Lent, lent, state_of, lent_of, left_with, OpenedRailway, OpenedText}
use Rattle.search_api.specs.Exported.{round_number, RoundedRailway, RoundedText, placement_of, shown_number}
use Rattle.search_api.specs.Exported.{figure_left, LookedText}
use Rattle.search_api.proofs.Exported.{stand-for-themselves, told-apart}

abbrev N : ℕ
N = no_figure

-- THE TEXTS: Yard A's, and one out of form
abbrev case_a : List ℕ
case_a = bytes "H\t3\t1\t2\nP\t1\td\nJ\t1u\t1+\nJ\t2u\t1-\nJ\t3d\t1s\nG\t1d\nG\t2u\nT\t1\tu\t2\t3\nT\t2\td\t3\t1\n"

read-so : AcceptedWith case_a yard_a
unfolding yard_texts
read-so = yards-accepted.0

out-of-form : case_answer (bytes "H\n") ≡ refused Form
unfolding bytes first is_digit byte_at digits_at number_at header_at walk read case_answer
out-of-form = refl

form-refused : RefusedWith (bytes "H\n") Form
form-refused = (refused-exactly (bytes "H\n") Form).0 out-of-form

-- WHAT IS COMPUTED: tables lent, longer than needed and too short
abbrev fives : List ℕ
fives = replicate 9 5

abbrev short : List ℕ
short = replicate 8 5

cases-so : (case_refusal yard_a fives (replicate 12 5) ≡ none) × (case_refusal yard_a short fives ≡ some Space)
unfolding case_refusal tables_short first weight_row weight_of unknown_row join_row loose_row chain_row longer place_row end_at
    joined_by joined has_signal legs_of train_of with_join with_signal with_legs with_train any_below list_below any all is_closed
cases-so = (refl, refl)

nine : placements yard_a ≡ 9
unfolding with_join with_signal with_legs with_train
nine = refl

-- not every figure is below 2
two-below : (n : ℕ) → AllBelow yard_a n → 2 < n
two-below n h = h 7 2 (omega (arith, nine)) (yard_a-filled.figures 7 (omega (arith, nine)))

-- AN ANSWER BY ITS NUMBER: what is left where none is given, and where one is
left-none : (a : SearchAnswer) (o : Option Refusal) → number_given a ≡ number_of o → o ≡ none → (old : Lent) (s : State) → left_with old a s ≡ lent_of s
left-none Going o e g old s = refl
left-none Ended o e g old s = refl
left-none (Refused f) o e g old s = some-none (sym e) (ap number_of g)

left-some : (a : SearchAnswer) (o : Option Refusal) → number_given a ≡ number_of o → (f : Refusal) → o ≡ some f → (old : Lent) (s : State) → (left_with old a s ≡ old) × (round_number a ≡ number f)
left-some Going o e f g old s = some-none (ap number_of g) (sym e)
left-some Ended o e f g old s = some-none (ap number_of g) (sym e)
left-some (Refused h) o e f g old s = (refl, some_one (e ∙ ap number_of g))

-- A SEARCH THAT STANDS after k rounds, in numbers and by value
same-state : (s : State) → state_of (lent_of s) ≡ s
same-state s = ap (λ (x : Search). record { search = x; figs = s.figs; sets = s.sets; marks = s.marks }) (stand-for-themselves s.search)

record Stands (k : ℕ) (l : Lent) : Type 0 where
  state : State
  same : l ≡ lent_of state
  stands : Standing yard_a k state
  long-figs : length state.figs ≡ 9
  long-sets : length state.sets ≡ 12

-- up to the second the search goes on
going : (k : ℕ) → k ≤ 2 → (s : State) → Standing yard_a k s → s.search.ended ≡ false
going k b s x = not-true s.search.ended (λ e. omega (arith, b, two-below k (x.ended.0 e)))

-- OPENED, with whatever numbers and marks: no round is finished, the search goes on, and what stands past the last code stays
module _ (state marks : List ℕ) (n : ℕ) (new : Lent) where
  opens : OpenedText case_a (lent state fives (replicate 12 5) marks) n new → (n ≡ 0) × Stands 0 new × (get_or new.sets 10 0 ≡ 5)
  opens c =
      let w : OpenedRailway yard_a (lent state fives (replicate 12 5) marks) n new = c.accepted yard_a read-so in
      let o : Opened yard_a fives (replicate 12 5) w.answer w.state = rw cases-so.0 at w.opened.leaves in
      let same : new ≡ lent_of w.state = w.leaves ∙ left-none w.answer (case_refusal yard_a fives (replicate 12 5))
      w.opened.numbered cases-so.0 (lent state fives (replicate 12 5) marks) w.state in (
        w.numbered ∙ ap (λ (x : Option ℕ). Option.get_or x 0) (w.opened.numbered ∙ ap number_of cases-so.0),
        record { state = w.state; same = same; stands = o.stands; long-figs = o.kept-figs.as_long; long-sets = o.kept_sets.as_long },
        ap (λ (x : Lent). get_or x.sets 10 0) same ∙ o.kept_sets.past 10 (omega (arith, nine)),
      )

  -- a table is too short, a text out of form
  not_opened : OpenedText case_a (lent state short fives marks) n new → (n ≡ 9) × (new ≡ lent state short fives marks)
  not_opened c =
      let w : OpenedRailway yard_a (lent state short fives marks) n new = c.accepted yard_a read-so in (
        w.numbered ∙ ap (λ (x : Option ℕ). Option.get_or x 0) (w.opened.numbered ∙ ap number_of cases-so.1),
        w.leaves ∙ (left-some w.answer (case_refusal yard_a short fives) w.opened.numbered Space cases-so.1 (lent state short fives marks) w.state).0,
      )

  unread : OpenedText (bytes "H\n") (lent state fives fives marks) n new → (n ≡ 2) × (new ≡ lent state fives fives marks)
  unread c = c.refused Form form-refused

-- A ROUND MORE, up to the second
one_more : (k : ℕ) → suc k ≤ 2 → (l : Lent) → Stands k l → (n : ℕ) (new : Lent) → RoundedText case_a l n new → (n ≡ 0) × Stands (suc k) new
one_more k b l x n new c =
    let w : RoundedRailway yard_a l n new = c.accepted yard_a read-so in
    let s : State = x.state in
    let post : SearchPost yard_a s w.answer w.state = subst (λ (y : State). SearchPost yard_a y w.answer w.state) (ap state_of x.same ∙ same-state s) w.rounded in
    let fine : case_refusal yard_a s.figs s.sets ≡ none = (case-none yard_a s.figs s.sets).1 (
      yard_a-accepted,
      record { figures = omega (arith, nine, x.long-figs); settings = omega (arith, nine, x.long-sets) },
    ) in
    let done : Rounded yard_a s w.answer w.state = rw fine at post.leaves in
    let stands : Standing yard_a (suc k) w.state = done.one_more k x.stands (going k (omega (arith, b)) s x.stands) in (
      w.numbered ∙ ap round_number (done.told ∙ ap (λ (e : Bool). cond e Ended Going) (going (suc k) b w.state stands)),
      record {
        state = w.state;
        same = w.leaves ∙ left-none w.answer (case_refusal yard_a s.figs s.sets) post.numbered fine l w.state;
        stands = stands;
        long-figs = done.kept-figs.as_long ∙ x.long-figs;
        long-sets = done.kept_sets.as_long ∙ x.long-sets;
      },
    )

-- so behind the opening two rounds bring (2, 3) its figure, and 2 rounds are counted; behind one it has none yet
module _ (state marks : List ℕ) (n₀ n₁ n₂ : ℕ) (l₀ l₁ l₂ : Lent)
    (c₀ : OpenedText case_a (lent state fives (replicate 12 5) marks) n₀ l₀) (c₁ : RoundedText case_a l₀ n₁ l₁)
    (c₂ : RoundedText case_a l₁ n₂ l₂) where
  once : Stands 1 l₁
  once = (one_more 0 (omega arith) l₀ (opens state marks n₀ l₀ c₀).1 n₁ l₁ c₁).1

  twice : (n₂ ≡ 0) × Stands 2 l₂
  twice = one_more 1 (omega arith) l₁ once n₂ l₂ c₂

  second-round : (n₂ ≡ 0) × (get_or l₂.state 0 9 ≡ 2) × (get_or l₂.state 1 9 ≡ 0) × (figure_in l₁.figs 7 ≡ none) × (figure_in l₂.figs 7 ≡ some 2)
  second-round =
      let a : Stands 1 l₁ = once in
      let b : Stands 2 l₂ = twice.1 in
      let f = yard_a-filled.figures 7 (omega (arith, nine)) in (
        twice.0,
        ap (λ (y : Lent). get_or y.state 0 9) b.same ∙ b.stands.rounds,
        ap (λ (y : Lent). get_or y.state 1 9) b.same ∙ ap (λ (e : Bool). cond e 1 0) (going 2 (omega arith) b.state b.stands),
        ap (λ (y : Lent). figure_in y.figs 7) a.same ∙ a.stands.tables.figures 7 (omega (arith, nine)) (some 2) f,
        ap (λ (y : Lent). figure_in y.figs 7) b.same ∙ b.stands.tables.figures 7 (omega (arith, nine)) (some 2) f,
      )

-- ENDED, by whatever number says so: nothing is altered but that number
abbrev over : List ℕ → Lent
over marks = lent (5 ∷ 7 ∷ 9 ∷ []) fives (replicate 12 5) marks

module _ (state marks : List ℕ) (n : ℕ) (new : Lent) where
  has_ended : RoundedText case_a (over marks) n new → (n ≡ 255) × (new ≡ lent (5 ∷ 1 ∷ 9 ∷ []) fives (replicate 12 5) marks)
  has_ended c =
      let w : RoundedRailway yard_a (over marks) n new = c.accepted yard_a read-so in
      let done : Rounded yard_a (state_of (over marks)) w.answer w.state = rw cases-so.0 at w.rounded.leaves in
      let same : w.state ≡ state_of (over marks) = done.done refl in (
        w.numbered ∙ ap round_number (done.told ∙ ap (λ (s : State). going_on s.search) same),
        w.leaves ∙ left-none w.answer (case_refusal yard_a fives (replicate 12 5)) w.rounded.numbered cases-so.0 (over marks) w.state ∙ ap lent_of same,
      )

  -- a table is too short, a text out of form
  not-rounded : RoundedText case_a (lent state short fives marks) n new → (n ≡ 9) × (new ≡ lent state short fives marks)
  not-rounded c =
      let w : RoundedRailway yard_a (lent state short fives marks) n new = c.accepted yard_a read-so in
      let kept = left-some w.answer (case_refusal yard_a short fives) w.rounded.numbered Space cases-so.1 (lent state short fives marks) w.state in
      (w.numbered ∙ kept.1, w.leaves ∙ kept.0)

  unread-round : RoundedText (bytes "H\n") (lent state fives fives marks) n new → (n ≡ 2) × (new ≡ lent state fives fives marks)
  unread-round c = c.refused Form form-refused

-- LOOKING UP (2, 3): its figure; not yet, and none, with tables that have none there; none at section 0 and at section 4, which are not there; refused with a table that is too short
abbrev empty : List ℕ
empty = replicate 9 N

abbrev at : ℕ → ℕ → List ℕ → List ℕ → List ℕ → Shown
at a b state figs sets = looked_up yard_a (section_in (placement_of (a ∷ b ∷ 0 ∷ 0 ∷ []))) (search_of state) figs sets

shows-so : (at 2 3 (2 ∷ 0 ∷ 3 ∷ []) figs_a sets_a ≡ Figure 2)
    × (at 2 3 (1 ∷ 0 ∷ 2 ∷ []) empty sets_a ≡ NotYet)
    × (at 2 3 (1 ∷ 7 ∷ 2 ∷ []) empty sets_a ≡ NoFigure)
    × (at 0 3 (1 ∷ 0 ∷ 2 ∷ []) empty sets_a ≡ NoFigure)
    × (at 2 4 (1 ∷ 0 ∷ 2 ∷ []) empty sets_a ≡ NoFigure)
    × (at 2 3 (2 ∷ 0 ∷ 3 ∷ []) short sets_a ≡ ShownRefused Space)
unfolding looked_up names_none code_of sum_below case_refusal tables_short first weight_row weight_of unknown_row join_row
    loose_row chain_row longer place_row end_at joined_by joined has_signal legs_of train_of with_join with_signal with_legs
    with_train any_below list_below any all is_closed
shows-so = (refl, refl, refl, refl, refl, refl)

-- what is answered and left, by what is shown
looked : (a b : ℕ) (state figs sets : List ℕ) (figure n figure' : ℕ) → LookedText case_a state figs sets (a ∷ b ∷ 0 ∷ 0 ∷ []) figure n figure' → (v : Shown) → at a b state figs sets ≡ v
    → (n ≡ shown_number v) × (figure' ≡ figure_left figure v)
looked a b state figs sets figure n figure' c v e = (let w = c.accepted yard_a read-so in (w.numbered ∙ ap shown_number e, w.leaves ∙ ap (figure_left figure) e))

module _ (figure n figure' : ℕ) where
  shows-two : LookedText case_a (2 ∷ 0 ∷ 3 ∷ []) figs_a sets_a (2 ∷ 3 ∷ 0 ∷ 0 ∷ []) figure n figure' → (n ≡ 0) × (figure' ≡ 2)
  shows-two c = looked 2 3 (2 ∷ 0 ∷ 3 ∷ []) figs_a sets_a figure n figure' c (Figure 2) shows-so.0

  not_yet : LookedText case_a (1 ∷ 0 ∷ 2 ∷ []) empty sets_a (2 ∷ 3 ∷ 0 ∷ 0 ∷ []) figure n figure' → (n ≡ 254) × (figure' ≡ figure)
  not_yet c = looked 2 3 (1 ∷ 0 ∷ 2 ∷ []) empty sets_a figure n figure' c NotYet shows-so.1

  without : LookedText case_a (1 ∷ 7 ∷ 2 ∷ []) empty sets_a (2 ∷ 3 ∷ 0 ∷ 0 ∷ []) figure n figure' → (n ≡ 255) × (figure' ≡ figure)
  without c = looked 2 3 (1 ∷ 7 ∷ 2 ∷ []) empty sets_a figure n figure' c NoFigure shows-so.2

  no-section : LookedText case_a (1 ∷ 0 ∷ 2 ∷ []) empty sets_a (0 ∷ 3 ∷ 0 ∷ 0 ∷ []) figure n figure' → (n ≡ 255) × (figure' ≡ figure)
  no-section c = looked 0 3 (1 ∷ 0 ∷ 2 ∷ []) empty sets_a figure n figure' c NoFigure shows-so.3

  past-the-last : LookedText case_a (1 ∷ 0 ∷ 2 ∷ []) empty sets_a (2 ∷ 4 ∷ 0 ∷ 0 ∷ []) figure n figure' → (n ≡ 255) × (figure' ≡ figure)
  past-the-last c = looked 2 4 (1 ∷ 0 ∷ 2 ∷ []) empty sets_a figure n figure' c NoFigure shows-so.4

  not-looked : LookedText case_a (2 ∷ 0 ∷ 3 ∷ []) short sets_a (2 ∷ 3 ∷ 0 ∷ 0 ∷ []) figure n figure' → (n ≡ 9) × (figure' ≡ figure)
  not-looked c = looked 2 3 (2 ∷ 0 ∷ 3 ∷ []) short sets_a figure n figure' c (ShownRefused Space) shows-so.5

  unread-look : LookedText (bytes "H\n") (2 ∷ 0 ∷ 3 ∷ []) figs_a sets_a (2 ∷ 3 ∷ 0 ∷ 0 ∷ []) figure n figure' → (n ≡ 2) × (figure' ≡ figure)
  unread-look c = c.refused Form form-refused

-- the numbers say what was answered, whatever it was
opened-said : (a : SearchAnswer) → Option.get_or (number_given a) 0 ≡ 0 → number_given a ≡ none
opened-said a = (told-apart.0 a).opened

going-said : (a : SearchAnswer) → round_number a ≡ 0 → a ≡ Going
going-said a = (told-apart.0 a).going

end-said : (a : SearchAnswer) → round_number a ≡ 255 → a ≡ Ended
end-said a = (told-apart.0 a).ended

figure-said : (a : Shown) → shown_number a ≡ 0 → a ≡ Figure (figure_left 5 a)
figure-said a = (told-apart.1 a 5).shown

not-yet-said : (a : Shown) → shown_number a ≡ 254 → a ≡ NotYet
not-yet-said a = (told-apart.1 a 5).not_yet

none_said : (a : Shown) → shown_number a ≡ 255 → a ≡ NoFigure
none_said a = (told-apart.1 a 5).without
