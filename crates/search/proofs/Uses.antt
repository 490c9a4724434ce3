-- The statement on searches at work in Yard A with weights, 5 and 2, whose figures are 0 at (3, 1), 5 at (2, 1) and 7 at (2, 3), codes 2, 1 and 7: from each of its parts a number or what
-- a placement shows is drawn, so that a part that were taken away, or that said nothing, would be missed. Answers, searches and tables are any of which it holds; the tables lent at the opening
-- have ten entries, one more than there are placements. Assumes nothing.
use mathlib.Core.Path.{◌≡◌, refl, ◌∙◌, ap}
use mathlib.Core.Logic.{inl, inr}
use mathlib.Core.Bool.{Bool, true, false, cond, ◌||◌}
use mathlib.Core.List.{List}
use mathlib.Core.Option.{Option, none, some}
use Prim.Native.Nat.{ℕ, suc, ◌+◌, ◌*◌, ◌-◌, ◌≤◌, ◌<◌}
use native.Mathlib.Omega.{arith}
use lib.ListN.{length, get_or, replicate}
use lib.Dec.{eqb, leb}
use borrow.Author.Tests.{leb-true}
use Rattle.laws.specs.Below.{all_below, any_below, sum_below, list_below}
use Rattle.laws.proofs.Bools.{not-true, some-none, some_one, either}
use Rattle.laws.proofs.Below.{all-at}
use Rattle.railway.specs.declared.Railway.{Railway}
use Rattle.railway.specs.declared.Refusal.{Refusal}
use Rattle.railway.specs.declared.Refusal.TheVariants.{Space}
use Rattle.railway.specs.Bounds.{most_trains}
use Rattle.railway.specs.Ends.{end_at}
use Rattle.railway.specs.Refusals.{first}
use Rattle.railway.specs.Record.{is_closed, joined_by, joined, has_signal, legs_of, train_of, weight_of, with_join, with_signal, with_legs, with_train}
use Rattle.railway.specs.Rows.{weight_row, unknown_row, join_row, loose_row, longer, chain_row, place_row}
use Rattle.game.specs.Game.{IsFigure}
use Rattle.game.specs.Placement.{code_of, code_on, names_none, placements, sections_in, stands_on, at_home, shared}
use Rattle.game.specs.Moves.{game_of}
use Rattle.game.proofs.Figures.{figure-one}
use Rattle.game_tables.specs.SolverAnswer.{SolverAnswer}
use Rattle.game_tables.specs.Tables.{no_figure, figure_in, tables_short, case_refusal}
use Rattle.game_tables.specs.Solver.{SolverPost}
use Rattle.game_tables.specs.Rounds.{HasFigure, AllBelow}
use Rattle.game_tables.proofs.Examples.{weighed, figs_w, sets_w}
use Rattle.game_tables.proofs.WeighedYards.{weighed-accepted, weighed-filled}
use Rattle.solver_marks.specs.Marks.{stretches, due_at}
use Rattle.search.specs.declared.Search.{Search}
use Rattle.search.specs.Shown.{Shown, Figure, NotYet, NoFigure, Refused as ShownRefused}
use Rattle.search.specs.SearchAnswer.{SearchAnswer, Going, Ended}
use Rattle.search.specs.Searching.{State, number_given, Standing, Opened, OpenPost, Rounded, SearchPost, looked_up}
use Rattle.search.specs.Searching.{look_up, Searching, begun, call, refused, SearchAt, SearchHolds, number_shown}
use Rattle.search.specs.Searching.{figure_shown, LookPost}
use Rattle.search.proofs.Searching.{search-holds}
use Rattle.search.proofs.Inhabited.{Searched, search-exists}

-- A placement, by the document's numbers of the sections of its two trains.
abbrev on : ℕ → ℕ → ℕ → ℕ
on a b t = cond (eqb t 0) (a - 1) (b - 1)

-- it names sections that are there, and this is its figure
record Has (a b : ℕ) (f : Option ℕ) : Type 0 where
  named : names_none weighed (on a b) ≡ false
  figure : IsFigure (game_of weighed) (code_on weighed (on a b)) f

has-7 : Has 2 3 (some 7)
unfolding names_none any_below code_of sum_below list_below with_join with_signal with_legs with_train
has-7 = record { named = refl; figure = weighed-filled.figures 7 (omega arith) }

has-5 : Has 2 1 (some 5)
unfolding names_none any_below code_of sum_below list_below with_join with_signal with_legs with_train
has-5 = record { named = refl; figure = weighed-filled.figures 1 (omega arith) }

has-0 : Has 3 1 (some 0)
unfolding names_none any_below code_of sum_below list_below with_join with_signal with_legs with_train
has-0 = record { named = refl; figure = weighed-filled.figures 2 (omega arith) }

-- (1, 3) has none, and neither has (2, 2), with two trains on one section
has-none : Has 1 3 none
unfolding names_none any_below code_of sum_below list_below with_join with_signal with_legs with_train
has-none = record { named = refl; figure = weighed-filled.figures 6 (omega arith) }

lost-has-none : Has 2 2 none
unfolding names_none any_below code_of sum_below list_below with_join with_signal with_legs with_train
lost-has-none = record { named = refl; figure = weighed-filled.figures 4 (omega arith) }

nine : placements weighed ≡ 9
unfolding with_join with_signal with_legs with_train
nine = refl

-- every figure is below 8, and not below 7
abbrev at_most : ℕ → Option ℕ → Bool
at_most n none = true
at_most n (some j) = leb j n

at-most : (n j : ℕ) (f : Option ℕ) → at_most n f ≡ true → f ≡ some j → j ≤ n
at-most n j none a e = some-none e refl
at-most n j (some i) a e = omega (arith, leb-true i n a, some_one e)

all-below : (n : ℕ) → 8 ≤ n → AllBelow weighed n
unfolding all_below
all-below n b p j l i =
    let k : p < 9 = omega (arith, nine) in
    omega (arith, at-most 7 j (figure_in figs_w p) (all-at (λ q. at_most 7 (figure_in figs_w q)) 9 refl p k) (figure-one (game_of weighed) p (figure_in figs_w p) (some j) (weighed-filled.figures p l) i))

seven-below : (n : ℕ) → AllBelow weighed n → 7 < n
unfolding with_join with_signal with_legs with_train
seven-below n h = h 7 7 (omega arith) (weighed-filled.figures 7 (omega arith))

-- THE TABLES that are lent, and the marks
abbrev F : List ℕ
F = replicate 10 5

abbrev S : List ℕ
S = replicate 10 6

abbrev M : List ℕ
M = replicate ((most_trains + 1) * stretches) 4

-- AFTER SO MANY CALLS
module _ (u : State) where
  -- after 3 no more than 3 rounds are finished
  few : SearchAt weighed F S 3 u → u.search.rounds ≤ 3
  few x = x.rounds

  -- after 6 the search has not ended, although round 6 brought nothing, and after 7 neither; after 8 it has
  going-on : SearchAt weighed F S 6 u → u.search.ended ≡ false
  going-on x = not-true u.search.ended (λ e. omega (arith, seven-below 6 (x.ended.0 e)))

  still-going : SearchAt weighed F S 7 u → u.search.ended ≡ false
  still-going x = not-true u.search.ended (λ e. omega (arith, seven-below 7 (x.ended.0 e)))

  has_ended : SearchAt weighed F S 8 u → u.search.ended ≡ true
  has_ended x = x.ended.1 (all-below 8 (omega arith))

  -- of 20 calls 8 have finished a round, no fewer and no more
  no-fewer : SearchAt weighed F S 20 u → 8 ≤ u.search.rounds
  no-fewer x = omega (arith, seven-below u.search.rounds (x.finished (x.ended.1 (all-below 20 (omega arith)))))

  eight : SearchAt weighed F S 20 u → u.search.rounds ≡ 8
  eight x = omega (arith, no-fewer x, x.at_once 8 (all-below 8 (omega arith)))

  -- up to 7 calls each has
  each : (k : ℕ) → k ≤ 7 → SearchAt weighed F S k u → u.search.rounds ≡ k
  each k l x = x.each-call (not-true u.search.ended (λ e. omega (arith, seven-below k (x.ended.0 e))))

  -- (2, 1) shows that its figure has not come after 4, and 5 after 5; 5 is not shown before
  not-yet-5 : SearchAt weighed F S 4 u → look_up weighed (on 2 1) u ≡ NotYet
  not-yet-5 x = x.not_yet (on 2 1) has-5.named 5 has-5.figure (omega (arith, each 4 (omega arith) x))

  shows-5 : SearchAt weighed F S 5 u → look_up weighed (on 2 1) u ≡ Figure 5
  shows-5 x = (x.shows (on 2 1) has-5.named 5 has-5.figure).1 (omega (arith, each 5 (omega arith) x))

  not-before : (k : ℕ) → SearchAt weighed F S k u → look_up weighed (on 2 1) u ≡ Figure 5 → 5 ≤ k
  not-before k x e = omega (arith, (x.shows (on 2 1) has-5.named 5 has-5.figure).0 e, x.rounds)

  -- the start shows 7 after 7, and home 0 from the opening on
  shows-7 : SearchAt weighed F S 7 u → look_up weighed (on 2 3) u ≡ Figure 7
  shows-7 x = (x.shows (on 2 3) has-7.named 7 has-7.figure).1 (omega (arith, each 7 (omega arith) x))

  shows-0 : SearchAt weighed F S 0 u → look_up weighed (on 3 1) u ≡ Figure 0
  shows-0 x = (x.shows (on 3 1) has-0.named 0 has-0.figure).1 (omega arith)

  -- (1, 3) shows that none has come yet after 7, and that it has none after 8; so does (2, 2), with two trains on one section
  none-yet-13 : SearchAt weighed F S 7 u → look_up weighed (on 1 3) u ≡ NotYet
  none-yet-13 x = x.none_yet (on 1 3) has-none.named has-none.figure ∙ ap (λ (b : Bool). cond b NoFigure NotYet) (still-going x)

  none-13 : SearchAt weighed F S 8 u → look_up weighed (on 1 3) u ≡ NoFigure
  none-13 x = x.none_yet (on 1 3) has-none.named has-none.figure ∙ ap (λ (b : Bool). cond b NoFigure NotYet) (has_ended x)

  lost-yet : SearchAt weighed F S 7 u → look_up weighed (on 2 2) u ≡ NotYet
  lost-yet x = x.none_yet (on 2 2) lost-has-none.named lost-has-none.figure ∙ ap (λ (b : Bool). cond b NoFigure NotYet) (still-going x)

  -- a placement that names section 4, which is not there, shows that it has none from the opening on
  no-section : SearchAt weighed F S 0 u → look_up weighed (on 1 4) u ≡ NoFigure
  unfolding names_none any_below with_join with_signal with_legs with_train
  no-section x = x.nowhere (on 1 4) refl

  -- after 5 the tables have 5 and train 1's signal at (2, 1); none and zero at (2, 3), whose figure is to come, and at (1, 3), which has none
  entries : SearchAt weighed F S 5 u
      → (get_or u.figs 1 no_figure ≡ 5) × (get_or u.sets 1 0 ≡ 65536)
      × (get_or u.figs 7 no_figure ≡ no_figure) × (get_or u.sets 7 0 ≡ 0)
      × (get_or u.figs 6 no_figure ≡ no_figure) × (get_or u.sets 6 0 ≡ 0)
  entries x =
      let t = x.tables figs_w sets_w weighed-filled in
      let n : u.search.rounds ≡ 5 = each 5 (omega arith) x in
      let a = t.come 1 5 (omega (arith, nine)) refl (omega arith) in
      let b = t.to-come 7 7 (omega (arith, nine)) refl (omega arith) in
      let c = t.without 6 (omega (arith, nine)) refl in
      (a.0, a.1, b.0, b.1, c.0, c.1)

  -- the tenth entries are those that were lent, and there are ten
  kept : SearchAt weighed F S 5 u → (length u.figs ≡ 10) × (get_or u.figs 9 0 ≡ 5) × (length u.sets ≡ 10) × (get_or u.sets 9 0 ≡ 6)
  kept x = (x.kept-figs.as_long, x.kept-figs.past 9 (omega (arith, nine)), x.kept_sets.as_long, x.kept_sets.past 9 (omega (arith, nine)))

  -- after 8 they have what a solver leaves that was lent others
  solved : SearchAt weighed F S 8 u → (a : SolverAnswer) (f s : List ℕ) → SolverPost weighed a (replicate 9 0) (replicate 12 1) f s
      → (get_or u.figs 7 no_figure ≡ get_or f 7 no_figure) × (get_or u.sets 7 0 ≡ get_or s 7 0)
  solved x a f s post = x.as-solved (has_ended x) a (replicate 9 0) (replicate 12 1) f s (omega (arith, nine)) (omega (arith, nine)) post 7 (omega (arith, nine))

  -- and one call more alters nothing
  no_more : SearchAt weighed F S 8 u → (a : SearchAnswer) (v : State) → SearchPost weighed u a v → v ≡ u
  no_more x = x.no_more (has_ended x)

  -- what (2, 1) shows after 5 it shows after 12
  remains : SearchAt weighed F S 5 u → (v : State) → Searching weighed u 7 v → look_up weighed (on 2 1) v ≡ Figure 5
  remains x v calls = x.remains 7 v calls (on 2 1) 5 (shows-5 x)

-- WHERE IT STANDS. After 2 rounds the tables have home's figure and no other, the next round that brings one is 5, and the marks have round 5 due, at the latest, in home's stretch for train 1.
module _ (s : State) where
  two-rounds : Standing weighed 2 s → (s.search.rounds ≡ 2) × (figure_in s.figs 2 ≡ some 0) × (figure_in s.figs 1 ≡ none)
  two-rounds x = (
    x.rounds,
    x.tables.figures 2 (omega (arith, nine)) (some 0) (weighed-filled.figures 2 (omega (arith, nine))),
    x.tables.figures 1 (omega (arith, nine)) (some 5) (weighed-filled.figures 1 (omega (arith, nine))),
  )

  -- it has ended after 8, and not after 7
  ended-at-8 : Standing weighed 8 s → s.search.ended ≡ true
  ended-at-8 x = x.ended.1 (all-below 8 (omega arith))

  not-ended : (n : ℕ) → n ≤ 7 → Standing weighed n s → s.search.ended ≡ false
  not-ended n l x = not-true s.search.ended (λ e. omega (arith, seven-below n (x.ended.0 e)))

  -- a figure above 2 is 5 at least
  abbrev is_not : ℕ → Option ℕ → Bool
  is_not n none = true
  is_not n (some j) = leb 5 j || leb j n

  no-three : (n j : ℕ) (f : Option ℕ) → is_not n f ≡ true → f ≡ some j → n < j → 5 ≤ j
  no-three n j none a e l = some-none e refl
  no-three n j (some i) a e l = elim (either (leb 5 i) (leb i n) a) [ inl b ↦ omega (arith, leb-true 5 i b, some_one e) | inr b ↦ absurd (omega (arith, leb-true i n b, some_one e, l)) ]

  five-next : (j : ℕ) → HasFigure weighed j → 2 < j → 5 ≤ j
  unfolding all_below
  five-next j h l =
      let k : h.code < 9 = omega (arith, nine, h.there) in
      let e = figure-one (game_of weighed) h.code (figure_in figs_w h.code) (some j) (weighed-filled.figures h.code h.there) h.is in
      no-three 2 j (figure_in figs_w h.code) (all-at (λ q. is_not 2 (figure_in figs_w q)) 9 refl h.code k) e l

  -- so after 2 rounds the search carries 3, which is the very next, or 5
  coming-five : Standing weighed 2 s → (3 ≤ s.search.coming) × (s.search.coming ≤ 5) × ((s.search.coming ≡ 3 → ⊥) → s.search.coming ≡ 5)
  coming-five x =
      let c = (x.carried (not-ended 2 (omega arith) x)).coming in
      let at-most-five : s.search.coming ≤ 5 = c.first 5 (record { code = 1; there = omega (arith, nine); is = weighed-filled.figures 1 (omega (arith, nine)) }) (omega arith) in
      let after : 2 < s.search.coming = c.later in
      (after, at-most-five, λ z. omega (arith, at-most-five, five-next s.search.coming (c.brings (omega (arith, after, z)) (omega arith)) after))

  marked-five : Standing weighed 2 s → due_at s.marks 0 2 ≤ 5
  unfolding any_below weight_of train_of with_join with_signal with_legs with_train
  marked-five x =
      let e : s.search.coming ≤ 5 = (coming-five x).1 in
      let m = (x.carried (not-ended 2 (omega arith) x)).marked (omega arith) in
      m.due 2 0 0 (omega arith) (omega arith) refl (two-rounds x).1 (omega arith)

-- OPENING. With a figure table of 8 entries it is refused with 9; all that is lent is left, and the search handed out has ended with no round finished, and none is to come.
short : (a : SearchAnswer) (s : State) → OpenPost weighed (replicate 8 5) S M a s
    → (number_given a ≡ some 9) × (s.figs ≡ replicate 8 5) × (s.sets ≡ S) × (s.marks ≡ M) × (s.search.ended ≡ true) × (s.search.rounds ≡ 0) × (s.search.coming ≡ no_figure)
unfolding case_refusal tables_short first weight_row weight_of unknown_row join_row loose_row chain_row longer place_row end_at
    joined_by joined has_signal legs_of train_of with_join with_signal with_legs with_train any_below is_closed
short a s post = (
  post.numbered,
  ap (λ (x : State). x.figs) post.leaves,
  ap (λ (x : State). x.sets) post.leaves,
  ap (λ (x : State). x.marks) post.leaves,
  ap (λ (x : State). x.search.ended) post.leaves,
  ap (λ (x : State). x.search.rounds) post.leaves,
  ap (λ (x : State). x.search.coming) post.leaves,
)

-- with tables of ten it goes on, no round is finished, and the tenth entries are left
opens : (a : SearchAnswer) (s : State) → OpenPost weighed F S M a s → (number_given a ≡ none) × Opened weighed F S a s
unfolding case_refusal tables_short first weight_row weight_of unknown_row join_row loose_row chain_row longer place_row end_at
    joined_by joined has_signal legs_of train_of with_join with_signal with_legs with_train any_below is_closed
opens a s post = (post.numbered, post.leaves)

opened : (a : SearchAnswer) (s : State) → Opened weighed F S a s → (a ≡ Going) × (s.search.rounds ≡ 0) × (get_or s.figs 9 0 ≡ 5) × (get_or s.sets 9 0 ≡ 6)
opened a s o = (
  o.told ∙ ap (λ (b : Bool). cond b Ended Going) (not-ended s 0 (omega arith) o.stands),
  o.stands.rounds,
  o.kept-figs.past 9 (omega (arith, nine)),
  o.kept_sets.past 9 (omega (arith, nine)),
)

-- home, (3, 1), has 0 then, and the start none; no setting is set there
cleared : (a : SearchAnswer) (s : State) → Opened weighed F S a s → (get_or s.figs 2 no_figure ≡ 0) × (get_or s.figs 7 no_figure ≡ no_figure) × (get_or s.sets 7 0 ≡ 0)
unfolding at_home stands_on sections_in shared all_below any_below train_of with_join with_signal with_legs with_train
cleared a s o = (o.cleared.first 2 (omega (arith, nine)), o.cleared.first 7 (omega (arith, nine)), o.cleared.unset 7 (omega (arith, nine)))

-- A ROUND
module _ (old : State) (a : SearchAnswer) (new : State) (x : Rounded weighed old a new) where
  -- one that had ended after 8 has 8 rounds finished still, and the same figures and marks
  nothing-done : Standing weighed 8 old → (new.search.rounds ≡ 8) × (new.figs ≡ old.figs) × (new.marks ≡ old.marks)
  nothing-done s = (let e : new ≡ old = x.done (ended-at-8 old s) in (ap (λ (y : State). y.search.rounds) e ∙ s.rounds, ap (λ (y : State). y.figs) e, ap (λ (y : State). y.marks) e))

  -- the fifth brings (2, 1) its figure
  fifth : Standing weighed 4 old → (new.search.rounds ≡ 5) × (figure_in new.figs 1 ≡ some 5)
  fifth s =
      let y : Standing weighed 5 new = x.one_more 4 s (not-ended old 4 (omega arith) s) in
      (y.rounds, y.tables.figures 1 (omega (arith, nine)) (some 5) (weighed-filled.figures 1 (omega (arith, nine))))

  -- the seventh answers that the search goes on, the eighth that it has ended
  seventh : Standing weighed 6 old → a ≡ Going
  seventh s = x.told ∙ ap (λ (b : Bool). cond b Ended Going) (not-ended new 7 (omega arith) (x.one_more 6 s (not-ended old 6 (omega arith) s)))

  eighth : Standing weighed 7 old → a ≡ Ended
  eighth s = x.told ∙ ap (λ (b : Bool). cond b Ended Going) (ended-at-8 new (x.one_more 7 s (not-ended old 7 (omega arith) s)))

  -- whatever search and tables were handed in, the tenth entries are left, and the lengths
  tenth : (get_or new.figs 9 0 ≡ get_or old.figs 9 0) × (length new.figs ≡ length old.figs) × (get_or new.sets 9 0 ≡ get_or old.sets 9 0) × (length new.sets ≡ length old.sets)
  tenth = (x.kept-figs.past 9 (omega (arith, nine)), x.kept-figs.as_long, x.kept_sets.past 9 (omega (arith, nine)), x.kept_sets.as_long)

-- with a figure table of 8 entries the call is refused with 9, and a look-up too; the search and all that is lent are left
abbrev shortened : Search → State
shortened s = record { search = s; figs = replicate 8 5; sets = S; marks = M }

refuses : (s : Search) (a : SearchAnswer) (new : State) → SearchPost weighed (shortened s) a new
    → (number_given a ≡ some 9) × (new ≡ shortened s) × (new.marks ≡ M) × (look_up weighed (on 1 4) (shortened s) ≡ ShownRefused Space)
unfolding looked_up case_refusal tables_short first weight_row weight_of unknown_row join_row loose_row chain_row longer place_row
    end_at joined_by joined has_signal legs_of train_of with_join with_signal with_legs with_train any_below is_closed
refuses s a new post = (post.numbered, post.leaves, ap (λ (x : State). x.marks) post.leaves, refl)

-- a look-up with such tables answers 9, and shows no figure
look-refused : (search : Search) (a : Shown) → LookPost weighed (on 2 1) search (replicate 8 5) S a → (number_shown a ≡ some 9) × (figure_shown a ≡ none)
unfolding looked_up case_refusal tables_short first weight_row weight_of unknown_row join_row loose_row chain_row longer place_row
    end_at joined_by joined has_signal legs_of train_of with_join with_signal with_legs with_train any_below is_closed
look-refused search a post = (post.numbered, ap figure_shown post.answers)

-- whatever search it is: one that says 1,353,646,081 rounds is handed back as it was, and one that says 11 and goes on has 12 afterwards
foreign : (old : State) (a : SearchAnswer) (new : State) → Rounded weighed old a new
    → (old.search.rounds ≡ 1353646081 → new ≡ old)
    × (old.search.ended ≡ false → old.search.rounds ≡ 11 → new.search.rounds ≡ 12)
foreign old a new x = (
  (λ e. x.too_many (omega (arith, e))),
  (λ going e. x.counted going (omega (arith, e)) ∙ ap suc e),
)

-- WHOLE LISTS OF CALLS, behind an opening with these tables and marks
module _ (says : SearchHolds) (a : SearchAnswer) (s : State) (post : OpenPost weighed F S M a s) where
  after : (k : ℕ) (u : State) → Searching weighed s k u → SearchAt weighed F S k u
  after = says weighed weighed-accepted F S (omega (arith, nine)) (omega (arith, nine)) M a s post

  -- (2, 1) shows nothing yet at the opening and after 4 calls, and 5 after 5
  at-opening : SearchAt weighed F S 0 s
  at-opening = after 0 s begun

  after-four : (u : State) → Searching weighed s 4 u → look_up weighed (on 2 1) u ≡ NotYet
  after-four u calls = not-yet-5 u (after 4 u calls)

  after-five : (u : State) → Searching weighed s 5 u → look_up weighed (on 2 1) u ≡ Figure 5
  after-five u calls = shows-5 u (after 5 u calls)

  -- a call that is refused, whatever its record, is no round: with one between the fourth and the fifth it shows 5 after these
  between : (u v w : State) (o : Railway) (f : Refusal) (b c : SearchAnswer) → Searching weighed s 4 u → case_refusal o u.figs u.sets ≡ some f → SearchPost o u b v → SearchPost weighed v c w
      → (look_up weighed (on 2 1) v ≡ NotYet) × (look_up weighed (on 2 1) w ≡ Figure 5)
  between u v w o f b c calls e p q = (after-four v (refused o f b calls e p), after-five w (call c (refused o f b calls e p) q))

  -- after 8 the search has ended, and after 20 the rounds are 8
  after-twenty : (u v : State) → Searching weighed s 8 u → Searching weighed s 20 v → (u.search.ended ≡ true) × (v.search.rounds ≡ 8)
  after-twenty u v c d = (has_ended u (after 8 u c), eight v (after 20 v d))

-- and so it is
ends-at-eight : (a : SearchAnswer) (s u v : State) → OpenPost weighed F S M a s → Searching weighed s 8 u → Searching weighed s 20 v → (u.search.ended ≡ true) × (v.search.rounds ≡ 8)
ends-at-eight a s u v post = after-twenty search-holds a s post u v

-- and there is such a search: one that shows nothing yet at (2, 1) after 4 calls, and one that shows 5 after 5
there-is : (u v : State) × (look_up weighed (on 2 1) u ≡ NotYet) × (look_up weighed (on 2 1) v ≡ Figure 5)
there-is =
    let x : Searched weighed F S M = search-exists weighed weighed-accepted F S (omega (arith, nine)) (omega (arith, nine)) M in (
      x.standing 4,
      x.standing 5,
      after-four search-holds x.answer x.opening x.opened (x.standing 4) (x.runs 4),
      after-five search-holds x.answer x.opening x.opened (x.standing 5) (x.runs 5),
    )
