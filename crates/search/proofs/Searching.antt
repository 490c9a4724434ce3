-- Q-7: what opening and each call promise makes the statement over whole lists of calls. Along the way a search stands after as many rounds as its number says, at most one for each
-- call, and no round is finished once every figure is below the last one; tables and what is shown follow from where it stands. Assumes nothing.
use mathlib.Core.Path.{◌≡◌, refl, sym, ◌∙◌, ap, subst}
use mathlib.Core.Logic.{inl, inr}
use mathlib.Core.Bool.{Bool, true, false, cond}
use mathlib.Core.List.{List}
use mathlib.Core.Option.{Option, none, some}
use Prim.Native.Nat.{ℕ, suc, ◌≤◌, ◌<◌}
use native.Mathlib.Omega.{arith}
use lib.ListN.{length, get_or}
use lib.Dec.{eqb}
use borrow.Author.Tests.{eqb-true}
use Rattle.laws.proofs.Bools.{bool?, lt?, clash, not-true, not-false, some-none, some_one}
use Rattle.railway.specs.declared.Railway.{Railway}
use Rattle.railway.specs.declared.Refusal.{Refusal}
use Rattle.railway.specs.Rows.{record_refusal}
use Rattle.game.specs.Game.{IsFigure}
use Rattle.game.specs.Placement.{code_on, names_none, placements}
use Rattle.game.specs.Moves.{game_of}
use Rattle.game.proofs.Naming.{code-named}
use Rattle.game.proofs.Accepted.{facts}
use Rattle.game_tables.specs.Tables.{no_figure, figure_entry, figure_in, case_refusal, IsPlanEntry, Filled}
use Rattle.game_tables.specs.Solver.{Kept, SolverPost, SolverLeaves}
use Rattle.game_tables.specs.Rounds.{up_to, AllBelow}
use Rattle.game_tables.specs.SolverAnswer.{SolverAnswer}
use Rattle.game_tables.proofs.Refusals.{case-none}
use Rattle.game_tables.proofs.Exists.{Solution, solution}
use Rattle.game_tables.proofs.Carry.{Carries, entry-carry}
use Rattle.game_tables.proofs.Plays.{figure-apart}
use Rattle.game_tables.proofs.Unique.{entry-one, figs-one, sets-one}
use Rattle.game_tables.proofs.RoundTables.{up-to, of-up-to, round_filled}
use Rattle.game_tables.proofs.Rounds.{above}
use Rattle.search.specs.SearchAnswer.{SearchAnswer}
use Rattle.search.specs.Shown.{Figure, NotYet, NoFigure}
use Rattle.search.specs.Searching.{State, Standing, Opened, OpenPost, Rounded, SearchPost, shown_by, shown, looked_up}
use Rattle.search.specs.Searching.{look_up, figure_shown, Searching, begun, call, refused, UpToRound, SearchAt}
use Rattle.search.specs.Searching.{SearchHolds}

-- an entry of the figure table is its figure, or the number for none
entry-some : (x j : ℕ) → figure_entry x ≡ some j → x ≡ j
entry-some x j e = elim (bool? (eqb x no_figure)) [
  | inl c ↦ let h : figure_entry x ≡ none = rw c in some-none e h
  | inr c ↦ let h : figure_entry x ≡ some x = rw c in some_one (sym h ∙ e)
]

entry-none : (x : ℕ) → figure_entry x ≡ none → x ≡ no_figure
entry-none x e = elim (bool? (eqb x no_figure)) [
  | inl c ↦ eqb-true x no_figure c
  | inr c ↦ let h : figure_entry x ≡ some x = rw c in some-none h e
]

-- what is shown, read back: a figure is shown by an entry alone
shown-some : (f : Option ℕ) (b : Bool) → figure_shown (shown_by f b) ≡ f
shown-some none true = refl
shown-some none false = refl
shown-some (some n) b = refl

-- every figure that is below one number is below a larger one
below_more : (r : Railway) (m n : ℕ) → m ≤ n → AllBelow r m → AllBelow r n
below_more r m n l h p j lp i = omega (arith, h p j lp i)

module _ (r : Railway) (accepted : record_refusal r ≡ none) (figs sets : List ℕ) (lf : placements r ≤ length figs) (ls : placements r ≤ length sets) where
  -- ended, every figure is below the rounds finished
  ended-below : (n : ℕ) (s : State) → Standing r n s → s.search.ended ≡ true → AllBelow r n
  ended-below n s x = x.ended.0

  -- WHERE IT STANDS after k calls
  record After (k : ℕ) (s : State) : Type 0 where
    stands : Standing r s.search.rounds s
    at-most : s.search.rounds ≤ k
    each-call : s.search.ended ≡ false → s.search.rounds ≡ k
    at_once : (m : ℕ) → AllBelow r m → s.search.rounds ≤ m
    kept-figs : Kept r figs s.figs
    kept_sets : Kept r sets s.sets

  kept_on : {a b c : List ℕ} → Kept r a b → Kept r b c → Kept r a c
  kept_on x y = record { as_long = y.as_long ∙ x.as_long; past = λ p l. y.past p l ∙ x.past p l }

  long-enough : (f s : List ℕ) → placements r ≤ length f → placements r ≤ length s → case_refusal r f s ≡ none
  long-enough f s a b = (case-none r f s).1 (accepted, record { figures = a; settings = b })

  fits : (k : ℕ) (s : State) → After k s → case_refusal r s.figs s.sets ≡ none
  fits k s g = long-enough s.figs s.sets (rw g.kept-figs.as_long lf) (rw g.kept_sets.as_long ls)

  itself : (n : ℕ) (s : State) → Standing r n s → Standing r s.search.rounds s
  itself n s x = subst (λ (c : ℕ). Standing r c s) (sym x.rounds) x

  opened : (marks : List ℕ) (a : SearchAnswer) (s : State) → OpenPost r figs sets marks a s → Opened r figs sets a s
  opened marks a s post = (let e : case_refusal r figs sets ≡ none = long-enough figs sets lf ls in rw e at post.leaves)

  start : (marks : List ℕ) (a : SearchAnswer) (s : State) → OpenPost r figs sets marks a s → After 0 s
  start marks a s post =
      let o : Opened r figs sets a s = opened marks a s post in
      let z : s.search.rounds ≡ 0 = o.stands.rounds in
      record { stands = itself 0 s o.stands; at-most = omega arith; each-call = λ e. z; at_once = λ m h. omega arith; kept-figs = o.kept-figs; kept_sets = o.kept_sets }

  -- A CALL MORE. No round is finished where every figure is below the rounds that are.
  not-ended : (k : ℕ) (s : State) → After k s → s.search.ended ≡ false → (m : ℕ) → AllBelow r m → s.search.rounds < m
  not-ended k s g e m h = elim (lt? s.search.rounds m) [ inl b ↦ b | inr b ↦ clash (g.stands.ended.1 (below_more r m s.search.rounds b h)) e ]

  rounded : (k : ℕ) (u v : State) (a : SearchAnswer) → After k u → SearchPost r u a v → Rounded r u a v
  rounded k u v a g post = (let e : case_refusal r u.figs u.sets ≡ none = fits k u g in rw e at post.leaves)

  next : (k : ℕ) (u v : State) (a : SearchAnswer) → After k u → SearchPost r u a v → After (suc k) v × (u.search.rounds ≤ v.search.rounds)
  next k u v a g post =
      let m : Rounded r u a v = rounded k u v a g post in
      elim (bool? u.search.ended) [
        | inl e ↦ (
            let z : v ≡ u = m.done e in
            rw z (
              record { stands = g.stands; at-most = omega (arith, g.at-most); each-call = λ f. clash e f; at_once = g.at_once; kept-figs = g.kept-figs; kept_sets = g.kept_sets },
              omega arith,
            )
            )
        | inr e ↦
            let w : Standing r (suc u.search.rounds) v = m.one_more u.search.rounds g.stands e in
            let i : v.search.rounds ≡ suc u.search.rounds = w.rounds in (
              record {
                stands = itself (suc u.search.rounds) v w;
                at-most = omega (arith, g.at-most);
                each-call = λ f. i ∙ ap suc (g.each-call e);
                at_once = λ n h. omega (arith, not-ended k u g e n h);
                kept-figs = kept_on g.kept-figs m.kept-figs;
                kept_sets = kept_on g.kept_sets m.kept_sets;
              },
              omega arith,
            )
      ]

  same_left : (o : Railway) (f : Refusal) (u v : State) (a : SearchAnswer) → case_refusal o u.figs u.sets ≡ some f → SearchPost o u a v → v ≡ u
  same_left o f u v a e post = rw e at post.leaves

  -- the calls from where one of them left off, and after the opening
  record Later (s u : State) : Type 0 where
    calls : ℕ
    after : After calls u
    no-fewer : s.search.rounds ≤ u.search.rounds

  onward : (k : ℕ) (s : State) → After k s → {m : ℕ} {u : State} → Searching r s m u → Later s u
  onward k s g begun = record { calls = k; after = g; no-fewer = omega arith }
  onward k s g (call {u = u} {v = v} a rest post) =
      let x : Later s u = onward k s g rest in
      let y = next x.calls u v a x.after post in
      record { calls = suc x.calls; after = y.0; no-fewer = omega (arith, x.no-fewer, y.1) }
  onward k s g (refused {u = u} {v = v} o f a rest e post) = (let z : v ≡ u = same_left o f u v a e post in rw z (onward k s g rest))

  after-calls : (marks : List ℕ) (a : SearchAnswer) (s : State) → OpenPost r figs sets marks a s → {k : ℕ} {u : State} → Searching r s k u → After k u
  after-calls marks a s post begun = start marks a s post
  after-calls marks a s post (call {u = u} {v = v} {k = k} b rest p) = (next k u v b (after-calls marks a s post rest) p).0
  after-calls marks a s post (refused {u = u} {v = v} o f b rest e p) = (let z : v ≡ u = same_left o f u v b e p in rw z (after-calls marks a s post rest))

  -- WHAT IS SHOWN, and what stands in the tables
  module _ (k : ℕ) (s : State) (g : After k s) where
    looked : (section : ℕ → ℕ) (b : Bool) → names_none r section ≡ b → look_up r section s ≡ cond b NoFigure (shown_by (figure_in s.figs (code_on r section)) s.search.ended)
    unfolding looked_up
    looked section b e = ap (shown r section s.search s.figs) (fits k s g) ∙ ap (λ (c : Bool). cond c NoFigure (shown_by (figure_in s.figs (code_on r section)) s.search.ended)) e

    by : (section : ℕ → ℕ) → names_none r section ≡ false → (f : Option ℕ) → figure_in s.figs (code_on r section) ≡ f → look_up r section s ≡ shown_by f s.search.ended
    by section e f p = looked section false e ∙ ap (λ (o : Option ℕ). shown_by o s.search.ended) p

    entry : (p : ℕ) → p < placements r → (f : Option ℕ) → IsFigure (game_of r) p f → figure_in s.figs p ≡ up_to s.search.rounds f
    entry p l f i = g.stands.tables.figures p l f i

    -- a figure that is shown is the figure, and its round is finished
    record Seen (section : ℕ → ℕ) (j : ℕ) : Type 0 where
      named : names_none r section ≡ false
      finished : j ≤ s.search.rounds
      is : IsFigure (game_of r) (code_on r section) (some j)

    seen : (section : ℕ → ℕ) (j : ℕ) → look_up r section s ≡ Figure j → Seen section j
    seen section j e = elim (bool? (names_none r section)) [
      | inl y ↦ some-none (ap figure_shown e) (ap figure_shown (looked section true y))
      | inr y ↦
          let p : ℕ = code_on r section in
          let l : p < placements r = code-named r section y in
          let x : Solution r = solution r accepted in
          let f : figure_in s.figs p ≡ some j = sym (shown-some (figure_in s.figs p) s.search.ended) ∙ ap figure_shown (sym (looked section false y) ∙ e) in
          let d = of-up-to s.search.rounds (x.figure p) j (sym (entry p l (x.figure p) (x.figures p l)) ∙ f) in
          let z : x.figure p ≡ some j = d.0 in
          record { named = y; finished = d.1; is = rw z at (x.figures p l) }
    ]

    shows : (section : ℕ → ℕ) → names_none r section ≡ false → (j : ℕ) → IsFigure (game_of r) (code_on r section) (some j) → j ≤ s.search.rounds → look_up r section s ≡ Figure j
    shows section e j i l = by section e (some j) (entry (code_on r section) (code-named r section e) (some j) i ∙ up-to s.search.rounds (some j) j refl l)

    running : (p j : ℕ) → p < placements r → IsFigure (game_of r) p (some j) → s.search.rounds < j → s.search.ended ≡ false
    running p j l i b = not-true s.search.ended (λ y. omega (arith, ended-below s.search.rounds s g.stands y p j l i))

    not_yet : (section : ℕ → ℕ) → names_none r section ≡ false → (j : ℕ) → IsFigure (game_of r) (code_on r section) (some j) → s.search.rounds < j → look_up r section s ≡ NotYet
    not_yet section e j i b =
        by section e none
        (entry (code_on r section) (code-named r section e) (some j) i ∙ above s.search.rounds (some j) j refl b)
        ∙ ap (shown_by none) (running (code_on r section) j (code-named r section e) i b)

    none_yet : (section : ℕ → ℕ) → names_none r section ≡ false → IsFigure (game_of r) (code_on r section) none → look_up r section s ≡ cond s.search.ended NoFigure NotYet
    none_yet section e i = by section e none (entry (code_on r section) (code-named r section e) none i) ∙ by_end s.search.ended
      where
        by_end : (b : Bool) → shown_by none b ≡ cond b NoFigure NotYet
        by_end true = refl
        by_end false = refl

    -- THE TABLES beside filled ones
    module _ (figs₁ sets₁ : List ℕ) (filled : Filled r figs₁ sets₁) where
      figure-of : (p : ℕ) → p < placements r → (f : Option ℕ) → figure_in figs₁ p ≡ f → figure_in s.figs p ≡ up_to s.search.rounds f
      figure-of p l f e = entry p l f (rw e at (filled.figures p l))

      -- the figures of the one are among those of the other, and up to the last round the other way too
      ours : (m : ℕ) → Carries r (figure_in s.figs) (figure_in figs₁) m
      ours m q i l b e = (of-up-to s.search.rounds (figure_in figs₁ q) i (sym (figure-of q l (figure_in figs₁ q) refl) ∙ e)).0

      theirs : (m : ℕ) → m ≤ s.search.rounds → Carries r (figure_in figs₁) (figure_in s.figs) m
      theirs m lm q i l b e = figure-of q l (some i) e ∙ up-to s.search.rounds (some i) i refl (omega arith)

      setting-of : (p j : ℕ) → p < placements r → figure_in figs₁ p ≡ some j → j ≤ s.search.rounds → get_or s.sets p 0 ≡ get_or sets₁ p 0
      setting-of p j l e b =
          let here : figure_in s.figs p ≡ some j = figure-of p l (some j) e ∙ up-to s.search.rounds (some j) j refl b in
          let x : IsPlanEntry r (figure_in s.figs) p (some j) (get_or s.sets p 0) = rw here at (g.stands.tables.settings p l) in
          let y : IsPlanEntry r (figure_in figs₁) p (some j) (get_or sets₁ p 0) = rw e at (filled.settings p l) in
          let x₁ : IsPlanEntry r (figure_in figs₁) p (some j) (get_or s.sets p 0) =
          entry-carry r (facts r accepted) (figure_in s.figs) (figure_in figs₁) p l (some j) (get_or s.sets p 0) (λ m em. ours m) (λ m em. theirs m (omega (arith, b, some_one em))) x in
          entry-one r (facts r accepted) p (figure-apart r p j (rw e at (filled.figures p l))) (figure_in figs₁) (some j) (get_or s.sets p 0) (get_or sets₁ p 0) x₁ y

      unset : (p : ℕ) → p < placements r → figure_in s.figs p ≡ none → (get_or s.figs p no_figure ≡ no_figure) × (get_or s.sets p 0 ≡ 0)
      unset p l e = (entry-none (get_or s.figs p no_figure) e, rw e at (g.stands.tables.settings p l))

      up-to-round : UpToRound r s.search.rounds s.figs s.sets figs₁ sets₁
      up-to-round =
          record {
            come = λ p j l e b. (entry-some (get_or s.figs p no_figure) j (figure-of p l (some j) e ∙ up-to s.search.rounds (some j) j refl b), setting-of p j l e b);
            to-come = λ p j l e b. unset p l (figure-of p l (some j) e ∙ above s.search.rounds (some j) j refl b);
            without = λ p l e. unset p l (figure-of p l none e);
          }

    -- ended, they are filled
    ended-filled : s.search.ended ≡ true → Filled r s.figs s.sets
    ended-filled e = round_filled r accepted s.search.rounds (λ p j l i. omega (arith, ended-below s.search.rounds s g.stands e p j l i)) s.figs s.sets g.stands.tables

  solved : (a : SolverAnswer) (f₀ s₀ f₁ s₁ : List ℕ) → placements r ≤ length f₀ → placements r ≤ length s₀ → SolverPost r a f₀ s₀ f₁ s₁ → Filled r f₁ s₁
  solved a f₀ s₀ f₁ s₁ a₀ b₀ post = (let e : case_refusal r f₀ s₀ ≡ none = long-enough f₀ s₀ a₀ b₀ in let x : SolverLeaves r a f₀ s₀ f₁ s₁ none = rw e at post.leaves in x.0.filled)

  -- A FIGURE SHOWN remains, for the rounds finished do not become fewer
  remains : (k : ℕ) (s : State) → After k s → (m : ℕ) (u : State) → Searching r s m u → (section : ℕ → ℕ) (j : ℕ) → look_up r section s ≡ Figure j → look_up r section u ≡ Figure j
  remains k s g m u calls section j e =
      let x : Later s u = onward k s g calls in
      let y : Seen k s g section j = seen k s g section j e in
      shows x.calls u x.after section y.named j y.is (omega (arith, x.no-fewer, y.finished))

  holds : (k : ℕ) (s : State) → After k s → SearchAt r figs sets k s
  holds k s g =
      record {
        rounds = g.at-most;
        each-call = g.each-call;
        ended = (
          (λ e. below_more r s.search.rounds k g.at-most (ended-below s.search.rounds s g.stands e)),
          (λ h. not-false s.search.ended (λ e. omega (arith, not-ended k s g e k h, g.each-call e))),
        );
        finished = ended-below s.search.rounds s g.stands;
        at_once = g.at_once;
        shows = λ section e j i. ((λ q. omega (arith, (seen k s g section j q).finished)), shows k s g section e j i);
        not_yet = not_yet k s g;
        none_yet = none_yet k s g;
        nowhere = λ section e. looked k s g section true e;
        tables = up-to-round k s g;
        kept-figs = g.kept-figs;
        kept_sets = g.kept_sets;
        as-solved = λ e a f₀ s₀ f₁ s₁ lf₀ ls₀ post p l. (
            let ours : Filled r s.figs s.sets = ended-filled k s g e in
            let other : Filled r f₁ s₁ = solved a f₀ s₀ f₁ s₁ lf₀ ls₀ post in
            (figs-one r accepted s.figs s.sets f₁ s₁ ours other p l, sets-one r accepted s.figs s.sets f₁ s₁ ours other p l)
            );
        no_more = λ e a u post. (rounded k s u a g post).done e;
        remains = remains k s g;
      }

-- Q-7
pub search-holds : SearchHolds
search-holds r accepted figs sets lf ls marks a s post k u calls = holds r accepted figs sets lf ls k u (after-calls r accepted figs sets lf ls marks a s post calls)
