-- A solver's rounds: cleared tables are those of round 0, round n + 1 makes those of n + 1 from those of n, and where none is due any more the tables are
-- filled. The figures that a round sees are the case's up to n. Where a setting keeps n + 1 by these the figure is n + 1 at most, so what is found is new
-- and right; and a placement of figure n + 1 has such a setting. Under it some move makes up the figure by its weight and a smaller figure: so no figure
-- comes in a round that is not due. Assumes nothing.
use mathlib.Core.Path.{◌≡◌, refl, sym, ◌∙◌, ap}
use mathlib.Core.Logic.{inl, inr}
use mathlib.Core.Bool.{Bool, true, false, cond}
use mathlib.Core.List.{List}
use mathlib.Core.Option.{Option, none, some}
use Prim.Native.Nat.{ℕ, zero, suc, ◌-◌, ◌*◌, ◌≤◌, ◌<◌}
use native.Mathlib.Omega.{arith}
use lib.ListN.{get_or}
use lib.Dec.{eqb}
use borrow.Author.Tests.{ne_eqb, lt-leb}
use Rattle.laws.proofs.Bools.{option?, lt?, some-none, not-true, or-false}
use Rattle.railway.specs.declared.Railway.{Railway}
use Rattle.railway.specs.Bounds.{most_weight}
use Rattle.railway.specs.Record.{weight_of}
use Rattle.railway.specs.Rows.{record_refusal}
use Rattle.game.specs.Game.{Outcome, lost, at, home, over, IsFigure}
use Rattle.game.specs.Claim.{figure_of, Keeps, Decides}
use Rattle.game.specs.Local.{Solved}
use Rattle.game.specs.Placement.{placements, at_home, shared}
use Rattle.game.specs.Setting.{Setting}
use Rattle.game.specs.Moves.{move_of, game_of}
use Rattle.game.proofs.Local.{may-train, no-keeps-zero, not-over}
use Rattle.game.proofs.Accepted.{Facts, facts}
use Rattle.game.proofs.Moves.{inside, costs}
use Rattle.game.proofs.Figures.{figure-one, figures-solved}
use Rattle.game.proofs.Claim.{whole}
use Rattle.game_tables.specs.Entries.{setting_at}
use Rattle.game_tables.specs.Tables.{no_figure, figure_entry, figure_in, IsPlanEntry, Filled}
use Rattle.game_tables.specs.Find.{find}
use Rattle.game_tables.specs.Rounds.{first_figure, Cleared, Step, stays, gains, Stepped, up_to, RoundTables, Quiet, NoneDue, AllBelow, AcceptedGo}
use Rattle.game_tables.proofs.Find.{find-sound, find_none}
use Rattle.game_tables.proofs.Best.{Best, find-best}
use Rattle.game_tables.proofs.Carry.{Carries, keeps-carry, entry-carry}
use Rattle.game_tables.proofs.Exists.{few-placements, solution}
use Rattle.game_tables.proofs.RoundTables.{up-to, of-up-to, round_filled}

pub above : (n : ℕ) (f : Option ℕ) (j : ℕ) → f ≡ some j → n < j → up_to n f ≡ none
above n f j e l = rw (e, lt-leb j n l)

module _ (r : Railway) (accepted : record_refusal r ≡ none) where
  abbrev ok : Facts r
  ok = facts r accepted

  -- the case's figures, and that they agree with every single turn
  G : ℕ → Option ℕ
  G = (solution r accepted).figure

  has : (p : ℕ) → p < placements r → IsFigure (game_of r) p (G p)
  unfolding G
  has = (solution r accepted).figures

  agrees : Solved (game_of r) G (λ p. setting_at r p ((solution r accepted).entry p))
  unfolding G
  agrees =
      figures-solved (game_of r) G (λ p. setting_at r p ((solution r accepted).entry p)) (costs r ok) (inside r ok) has
      (λ p n l e. (let x : IsPlanEntry r G p (some (suc n)) ((solution r accepted).entry p) = rw e at ((solution r accepted).entries p l) in x).0.keeps)

  -- a placement of some figure but 0 is neither home nor lost, and a setting keeps the figure
  record Going (p n : ℕ) : Type 0 where
    going : over (game_of r) p ≡ false
    keeps : Keeps (game_of r) G p (setting_at r p ((solution r accepted).entry p)) (suc n)

  is-going : (p n : ℕ) → p < placements r → G p ≡ some (suc n) → Going p n
  is-going p n l e =
      let away : home (game_of r) p ≡ false =
      not-true (home (game_of r) p) (λ y. let z : ◌≡◌ {A = Option ℕ} (some (suc n)) (some 0) = sym e
      ∙ agrees.home-zero p l y in let w : suc n ≡ 0 = cc in omega arith) in
      let apart : shared r p ≡ false = not-true (shared r p) (λ y. some-none e (agrees.lost-none p l y)) in
      record { going = not-over (shared r p) (at_home r p) apart away; keeps = agrees.kept p (suc n) l e away }

  -- THE FIGURES THAT A ROUND SEES
  module _ (n : ℕ) (F : ℕ → Option ℕ) (upto : (q : ℕ) → q < placements r → F q ≡ up_to n (G q)) where
    down : (q j : ℕ) → q < placements r → F q ≡ some j → (G q ≡ some j) × (j ≤ n)
    down q j l e = of-up-to n (G q) j (sym (upto q l) ∙ e)

    back : (q j : ℕ) → q < placements r → j ≤ n → G q ≡ some j → F q ≡ some j
    back q j l b e = upto q l ∙ up-to n (G q) j e b

    none_yet : (q j : ℕ) → q < placements r → n < j → G q ≡ some j → F q ≡ none
    none_yet q j l b e = upto q l ∙ above n (G q) j e b

    sees : (m : ℕ) → Carries r F G m
    sees m q j l b e = (down q j l e).0

    seen : (m : ℕ) → m ≤ suc n → Carries r G F m
    seen m lm q j l b e = back q j l (omega arith) e

  -- ONE PLACEMENT in round n + 1
  module _ (n : ℕ) (F : ℕ → Option ℕ) (upto : (q : ℕ) → q < placements r → F q ≡ up_to n (G q)) (p : ℕ) (l : p < placements r) where
    -- where nothing is found there is no figure n + 1
    missed : (over (game_of r) p ≡ false → find r F p (suc n) ≡ none) → G p ≡ some (suc n) → ⊥
    missed h e =
        let g : Going p n = is-going p n l e in
        let k = keeps-carry r ok G F p l (suc n) (seen n F upto (suc n) (omega arith)) (setting_at r p ((solution r accepted).entry p)) g.keeps in
        find_none r F p (suc n) ok (h g.going) (setting_at r p ((solution r accepted).entry p)) k

    same : (F p ≡ none → over (game_of r) p ≡ false → find r F p (suc n) ≡ none) → F p ≡ up_to (suc n) (G p)
    same h = elim (option? (G p)) [
      | inl e ↦ upto p l ∙ rw e
      | inr e ↦ elim (lt? n e.0) [
        | inr b ↦ back n F upto p e.0 l b e.1 ∙ sym (up-to (suc n) (G p) e.0 e.1 (omega arith))
        | inl b ↦ elim (lt? (suc n) e.0) [
          | inl c ↦ none_yet n F upto p e.0 l b e.1 ∙ sym (above (suc n) (G p) e.0 e.1 c)
          | inr c ↦ let z : e.0 ≡ suc n = omega arith in absurd (missed (h (none_yet n F upto p e.0 l b e.1)) (rw z at e.1))
        ]
      ]
    ]

    -- where something is found the figure is n + 1
    found : (v : ℕ) → F p ≡ none → over (game_of r) p ≡ false → find r F p (suc n) ≡ some v → G p ≡ some (suc n)
    found v e o f =
        let k = keeps-carry r ok F G p l (suc n) (sees n F upto (suc n)) (setting_at r p v) (find-sound r F p (suc n) v f) in
        let x : (j : ℕ) × (G p ≡ some j) × (j ≤ suc n) = agrees.least p (setting_at r p v) (suc n) l o k in
        elim (lt? n x.0) [
          | inl b ↦ let z : x.0 ≡ suc n = omega (arith, x.2) in rw z at x.1
          | inr b ↦ some-none (back n F upto p x.0 l b x.1) e
        ]

  -- what an outcome's figure stands for
  ends_at : (F : ℕ → Option ℕ) (o : Outcome) (j : ℕ) → figure_of F o ≡ some j → (q : ℕ) × (o ≡ at q) × (F q ≡ some j)
  ends_at F (lost x) j e = some-none e refl
  ends_at F (at q) j e = (q, refl, e)

  -- a setting that keeps the figure of a placement has a move that makes it up
  decided : (p n : ℕ) (s : Setting) → p < placements r → over (game_of r) p ≡ false → G p ≡ some n → Keeps (game_of r) G p s n → Decides (game_of r) G p s n
  decided = (whole (game_of r) G (λ p. setting_at r p ((solution r accepted).entry p)) (costs r ok) (inside r ok) agrees).decided

  -- WHO GAINS in round n + 1 has a move whose weight and figure make n + 1; that figure is there
  gain : (n : ℕ) (figs sets : List ℕ) → RoundTables r n figs sets → (p v : ℕ) → p < placements r → figure_in figs p ≡ none → over (game_of r) p ≡ false
      → find r (figure_in figs) p (suc n) ≡ some v → Decides (game_of r) (figure_in figs) p (setting_at r p v) (suc n)
  gain n figs sets t p v l e o f =
      let upto : (q : ℕ) → q < placements r → figure_in figs q ≡ up_to n (G q) = λ q m. t.figures q m (G q) (has q m) in
      let k = keeps-carry r ok (figure_in figs) G p l (suc n) (sees n (figure_in figs) upto (suc n)) (setting_at r p v) (find-sound r (figure_in figs) p (suc n) v f) in
      let d : Decides (game_of r) G p (setting_at r p v) (suc n) = decided p (suc n) (setting_at r p v) l o (found n (figure_in figs) upto p l v e o f) k in
      let x = ends_at G (move_of r p (setting_at r p v) d.train) d.figure d.ends in
      let w : 1 ≤ weight_of r d.train = costs r ok d.train (may-train (game_of r) p (setting_at r p v) d.train d.moves) in
      let b : figure_in figs x.0 ≡ some d.figure =
      back n (figure_in figs) upto x.0 d.figure (inside r ok p (setting_at r p v) d.train x.0 l d.moves x.1) (omega (arith, d.makes)) x.2 in
      record { train = d.train; moves = d.moves; figure = d.figure; ends = ap (figure_of (figure_in figs)) x.1 ∙ b; makes = d.makes }

  -- WHAT ROUND n + 1 BRINGS: its figure where a setting is found, and nowhere else
  module _ (n : ℕ) (figs sets : List ℕ) (t : RoundTables r n figs sets) (p : ℕ) (l : p < placements r) where
    seen-so-far : (q : ℕ) → q < placements r → figure_in figs q ≡ up_to n (G q)
    seen-so-far q m = t.figures q m (G q) (has q m)

    pub round-brings : (v : ℕ) → figure_in figs p ≡ none → over (game_of r) p ≡ false → find r (figure_in figs) p (suc n) ≡ some v → IsFigure (game_of r) p (some (suc n))
    round-brings v e o f = rw (found n (figure_in figs) seen-so-far p l v e o f) at (has p l)

    pub round-misses : (figure_in figs p ≡ none → over (game_of r) p ≡ false → find r (figure_in figs) p (suc n) ≡ none) → IsFigure (game_of r) p (some (suc n)) → ⊥
    round-misses h i =
        let g : G p ≡ some (suc n) = figure-one (game_of r) p (G p) (some (suc n)) (has p l) i in
        missed n (figure_in figs) seen-so-far p l (h (none_yet n (figure_in figs) seen-so-far p (suc n) l (omega arith) g)) g

  -- ROUND 0
  pub cleared-round : (figs sets : List ℕ) → Cleared r figs sets → RoundTables r 0 figs sets
  cleared-round figs sets c =
      record {
        figures = λ p l f i. value p l ∙ ap (up_to 0) (figure-one (game_of r) p (G p) f (has p l) i);
        settings = λ p l. settled p l (home (game_of r) p) (shown p l);
      }
    where
      shown : (p : ℕ) → p < placements r → figure_in figs p ≡ figure_entry (first_figure r p)
      shown p l = ap figure_entry (c.first p l)

      settled : (p : ℕ) → p < placements r → (b : Bool) → figure_in figs p ≡ figure_entry (cond b 0 no_figure) → IsPlanEntry r (figure_in figs) p (figure_in figs p) (get_or sets p 0)
      settled p l true e = rw e (c.unset p l)
      settled p l false e = rw e (c.unset p l)

      at_first : (p : ℕ) → p < placements r → (b : Bool) → home (game_of r) p ≡ b → figure_entry (cond b 0 no_figure) ≡ up_to 0 (G p)
      at_first p l true h = sym (up-to 0 (G p) 0 (agrees.home-zero p l h) (omega arith))
      at_first p l false h = elim (option? (G p)) [
        | inl e ↦ rw e
        | inr e ↦ elim (lt? 0 e.0) [
          | inl b ↦ sym (above 0 (G p) e.0 e.1 b)
          | inr b ↦ let z : e.0 ≡ 0 = omega arith in absurd (no-keeps-zero (game_of r) G (costs r ok) p (setting_at r p ((solution r accepted).entry p)) (agrees.kept p 0 l (rw z at e.1) h))
        ]
      ]

      value : (p : ℕ) → p < placements r → figure_in figs p ≡ up_to 0 (G p)
      value p l = shown p l ∙ at_first p l (home (game_of r) p) refl

  -- ROUND n + 1
  module _ (n : ℕ) (figs sets : List ℕ) (t : RoundTables r n figs sets) (figs' sets' : List ℕ) (stepped : Stepped r (suc n) figs sets figs' sets') (room : suc n < no_figure) where
    before : (q : ℕ) → q < placements r → figure_in figs q ≡ up_to n (G q)
    before q l = t.figures q l (G q) (has q l)

    new-figure : figure_entry (suc n) ≡ some (suc n)
    new-figure = let e : eqb (suc n) no_figure ≡ false = ne_eqb (suc n) no_figure (λ q. omega arith) in rw e

    after-step : (p f v f' v' : ℕ) → p < placements r → figure_in figs p ≡ figure_entry f → Step r (figure_in figs) (suc n) p f v f' v' → figure_entry f' ≡ up_to (suc n) (G p)
    after-step p f v f' v' l e (stays ef ev h) = ap figure_entry ef ∙ sym e ∙ same n (figure_in figs) before p l (λ y. h (sym e ∙ y))
    after-step p f v f' v' l e (gains none-there o ef h) =
        ap figure_entry ef ∙ new-figure ∙ sym (up-to (suc n) (G p) (suc n) (found n (figure_in figs) before p l v' (e ∙ none-there) o h) (omega arith))

    after : (q : ℕ) → q < placements r → figure_in figs' q ≡ up_to (suc n) (G q)
    after q l = after-step q (get_or figs q no_figure) (get_or sets q 0) (get_or figs' q no_figure) (get_or sets' q 0) l refl (stepped q l)

    -- the two tables have the same figures up to n
    onward : (m : ℕ) → Carries r (figure_in figs) (figure_in figs') m
    onward m q j l b e = let d = down n (figure_in figs) before q j l e in back (suc n) (figure_in figs') after q j l (omega (arith, d.1)) d.0

    backward : (m : ℕ) → m ≤ suc n → Carries r (figure_in figs') (figure_in figs) m
    backward m lm q j l b e = let d = down (suc n) (figure_in figs') after q j l e in back n (figure_in figs) before q j l (omega arith) d.0

    plan-step : (p f v f' v' : ℕ) → p < placements r → figure_in figs p ≡ figure_entry f → IsPlanEntry r (figure_in figs) p (figure_entry f) v
        → Step r (figure_in figs) (suc n) p f v f' v' → IsPlanEntry r (figure_in figs') p (figure_entry f') v'
    plan-step p f v f' v' l e x (stays ef ev h) =
        rw (ef, ev) (entry-carry r ok (figure_in figs) (figure_in figs') p l (figure_entry f) v (λ m em. onward m)
        (λ m em. backward m (let d = down n (figure_in figs) before p m l (e ∙ em) in omega (arith, d.1))) x)
    plan-step p f v f' v' l e x (gains none-there o ef h) =
        let best : Best r ok p (figure_in figs) (suc n) v' = find-best r ok p (figure_in figs) (suc n) (or-false (shared r p) (at_home r p) o).0 v' h in
        let y : IsPlanEntry r (figure_in figs) p (some (suc n)) v' = (best.plans, best.itself) in
        rw (ef, new-figure) (entry-carry r ok (figure_in figs) (figure_in figs') p l (some (suc n)) v' (λ m em. onward m) (λ m em. backward m (let z : suc n ≡ m = cc in omega arith)) y)

    pub next-round : RoundTables r (suc n) figs' sets'
    next-round =
        record {
          figures = λ p l f i. after p l ∙ ap (up_to (suc n)) (figure-one (game_of r) p (G p) f (has p l) i);
          settings = λ p l. plan-step p (get_or figs p no_figure) (get_or sets p 0) (get_or figs' p no_figure) (get_or sets' p 0) l refl (t.settings p l) (stepped p l);
        }

  -- QUIET ROUNDS: where none behind n is due up to m there is no figure between. The move that decides the smallest such figure would lead to one of the
  -- table's, and so a round would be due.
  module _ (n m : ℕ) (figs sets : List ℕ) (t : RoundTables r n figs sets) (calm : Quiet r figs n m) where
    none_between : (b p j : ℕ) → p < placements r → j ≤ b → G p ≡ some j → n < j → j ≤ m → ⊥
    none_between zero p j l lb e a c = omega arith
    none_between (suc b) p j l lb e' a c =
        let i : ℕ = j - 1 in
        let z : j ≡ suc i = omega arith in
        let e : G p ≡ some (suc i) = e' ∙ ap (λ (k : ℕ). some k) z in
        let s : Setting = setting_at r p ((solution r accepted).entry p) in
        let g : Going p i = is-going p i l e in
        let d : Decides (game_of r) G p s (suc i) = decided p (suc i) s l g.going e g.keeps in
        let x = ends_at G (move_of r p s d.train) d.figure d.ends in
        let runs : d.train < r.trains = may-train (game_of r) p s d.train d.moves in
        let w : 1 ≤ weight_of r d.train = costs r ok d.train runs in
        let lq : x.0 < placements r = inside r ok p s d.train x.0 l d.moves x.1 in
        elim (lt? n d.figure) [
          | inl y ↦ none_between b x.0 d.figure lq (omega (arith, d.makes)) x.2 y (omega (arith, d.makes))
          | inr y ↦
              let h : figure_in figs x.0 ≡ some d.figure = t.figures x.0 lq (G x.0) (has x.0 lq) ∙ up-to n (G x.0) d.figure x.2 y in
              omega (arith, calm (suc i) (record { code = x.0; train = d.train; figure = d.figure; there = lq; runs = runs; has = h; makes = d.makes }) (omega arith))
        ]

    upto-same : n ≤ m → (p : ℕ) → p < placements r → up_to n (G p) ≡ up_to m (G p)
    upto-same le p l = elim (option? (G p)) [
      | inl e ↦ rw e
      | inr e ↦ elim (lt? n e.0) [
        | inr c ↦ up-to n (G p) e.0 e.1 c ∙ sym (up-to m (G p) e.0 e.1 (omega arith))
        | inl c ↦ elim (lt? m e.0) [
          | inl d ↦ above n (G p) e.0 e.1 c ∙ sym (above m (G p) e.0 e.1 d)
          | inr d ↦ absurd (none_between e.0 p e.0 l (omega arith) e.1 c d)
        ]
      ]
    ]

    pub quiet-rounds : n ≤ m → RoundTables r m figs sets
    quiet-rounds le =
        record {
          figures = λ p l f i. t.figures p l (G p) (has p l) ∙ upto-same le p l ∙ ap (up_to m) (figure-one (game_of r) p (G p) f (has p l) i);
          settings = t.settings;
        }

  -- THE END: where no round is due any more every figure is there
  pub none_left : (n : ℕ) (figs sets : List ℕ) → RoundTables r n figs sets → NoneDue r figs n → AllBelow r (suc n)
  none_left n figs sets t idle p j l i = elim (lt? n j) [
    | inr b ↦ omega arith
    | inl b ↦
        absurd (none_between n j figs sets t (λ k d a. absurd (omega (arith, idle k d))) j p j l (omega arith) (figure-one (game_of r) p (G p) (some j) (has p l) i) b (omega arith))
  ]

  pub most-figure : (p j : ℕ) → p < placements r → IsFigure (game_of r) p (some j) → j ≤ most_weight * placements r
  unfolding G
  most-figure p j l i = (solution r accepted).most p j l (figure-one (game_of r) p (G p) (some j) (has p l) i)

-- filled tables of round n have every figure, so none is above n
all_there : (r : Railway) → record_refusal r ≡ none → (n : ℕ) (figs sets : List ℕ) → RoundTables r n figs sets → Filled r figs sets → AllBelow r (suc n)
all_there r accepted n figs sets t filled p j l i =
    let e : figure_in figs p ≡ some j = figure-one (game_of r) p (figure_in figs p) (some j) (filled.figures p l) i in
    omega (arith, (of-up-to n (some j) j (sym (t.figures p l (some j) i) ∙ e)).1)

-- ROUND BY ROUND
pub accepted-go : AcceptedGo
accepted-go r accepted =
    record {
      cleared = cleared-round r accepted;
      next = λ n figs sets figs' sets' t room stepped. next-round r accepted n figs sets t figs' sets' stepped room;
      gained = gain r accepted;
      quiet = λ n m figs sets t le calm. quiet-rounds r accepted n m figs sets t calm le;
      ended = none_left r accepted;
      filled = λ n figs sets t. ((λ below. round_filled r accepted n (λ p j l i. omega (arith, below p j l i)) figs sets t), all_there r accepted n figs sets t);
      most = most-figure r accepted;
      small = λ p j l i. omega (arith, most-figure r accepted p j l i, few-placements r accepted);
      room = omega arith;
    }
