-- A first try, the case itself, and end after end. If the first end does not help, the case itself has no figure, by
-- the law that one signal more takes none away. Before index i none has helped, and the tables are those of the last
-- case tried. A solving of the next case keeps what stands behind the last code, so that the tables are still what was
-- lent there; it has as many placements, and is not refused. Assumes nothing.
use mathlib.Core.Path.{◌≡◌, refl, sym, ◌∙◌, ap}
use mathlib.Core.Bool.{Bool, true, false, not}
use mathlib.Core.List.{List}
use mathlib.Core.Option.{none, some}
use Prim.Native.Nat.{ℕ, zero, suc, ◌+◌, ◌/◌, ◌%◌, ◌≤◌, ◌<◌}
use native.Mathlib.Omega.{arith}
use lib.ListN.{length}
use Rattle.std.specs.Prelude.{Result, Ok, Err}
use Rattle.laws.proofs.Bools.{clash, some-none}
use Rattle.laws.proofs.Below.{upto}
use Rattle.railway.specs.declared.Side.{Side}
use Rattle.railway.specs.declared.End.{End}
use Rattle.railway.specs.declared.End.TheVariants.{Section}
use Rattle.railway.specs.declared.Railway.{Railway}
use Rattle.railway.specs.declared.Refusal.{Refusal}
use Rattle.railway.specs.Bounds.{most_sections}
use Rattle.railway.specs.Ends.{end_index, side_at, end_at}
use Rattle.railway.specs.Refusals.{number_of}
use Rattle.railway.specs.Record.{flag_at, with_signal}
use Rattle.railway.specs.Rows.{record_refusal}
use Rattle.railway.proofs.Ends.{end-section, index-end}
use Rattle.game.specs.Placement.{placements, start_code}
use Rattle.game.specs.Moves.{game_of}
use Rattle.game.specs.Game.{IsFigure}
use Rattle.game.proofs.Accepted.{facts}
use Rattle.game.proofs.Moves.{start-below}
use Rattle.game_tables.specs.SolverAnswer.{SolverAnswer, Refused as Refuses, Unsolvable, Figure}
use Rattle.game_tables.specs.Tables.{figure_in, case_refusal}
use Rattle.game_tables.specs.Solver.{number_given, figure_given, Kept, SolverTables, SolverPost}
use Rattle.game_tables.proofs.Refusals.{case-none}
use Rattle.railway_compiled.specs.Table.{compilation}
use Rattle.game_case.specs.Cases.{CasePost}
use Rattle.game_case.proofs.Cases.{opened-refused, opened-none}
use Rattle.advice.specs.Advice.{NotNeeded, Signal, NoneHelps, Refused}
use Rattle.advice.specs.Advising.{HasFigure, HasNone, ends_of, tries, with_one, NoneBefore, FirstHelp, last_tried, case_of, AdvicePost, signalled, StillAccepted}
use Rattle.advice.proofs.Advising.{none-without, none_more}
use Rattle.advice.proofs.Claims.{still_one, last-accepted, kept-as}
use Rattle.advice_call.specs.Tries.{AllSignals, FirstBare, Untried, TriedTo, solved, TriedPost, passed_over, is-tried}

-- WHAT THE SOLVER SAYS of the start
module _ (q : Railway) (a : SolverAnswer) (figs sets figs' sets' : List ℕ) (fine : case_refusal q figs sets ≡ none) (p : SolverPost q a figs sets figs' sets') where
  pub tables-of : SolverTables q figs sets figs' sets'
  tables-of = (rw fine at p.leaves).0

  start_has : IsFigure (game_of q) (start_code q) (figure_given a)
  start_has =
      let left : SolverTables q figs sets figs' sets' × (figure_given a ≡ figure_in figs' (start_code q)) = rw fine at p.leaves in
      rw left.1 (left.0.filled.figures (start_code q) (start-below q (facts q ((case-none q figs sets).0 fine).0)))

solved-figure : (q : Railway) (a : SolverAnswer) → solved a ≡ true → IsFigure (game_of q) (start_code q) (figure_given a) → HasFigure q
solved-figure q (Refuses f) e x = clash e refl
solved-figure q Unsolvable e x = clash e refl
solved-figure q (Figure n) e x = record { total = n; figure = x }

unsolved-none : (q : Railway) (a : SolverAnswer) → solved a ≡ false → IsFigure (game_of q) (start_code q) (figure_given a) → HasNone q
unsolved-none q (Refuses f) e x = x
unsolved-none q Unsolvable e x = x
unsolved-none q (Figure n) e x = clash refl e

-- TABLES KEPT, one solving behind the other
kept-through : (r q : Railway) (old mid new : List ℕ) → placements q ≡ placements r → Kept r old mid → Kept q mid new → Kept q old new
kept-through r q old mid new e a b = record { as_long = b.as_long ∙ a.as_long; past = λ p l. b.past p l ∙ a.past p (rw (← e) l) }

-- ONE END
pub tried-passed : (r : Railway) (i : ℕ) (b : Bool) (figs sets : List ℕ) → b ≡ flag_at r i → b ≡ true → TriedPost r i false figs sets figs sets
tried-passed r i b figs sets e h = let f : flag_at r i ≡ true = sym e ∙ h in passed_over (rw f) refl refl refl

pub tried-one : (r : Railway) (i : ℕ) (b : Bool) (e : End) (q : Railway) (a : SolverAnswer) (c : Bool) (figs sets figs' sets' : List ℕ) → b ≡ flag_at r i → b ≡ false → e ≡ end_at i → q ≡ with_signal r e
    → SolverPost q a figs sets figs' sets' → c ≡ solved a → TriedPost r i c figs sets figs' sets'
tried-one r i b e q a c figs sets figs' sets' eb h ee eq p s =
    let f : flag_at r i ≡ false = sym eb ∙ h in
    let w : q ≡ with_one r i = eq ∙ ap (with_signal r) ee in
    is-tried a (rw f) s (rw w at p)

-- A CASE IS SOLVED, that of the call or one with a signal more, in tables that are as they were lent past the last code: none is refused, and its tables take the place of those before
module _ (r : Railway) (figs₀ sets₀ figs sets figs' sets' : List ℕ) (fine : case_refusal r figs₀ sets₀ ≡ none) (kf : Kept r figs₀ figs) (ks : Kept r sets₀ sets) where
  accepted : record_refusal r ≡ none
  accepted = ((case-none r figs₀ sets₀).0 fine).0

  own : StillAccepted r r
  own = record { accepted = accepted; placements = refl; start = refl }

  module _ (q : Railway) (still : StillAccepted r q) where
    still-fine : case_refusal q figs sets ≡ none
    still-fine =
        let room = ((case-none r figs₀ sets₀).0 fine).1 in
        let e = still.placements in
        let lf = kf.as_long in
        let ls = ks.as_long in
        (case-none q figs sets).1 (still.accepted, record { figures = rw (e, lf) room.figures; settings = rw (e, ls) room.settings })

    module _ (a : SolverAnswer) (p : SolverPost q a figs sets figs' sets') where
      its-start : IsFigure (game_of q) (start_code q) (figure_given a)
      its-start = start_has q a figs sets figs' sets' still-fine p

      its-tables : SolverTables q figs₀ sets₀ figs' sets'
      its-tables =
          let t = tables-of q a figs sets figs' sets' still-fine p in
          record {
            filled = t.filled;
            kept-figs = kept-through r q figs₀ figs figs' still.placements kf t.kept-figs;
            kept_sets = kept-through r q sets₀ sets sets' still.placements ks t.kept_sets;
          }

      never-refused : (f : Refusal) → a ≡ Refuses f → ⊥
      never-refused f e = let n : number_given (Refuses f) ≡ none = ap number_given (sym e) ∙ p.numbered ∙ ap number_of still-fine in some-none refl n

-- ENDS THAT HAVE A SIGNAL are no tries
signals-none : (r : Railway) (i : ℕ) → AllSignals r i → NoneBefore r i
signals-none r i h j l t = clash t (h j l)

signals-last : (r : Railway) (i : ℕ) → AllSignals r i → last_tried r i ≡ none
unfolding last_tried
signals-last r zero h = refl
signals-last r (suc i) h = rw (h i (omega arith)) (signals-last r i (λ j l. h j (omega arith)))

-- THE FIRST END without a signal is looked for
pub bare-start : (r : Railway) → AllSignals r 0
bare-start r j l = absurd (omega arith)

pub bare-next : (r : Railway) (i : ℕ) (b : Bool) → AllSignals r i → b ≡ flag_at r i → not b ≡ false → AllSignals r (i + 1)
bare-next r i b h e t = let s : i + 1 ≡ suc i = omega arith in rw s (upto (λ j. tries r j ≡ false) h (ap not (sym e) ∙ t))

pub bare-found : (r : Railway) (i : ℕ) (b : Bool) → AllSignals r i → i < ends_of r → b ≡ flag_at r i → not b ≡ true → FirstBare r i
bare-found r i b h l e t = record { within = omega arith; signals = h; bare = λ m. ap not (sym e) ∙ t }

pub bare-over : (r : Railway) (i : ℕ) → AllSignals r i → i ≤ ends_of r → ends_of r ≤ i → FirstBare r i
bare-over r i h l m = record { within = l; signals = h; bare = λ n. absurd (omega arith) }

-- THE CASE IS OPENED
module _ (r : Railway) (figs sets : List ℕ) (c : Result (List ℕ) Refusal) (p : CasePost r figs sets (compilation c)) where
  pub told-refused : (f : Refusal) → c ≡ Err f → AdvicePost r (Refused f) figs sets figs sets
  told-refused f e =
      let due : case_refusal r figs sets ≡ some f = opened-refused p (ap (λ (x : Result (List ℕ) Refusal). (compilation x).tested) e) in
      record { numbered = ap number_of (sym due); leaves = rw due (refl, refl) }

  module _ (table : List ℕ) (e : c ≡ Ok table) where
    pub told-fine : case_refusal r figs sets ≡ none
    told-fine = opened-none p (ap (λ (x : Result (List ℕ) Refusal). (compilation x).tested) e)

    pub few : r.sections ≤ most_sections
    few = (facts r ((case-none r figs sets).0 told-fine).0).few-sections

-- WHERE IT BEGINS: nothing has been solved; the first end has been tried, and helps; it does not, and then the case has no figure either
as_lent : (r : Railway) (xs : List ℕ) → Kept r xs xs
as_lent r xs = record { as_long = refl; past = λ p l. refl }

module _ (r : Railway) (i : ℕ) (figs sets figs' sets' : List ℕ) (first : FirstBare r i) where
  pub untouched : case_refusal r figs sets ≡ none → Untried r i figs sets figs sets
  untouched fine = record { fine = fine; signals = first.signals; kept-figs = as_lent r figs; kept_sets = as_lent r sets }

  module _ (b : Bool) (l : i < ends_of r) (fine : case_refusal r figs sets ≡ none) where
    ok : record_refusal r ≡ none
    ok = ((case-none r figs sets).0 fine).0

    still : StillAccepted r (with_one r i)
    still = still_one r ok i l

    pub first-tried : TriedPost r i b figs sets figs' sets' → Untried r i figs sets figs' sets'
    first-tried (passed_over e f ef es) = clash (first.bare l) e
    first-tried (is-tried a e f p) =
        let t = its-tables r figs sets figs sets figs' sets' fine (as_lent r figs) (as_lent r sets) (with_one r i) still a p in
        record {
          fine = fine;
          signals = first.signals;
          kept-figs = kept-as r (with_one r i) figs figs' still.placements t.kept-figs;
          kept_sets = kept-as r (with_one r i) sets sets' still.placements t.kept_sets;
        }

    useless : b ≡ false → TriedPost r i b figs sets figs' sets' → TriedTo r (suc i) figs sets figs' sets'
    unfolding last_tried
    useless n (passed_over e f ef es) = clash (first.bare l) e
    useless n (is-tried a e f p) =
        let h : HasNone (with_one r i) =
        unsolved-none (with_one r i) a (sym f ∙ n) (its-start r figs sets figs sets figs' sets' fine (as_lent r figs) (as_lent r sets) (with_one r i) still a p) in
        record {
          fine = fine;
          unsolved = none-without r ok i l e h;
          none_yet = none_more r i (signals-none r i first.signals) (λ t. h);
          tables = rw e (its-tables r figs sets figs sets figs' sets' fine (as_lent r figs) (as_lent r sets) (with_one r i) still a p);
        }

    pub first-useless : b ≡ false → TriedPost r i b figs sets figs' sets' → TriedTo r (i + 1) figs sets figs' sets'
    first-useless n p = let s : i + 1 ≡ suc i = omega arith in rw s (useless n p)

-- THE CASE ITSELF is solved
module _ (r : Railway) (i : ℕ) (figs sets figs' sets' : List ℕ) (a : SolverAnswer) (p : SolverPost r a figs sets figs' sets') (figs₀ sets₀ : List ℕ) (u : Untried r i figs₀ sets₀ figs sets) where
  own-start : IsFigure (game_of r) (start_code r) (figure_given a)
  own-start = its-start r figs₀ sets₀ figs sets figs' sets' u.fine u.kept-figs u.kept_sets r (own r figs₀ sets₀ figs sets figs' sets' u.fine u.kept-figs u.kept_sets) a p

  own-tables : SolverTables r figs₀ sets₀ figs' sets'
  own-tables = its-tables r figs₀ sets₀ figs sets figs' sets' u.fine u.kept-figs u.kept_sets r (own r figs₀ sets₀ figs sets figs' sets' u.fine u.kept-figs u.kept_sets) a p

  pub case-refused : (f : Refusal) → a ≡ Refuses f → AdvicePost r (Refused f) figs₀ sets₀ figs' sets'
  case-refused f e =
      absurd
      (never-refused r figs₀ sets₀ figs sets figs' sets' u.fine u.kept-figs u.kept_sets r (own r figs₀ sets₀ figs sets figs' sets' u.fine u.kept-figs u.kept_sets) a p f e)

  pub case-figure : (n : ℕ) → a ≡ Figure n → AdvicePost r NotNeeded figs₀ sets₀ figs' sets'
  case-figure n e =
      let x : HasFigure r = record { total = n; figure = rw e at own-start } in
      record { numbered = ap number_of (sym u.fine); leaves = rw u.fine (x, own-tables) }

  pub case-unsolved : a ≡ Unsolvable → TriedTo r i figs₀ sets₀ figs' sets'
  case-unsolved e =
      record { fine = u.fine; unsolved = rw e at own-start; none_yet = signals-none r i u.signals; tables = rw (signals-last r i u.signals) own-tables }

-- END AFTER END, from index i₀ on
pub record Trying (r : Railway) (i₀ : ℕ) (figs₁ sets₁ : List ℕ) (i : ℕ) (figs sets : List ℕ) : Type 0 where
  pub within : i ≤ ends_of r
  pub long-figs : length figs ≡ length figs₁
  pub long-sets : length sets ≡ length sets₁
  pub tried : (figs₀ sets₀ : List ℕ) → TriedTo r i₀ figs₀ sets₀ figs₁ sets₁ → TriedTo r i figs₀ sets₀ figs sets

pub trying_start : (r : Railway) (i₀ : ℕ) (figs₁ sets₁ : List ℕ) → i₀ ≤ ends_of r → Trying r i₀ figs₁ sets₁ i₀ figs₁ sets₁
trying_start r i₀ figs₁ sets₁ l = record { within = l; long-figs = refl; long-sets = refl; tried = λ figs₀ sets₀ u. u }

module _ (r : Railway) (i₀ : ℕ) (figs₁ sets₁ figs sets figs' sets' : List ℕ) (i : ℕ) (x : Trying r i₀ figs₁ sets₁ i figs sets) (l : i < ends_of r) where
  module _ (figs₀ sets₀ : List ℕ) (u : TriedTo r i₀ figs₀ sets₀ figs₁ sets₁) where
    so_far : TriedTo r i figs₀ sets₀ figs sets
    so_far = x.tried figs₀ sets₀ u

    sound : record_refusal r ≡ none
    sound = ((case-none r figs₀ sets₀).0 u.fine).0

    far-figs : Kept r figs₀ figs
    far-figs = kept-as r (case_of r (last_tried r i)) figs₀ figs (last-accepted r sound i x.within).placements so_far.tables.kept-figs

    far-sets : Kept r sets₀ sets
    far-sets = kept-as r (case_of r (last_tried r i)) sets₀ sets (last-accepted r sound i x.within).placements so_far.tables.kept_sets

    next_start : (a : SolverAnswer) → SolverPost (with_one r i) a figs sets figs' sets' → IsFigure (game_of (with_one r i)) (start_code (with_one r i)) (figure_given a)
    next_start a p = its-start r figs₀ sets₀ figs sets figs' sets' u.fine far-figs far-sets (with_one r i) (still_one r sound i l) a p

    next-tables : (a : SolverAnswer) → SolverPost (with_one r i) a figs sets figs' sets' → SolverTables (with_one r i) figs₀ sets₀ figs' sets'
    next-tables a p = its-tables r figs₀ sets₀ figs sets figs' sets' u.fine far-figs far-sets (with_one r i) (still_one r sound i l) a p

    next-to : TriedPost r i false figs sets figs' sets' → TriedTo r (suc i) figs₀ sets₀ figs' sets'
    unfolding last_tried
    next-to (passed_over e b ef es) =
        record { fine = u.fine; unsolved = u.unsolved; none_yet = none_more r i so_far.none_yet (λ t. clash t e); tables = rw (e, ef, es) so_far.tables }
    next-to (is-tried a e b p) =
        record {
          fine = u.fine;
          unsolved = u.unsolved;
          none_yet = none_more r i so_far.none_yet (λ t. unsolved-none (with_one r i) a (sym b) (next_start a p));
          tables = rw e (next-tables a p);
        }

    helped : TriedPost r i true figs sets figs' sets' → FirstHelp r i × SolverTables (with_one r i) figs₀ sets₀ figs' sets'
    helped (passed_over e b ef es) = clash refl b
    helped (is-tried a e b p) = (
      record { there = l; tried = e; helps = solved-figure (with_one r i) a (sym b) (next_start a p); before = so_far.none_yet },
      next-tables a p,
    )

    -- IT HELPS, and is named
    pub found : (d : Side) → d ≡ side_at (i % 2) → TriedPost r i true figs sets figs' sets' → AdvicePost r (Signal (record { 0 = i / 2 }) d) figs₀ sets₀ figs' sets'
    found d ed p =
        let h = helped p in
        let few : r.sections ≤ most_sections = (facts r sound).few-sections in
        let e : end_at i ≡ Section (record { 0 = i / 2 }) d = end-section i (omega arith) ∙ (let z : Section (record { 0 = i / 2 }) (side_at (i % 2)) ≡ Section (record { 0 = i / 2 }) d = rw ed in z) in
        let n : end_index (Section (record { 0 = i / 2 }) d) ≡ i = ap end_index (sym e) ∙ index-end i (omega arith) in
        let t : SolverTables (signalled r (record { 0 = i / 2 }) d) figs₀ sets₀ figs' sets' = rw e at h.1 in
        record { numbered = ap number_of (sym u.fine); leaves = rw u.fine ((u.unsolved, rw n h.0), t) }

  -- ON to the next end
  pub trying-next : (b : Bool) → b ≡ false → TriedPost r i b figs sets figs' sets' → length figs' ≡ length figs → length sets' ≡ length sets → Trying r i₀ figs₁ sets₁ (i + 1) figs' sets'
  trying-next b e p ef es =
      let s : i + 1 ≡ suc i = omega arith in
      rw s
      (record {
        within = omega arith;
        long-figs = ef ∙ x.long-figs;
        long-sets = es ∙ x.long-sets;
        tried = λ figs₀ sets₀ u. next-to figs₀ sets₀ u (rw e at p);
      })

  pub trying-found : (b : Bool) → b ≡ true → TriedPost r i b figs sets figs' sets' → (d : Side) → d ≡ side_at (i % 2) → (figs₀ sets₀ : List ℕ) → TriedTo r i₀ figs₀ sets₀ figs₁ sets₁
      → AdvicePost r (Signal (record { 0 = i / 2 }) d) figs₀ sets₀ figs' sets'
  trying-found b e p d ed figs₀ sets₀ u = found figs₀ sets₀ u d ed (rw e at p)

-- ALL TRIED
pub trying-over : (r : Railway) (i₀ : ℕ) (figs₁ sets₁ figs sets : List ℕ) (i : ℕ) → Trying r i₀ figs₁ sets₁ i figs sets
    → ends_of r ≤ i → (figs₀ sets₀ : List ℕ) → TriedTo r i₀ figs₀ sets₀ figs₁ sets₁
    → AdvicePost r NoneHelps figs₀ sets₀ figs sets
trying-over r i₀ figs₁ sets₁ figs sets i x l figs₀ sets₀ u =
    let e : i ≡ ends_of r = omega (arith, x.within) in
    let t : TriedTo r (ends_of r) figs₀ sets₀ figs sets = rw e at (x.tried figs₀ sets₀ u) in
    record { numbered = ap number_of (sym u.fine); leaves = rw u.fine ((t.unsolved, t.none_yet), t.tables) }
