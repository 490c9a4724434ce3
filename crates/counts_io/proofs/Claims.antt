-- What is written, by whole plays. The solver's tables have the figures of whole plays, so that the counts are those (counts/Counts), and so are how many entries bear a figure and which is the
-- largest. Where the tables are too short the solver leaves them as they were, and counting refuses them with 9. Assumes nothing.
use mathlib.Core.Path.{◌≡◌, refl, ◌∙◌, ap, subst}
use mathlib.Core.Logic.{inl, inr}
use mathlib.Core.Bool.{true, not}
use mathlib.Core.List.{List}
use mathlib.Core.Option.{none, some}
use Prim.Native.Nat.{ℕ, ◌≤◌, ◌<◌}
use native.Mathlib.Omega.{arith}
use lib.ListN.{length, get_or, length-replicate}
use lib.Dec.{eqb}
use borrow.Author.Tests.{lt-ltb}
use Rattle.laws.specs.Below.{count_below}
use Rattle.laws.proofs.Bools.{bool?, clash, some-none}
use Rattle.railway.specs.declared.Railway.{Railway}
use Rattle.railway.specs.declared.Refusal.TheVariants.{Space}
use Rattle.railway.specs.Rows.{record_refusal}
use Rattle.game.specs.Game.{IsFigure}
use Rattle.game.specs.Placement.{placements}
use Rattle.game.specs.Moves.{game_of}
use Rattle.game.proofs.Figures.{figure-one}
use Rattle.game_tables.specs.Lengths.{entries}
use Rattle.game_tables.specs.Tables.{no_figure, figure_entry, figure_in, tables_short, case_refusal}
use Rattle.game_tables.specs.Solver.{SolverLeaves}
use Rattle.game_tables.proofs.Refusals.{case-none, case-accepted}
use Rattle.case_file.proofs.Again.{accepted-again}
use Rattle.case_file.proofs.Given.{accepted-exactly}
use Rattle.answer_lines.specs.Lines.{refusal_line}
use Rattle.search_progress.specs.Telling.{bears}
use Rattle.counts.specs.CountAnswer.{Counted}
use Rattle.counts.specs.Counts.{CountReply, reply_by, NumberOf, Spread}
use Rattle.counts.proofs.Counts.{too_short, counts-hold}
use Rattle.counts_io.specs.Shown.{ToldCounts, Told, blank, RailwayShown}
use Rattle.counts_io.specs.Claims.{has, CountsOfPlays, ShowsPlays}

-- the program's tables, as they are lent to the solver
pub blank-long : length blank ≡ entries
blank-long = length-replicate {A = ℕ} entries 0

-- AN ENTRY bears a figure exactly if it is one
figure-there : (v n : ℕ) → figure_entry v ≡ some n → not (eqb v no_figure) ≡ true
figure-there v n e = elim (bool? (eqb v no_figure)) [ inl y ↦ some-none e (rw y refl) | inr y ↦ rw y refl ]

borne : (v : ℕ) → not (eqb v no_figure) ≡ true → figure_entry v ≡ some v
borne v e = elim (bool? (eqb v no_figure)) [ inl y ↦ clash e (rw y refl) | inr y ↦ rw y refl ]

-- A TABLE with the figures of whole plays
module _ (r : Railway) (figs : List ℕ) (figures : (p : ℕ) → p < placements r → IsFigure (game_of r) p (figure_in figs p)) where
  pub figure-is : (p n : ℕ) → p < placements r → has r p n → figure_in figs p ≡ some n
  figure-is p n l h = figure-one (game_of r) p (figure_in figs p) (some n) (figures p l) h

  -- so many lead home as entries bear a figure
  pub lead-of : (x : ℕ) → x ≡ count_below (bears figs) (placements r) → NumberOf (λ p. (n : ℕ) × has r p n) (placements r) x
  lead-of x e =
      record {
        test = bears figs;
        exact = λ p l. (
          λ y. (get_or figs p no_figure, subst (IsFigure (game_of r) p) (borne (get_or figs p no_figure) y) (figures p l)),
          λ h. figure-there (get_or figs p no_figure) h.0 (figure-is p h.0 l h.1),
        );
        many = e;
      }

module _ (r : Railway) (ok : record_refusal r ≡ none) (text : List ℕ) (o : RailwayShown r text) where
  -- THERE IS ROOM
  module _ (room : placements r ≤ entries) where
    long : placements r ≤ length blank
    long = omega (arith, blank-long, room)

    pub leaves : SolverLeaves r o.answer blank blank o.figs o.sets none
    leaves =
        subst (SolverLeaves r o.answer blank blank o.figs o.sets)
        ((case-none r blank blank).1 (ok, record { figures = long; settings = long })) o.solved.leaves

    -- a placement's entry is its figure by whole plays
    is-figure : (p : ℕ) → p < placements r → IsFigure (game_of r) p (figure_in o.figs p)
    is-figure p l = leaves.0.filled.figures p l

    counted : (o.reply.answer ≡ Counted) × Spread (IsFigure (game_of r)) (placements r) o.reply.counts
    counted = counts-hold.solved r o.answer blank blank o.figs o.sets ok long long o.solved o.reply o.counted

    told : ToldCounts o.figs (placements r) o.reply.counts text
    told = subst (Told r o.figs o.reply.counts text) counted.0 o.told

    pub of-plays : CountsOfPlays r text
    of-plays =
        record {
          progress = told.progress;
          counts = o.reply.counts;
          written = told.written;
          spread = counted.1;
          lead = lead-of r o.figs is-figure told.progress.count told.tells.count;
          most = λ p n l h. told.tells.most p l n (figure-is r o.figs is-figure p n l h);
          reached = λ l.
              let w = told.tells.reached l in
              (w.code, w.below, subst (IsFigure (game_of r) w.code) w.has (is-figure w.code w.below));
          nowhere = told.tells.without;
        }

  -- THERE IS NONE: the solver leaves the tables as they were, and counting refuses them, too
  module _ (many : entries < placements r) where
    no_room : case_refusal r blank blank ≡ some Space
    unfolding tables_short
    no_room = case-accepted r blank blank ok ∙ rw (lt-ltb (length blank) (placements r) (omega (arith, many, blank-long)))

    untouched : o.figs ≡ blank
    untouched = (subst (SolverLeaves r o.answer blank blank o.figs o.sets) no_room o.solved.leaves).0

    pub space-told : text ≡ refusal_line Space
    space-told =
        let size : length o.figs ≡ entries = ap (λ (xs : List ℕ). length xs) untouched ∙ blank-long in
        let e : o.reply ≡ reply_by r o.figs (some Space) = o.counted.replied ∙ ap (reply_by r o.figs) (too_short r o.figs ok (omega (arith, size, many))) in
        subst (λ (x : CountReply). Told r o.figs x.counts text x.answer) e o.told

pub shows-plays : ShowsPlays
shows-plays case text r read shown =
    let ok : record_refusal r ≡ none = accepted-again case r ((accepted-exactly case r).1 read) in
    record { fits = of-plays r ok text (shown.accepted r read); too_many = space-told r ok text (shown.accepted r read) }
