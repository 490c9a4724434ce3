-- What a call of the emitter answers and leaves, by what it has found: a refusal, no plan, the end, or the line that is due.
-- Assumes nothing.
use Prim.Native.Nat.{ℕ, suc, ◌<◌, ◌≤◌}
use mathlib.Core.Path.{◌≡◌, refl, sym, ◌∙◌}
use mathlib.Core.Bool.{true}
use mathlib.Core.List.{List}
use mathlib.Core.Option.{none, some}
use native.Mathlib.Omega.{arith}
use lib.ListN.{length, get_or}
use borrow.Author.Tests.{eq-eqb, ne_eqb}
use Rattle.laws.specs.Below.{lowest, list_below}
use Rattle.railway.specs.declared.Railway.{Railway}
use Rattle.railway.specs.declared.Refusal.{Refusal}
use Rattle.railway.specs.CaseAnswer as tested
use Rattle.game.specs.Placement.{sections_of, stands_on, placements, start_code}
use Rattle.game.proofs.Placement.{sections-length}
use Rattle.game_tables.specs.Tables.{no_figure, figure_in}
use Rattle.plan.specs.declared.PlanPlace.{PlanPlace}
use Rattle.plan.specs.declared.PlanPlace.TheVariants.{Top, From}
use Rattle.plan.specs.Emitted.{Emitted, End, NoPlan, Refused}
use Rattle.plan.specs.Lines.{start_line, placement_line, spell, most_line_bytes}
use Rattle.plan.specs.Text.{has_figure, line_for}
use Rattle.plan.specs.Emitter.{Wrote, figure_from, next_code, due_for, emit_line, leaves}
use Rattle.plan.specs.Steps.{line_written, due_written, emitted}
use Rattle.plan.specs.Promises.{EmitterPost}
use Rattle.plan.proofs.Reading.{list-is}
use Rattle.plan.proofs.Lines.{lines-short}
use Rattle.plan.proofs.Listing.{line-fits}
use Rattle.plan.proofs.Steps.{emit-steps}
use Rattle.plan.proofs.Promises.{emits-so}
use Rattle.railway_compiled.specs.Compilation.{Compilation}
use Rattle.railway_compiled.specs.Table.{Compiled}
use Rattle.game_placement.specs.declared.Placement.{Placement}
use Rattle.game_placement.specs.ByValue.{section_in}
use Rattle.game_moves.specs.Steps.{On}
use Rattle.game_case.specs.Cases.{CasePost}
use Rattle.game_case.proofs.Cases.{opened-refused, opened-none, opened-table}
use Rattle.plan_lines.specs.Spelling.{line_of}
use Rattle.plan_emitter.proofs.Next.{found-passes, from-figure}

-- THE LINE OF A PLACEMENT is what its parts spell
module _ (r : Railway) (figs sets : List ℕ) (p : ℕ) where
  same-sections : (q : Placement) → ((t : ℕ) → section_in q t ≡ stands_on r p t) → list_below (section_in q) r.trains ≡ sections_of r p
  unfolding stands_on
  same-sections q on = list-is (section_in q) (sections_of r p) r.trains 0 (sections-length r.sections r.trains p) (λ i l. on i)

  line-is : (k m : ℕ) (q : Placement) (n v : ℕ) → k ≡ r.trains → m ≡ r.points → ((t : ℕ) → section_in q t ≡ stands_on r p t) → n ≡ get_or figs p no_figure → v ≡ get_or sets p 0
      → line_of k m q n v ≡ line_for r figs sets p
  unfolding line_for
  line-is k m q n v ek em on en ev = rw (ek, em, en, ev, same-sections q on)

  -- and it is short
  pub record PlacementIs (k m : ℕ) (q : Placement) (n v : ℕ) : Type 0 where
    pub same : line_of k m q n v ≡ line_for r figs sets p
    pub short : length (spell (placement_line (line_for r figs sets p))) ≤ most_line_bytes

  pub placement-is : {k m n v : ℕ} {q : Placement} {table : List ℕ} → Compiled r table → has_figure figs p ≡ true
      → n ≡ get_or figs p no_figure → n < 4294967296 → v ≡ get_or sets p 0 → On r p table q → k ≡ r.trains → m ≡ r.points → PlacementIs k m q n v
  placement-is {k} {m} {n} {v} {q} compiled has en small ev on ek em =
      record {
        same = line-is k m q n v ek em on.stands en ev;
        short = lines-short r compiled.accepted (placement_line (line_for r figs sets p)) (line-fits r compiled.accepted figs sets p (omega (arith, en)) has);
      }

-- WHAT IS DUE from a code on
module _ (r : Railway) (figs sets : List ℕ) (c total : ℕ) (old : List ℕ) (all : total ≡ placements r) where
  pub due-placement : (p : ℕ) → lowest (figure_from figs c) total ≡ some p → {w : Wrote}
      → (has_figure figs p ≡ true → w ≡ line_written (spell (placement_line (line_for r figs sets p))) (From (suc p)) old)
      → w ≡ due_written old (due_for r figs sets (next_code r figs c))
  due-placement p first line =
      let e : next_code r figs c ≡ some p = rw all at first in
      line (from-figure figs c p (found-passes (figure_from figs c) total p first)) ∙ rw e

  pub due-end : lowest (figure_from figs c) total ≡ none → leaves End old ≡ due_written old (due_for r figs sets (next_code r figs c))
  due-end l = let e : next_code r figs c ≡ none = rw all at l in rw e

-- WHAT IS EMITTED at a place, by the start's figure
module _ (r : Railway) (figs sets : List ℕ) (place : PlanPlace) (old : List ℕ) (p n : ℕ) (at : p ≡ start_code r) (is : n ≡ get_or figs p no_figure) where
  abbrev figure : ℕ
  figure = get_or figs (start_code r) no_figure

  figure-is : n ≡ figure
  figure-is = rw at at is

  pub none_emitted : n ≡ no_figure → leaves NoPlan old ≡ emitted r figs sets place old none (figure_in figs (start_code r))
  none_emitted e = rw (eq-eqb figure no_figure (sym figure-is ∙ e))

  module _ (some-figure : n ≡ no_figure → ⊥) where
    there : figure_in figs (start_code r) ≡ some figure
    there = rw (ne_eqb figure no_figure (λ e. some-figure (figure-is ∙ e)))

    pub top-emitted : {w : Wrote} → place ≡ Top → w ≡ line_written (spell (start_line n)) (From 0) old → w ≡ emitted r figs sets place old none (figure_in figs (start_code r))
    top-emitted {w} e h = let k : w ≡ line_written (spell (start_line figure)) (From 0) old = rw figure-is at h in rw (there, e) k

    pub from-emitted : {w : Wrote} (c : ℕ) → place ≡ From c → w ≡ due_written old (due_for r figs sets (next_code r figs c)) → w ≡ emitted r figs sets place old none (figure_in figs (start_code r))
    from-emitted {w} c e h = rw (there, e) h

-- A CALL
module _ (r : Railway) (figs sets : List ℕ) (place : PlanPlace) (old : List ℕ) where
  post : (a : Emitted) (new : List ℕ) → leaves a new ≡ emit_line r figs sets place old → EmitterPost r figs sets place old a new
  post a new e = emits-so r figs sets place old (leaves a new) e

  module _ {o : Compilation} (opened : CasePost r figs sets o) where
    pub case-refused : (f : Refusal) → o.tested ≡ tested.Refused f → EmitterPost r figs sets place old (Refused f) old
    case-refused f e = post (Refused f) old (sym (emit-steps r figs sets place old (opened-refused opened e) refl))

    pub case-emitted : {a : Emitted} {new : List ℕ} → o.tested ≡ tested.Accepted
        → ((r : Railway) → Compiled r o.table → leaves a new ≡ emitted r figs sets place old none (figure_in figs (start_code r)))
        → EmitterPost r figs sets place old a new
    case-emitted {a} {new} e line = post a new (line r (opened-table opened e) ∙ sym (emit-steps r figs sets place old (opened-none opened e) refl))
