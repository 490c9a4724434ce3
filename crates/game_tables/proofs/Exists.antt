-- The promise can be kept: in every accepted case there are the figures and the plan's entries, and tables long enough can be filled with
-- them. Tables made round by round, by the search, agree with every single turn and so have the figures; these are below the number for
-- none, for no more rounds are needed than 255 for each placement. What the search finds is the plan's entry. Assumes nothing.
use mathlib.Core.Path.{◌≡◌, refl, sym, ◌∙◌, ap}
use mathlib.Core.Logic.{inl, inr}
use mathlib.Core.Bool.{false}
use mathlib.Core.List.{List}
use mathlib.Core.Option.{Option, none, some}
use Prim.Native.Nat.{ℕ, zero, suc, ◌*◌, ◌^◌, ◌≤◌, ◌<◌}
use native.Mathlib.Omega.{arith}
use native.Mathlib.Nat.{pow-le-pow_left, pow-le-pow_right}
use lib.ListN.{length, get_or}
use lib.Dec.{eqb}
use borrow.Author.Tests.{ne_eqb}
use Rattle.laws.proofs.Bools.{option?, lt?, some-none, not-true}
use Rattle.laws.proofs.Below.{overwritten, overwritten-length, overwritten-below, overwritten-past}
use Rattle.railway.specs.declared.Railway.{Railway}
use Rattle.railway.specs.Bounds.{most_sections, most_trains, most_weight}
use Rattle.railway.specs.Rows.{record_refusal}
use Rattle.game.specs.Game.{home, IsFigure}
use Rattle.game.specs.Local.{Solved}
use Rattle.game.specs.Placement.{placements, shared}
use Rattle.game.specs.Moves.{game_of}
use Rattle.game.proofs.Local.{no-keeps-zero}
use Rattle.game.proofs.Accepted.{Facts, facts}
use Rattle.game.proofs.Moves.{inside, costs, most}
use Rattle.game.proofs.Figures.{figure-one}
use Rattle.game.proofs.Claim.{whole}
use Rattle.game.proofs.Settle.{Searches, figures, settings, rounds, settled, range, rounds-solved}
use Rattle.game_tables.specs.Entries.{setting_at}
use Rattle.game_tables.specs.Tables.{no_figure, figure_entry, figure_in, IsPlanEntry, Filled}
use Rattle.game_tables.specs.Solver.{Kept, SolverTables}
use Rattle.game_tables.specs.Find.{find}
use Rattle.game_tables.proofs.Find.{find-sound, find-complete}
use Rattle.game_tables.proofs.Best.{Best, find-best}
use Rattle.game_tables.proofs.Carry.{entry-same-figures}

-- The figures and the plan's entries of a case, by code; a table can hold the figures.
pub record Solution (r : Railway) : Type 0 where
  pub figure : ℕ → Option ℕ
  pub entry : ℕ → ℕ
  pub figures : (p : ℕ) → p < placements r → IsFigure (game_of r) p (figure p)
  pub small : (p j : ℕ) → p < placements r → figure p ≡ some j → j < no_figure
  pub most : (p j : ℕ) → p < placements r → figure p ≡ some j → j ≤ most_weight * placements r
  pub entries : (p : ℕ) → p < placements r → IsPlanEntry r figure p (figure p) (entry p)

-- EVERY ACCEPTED CASE HAS ONE
module _ (r : Railway) (accepted : record_refusal r ≡ none) where
  abbrev ok : Facts r
  ok = facts r accepted

  searches : Searches (game_of r) (setting_at r) (find r)
  searches = record { sound = λ F p n v l. find-sound r F p n v; complete = λ F p n s l. find-complete r F p n ok s }

  abbrev G : ℕ → Option ℕ
  G = figures (game_of r) 254 (find r)

  abbrev W : ℕ → ℕ
  W = settings (game_of r) 254 (find r)

  agrees : Solved (game_of r) G (λ p. setting_at r p (W p))
  agrees = rounds-solved (game_of r) (costs r ok) 254 (most r ok) (setting_at r) (find r) searches

  pub few-placements : placements r ≤ most_sections ^ most_trains
  few-placements = omega (arith, pow-le-pow_left ok.few-sections r.trains, pow-le-pow_right {n = most_sections} (omega arith) {i = r.trains} {j = most_trains} ok.few-trains)

  most-figure : (p j : ℕ) → G p ≡ some j → j ≤ most_weight * placements r
  most-figure p j e =
      omega (
        arith,
        range (game_of r) (costs r ok) 254 (most r ok) (setting_at r) (find r) searches
            (rounds (game_of r) 254 (find r)) p j e,
        (settled (game_of r) (costs r ok) 254 (most r ok) (setting_at r) (find r) searches).1,
      )

  small-figure : (p j : ℕ) → G p ≡ some j → j < no_figure
  small-figure p j e = omega (arith, most-figure p j e, few-placements)

  entry-found : (p n v : ℕ) → G p ≡ some n → find r G p n ≡ some v → W p ≡ v
  entry-found p n v e f = rw (e, f)

  plan-at : (p : ℕ) → p < placements r → (f : Option ℕ) → G p ≡ f → IsPlanEntry r G p f (W p)
  plan-at p l none e = rw e
  plan-at p l (some zero) e = rw e (elim (option? (find r G p 0)) [
    | inl x ↦ rw x
    | inr x ↦ absurd (no-keeps-zero (game_of r) G (costs r ok) p (setting_at r p x.0) (find-sound r G p 0 x.0 x.1))
  ])
  plan-at p l (some (suc n)) e =
      let away : home (game_of r) p ≡ false =
      not-true (home (game_of r) p) (λ y. let z : ◌≡◌ {A = Option ℕ} (some (suc n)) (some 0) = sym e
      ∙ agrees.home-zero p l y in let w : suc n ≡ 0 = cc in omega arith) in
      let apart : shared r p ≡ false = not-true (shared r p) (λ y. some-none e (agrees.lost-none p l y)) in
      let x : (v : ℕ) × (find r G p (suc n) ≡ some v) = find-complete r G p (suc n) ok (setting_at r p (W p)) (agrees.kept p (suc n) l e away) in
      let b : Best r ok p G (suc n) x.0 = find-best r ok p G (suc n) apart x.0 x.1 in
      let v : W p ≡ x.0 = entry-found p (suc n) x.0 e x.1 in
      rw v (b.plans, b.itself)

  pub solution : Solution r
  solution =
      record {
        figure = G;
        entry = W;
        figures = (whole (game_of r) G (λ p. setting_at r p (W p)) (costs r ok) (inside r ok) agrees).figures;
        small = λ p j l. small-figure p j;
        most = λ p j l. most-figure p j;
        entries = λ p l. plan-at p l (G p) refl;
      }

-- A figure's entry in a table, and back.
abbrev pub number_for : Option ℕ → ℕ
number_for none = no_figure
number_for (some n) = n

pub number-back : (f : Option ℕ) → ((j : ℕ) → f ≡ some j → j < no_figure) → figure_entry (number_for f) ≡ f
number-back none h = refl
number-back (some n) h = let l : n < no_figure = h n refl in let e : eqb n no_figure ≡ false = ne_eqb n no_figure (λ q. omega arith) in rw e

-- TABLES written with figures that they can hold, and with entries
module _ (r : Railway) (F : ℕ → Option ℕ) (E : ℕ → ℕ) (small : (p j : ℕ) → p < placements r → F p ≡ some j → j < no_figure)
    (figs sets : List ℕ) (lf : placements r ≤ length figs) (ls : placements r ≤ length sets) where
  abbrev pub figures-written : List ℕ
  figures-written = overwritten (λ p. number_for (F p)) (placements r) figs

  abbrev pub entries-written : List ℕ
  entries-written = overwritten E (placements r) sets

  number-at : (p : ℕ) → p < placements r → get_or figures-written p no_figure ≡ number_for (F p)
  number-at p l = overwritten-below (λ p. number_for (F p)) (placements r) figs lf p no_figure l

  pub figure-at : (p : ℕ) → p < placements r → figure_in figures-written p ≡ F p
  figure-at p l = ap figure_entry (number-at p l) ∙ number-back (F p) (λ j. small p j l)

  pub entry-at : (p : ℕ) → p < placements r → get_or entries-written p 0 ≡ E p
  entry-at p l = overwritten-below E (placements r) sets ls p 0 l

  pub figures-kept : Kept r figs figures-written
  figures-kept = record { as_long = overwritten-length (λ p. number_for (F p)) (placements r) figs lf; past = λ p l. overwritten-past (λ p. number_for (F p)) (placements r) figs lf p 0 l }

  pub entries-kept : Kept r sets entries-written
  entries-kept = record { as_long = overwritten-length E (placements r) sets ls; past = λ p l. overwritten-past E (placements r) sets ls p 0 l }

  pub settings-written : Facts r → ((p : ℕ) → p < placements r → IsPlanEntry r F p (F p) (E p)) → (p : ℕ)
      → p < placements r
      → IsPlanEntry r (figure_in figures-written) p (figure_in figures-written p) (get_or entries-written p 0)
  settings-written ok plan p l =
      let e : figure_in figures-written p ≡ F p = figure-at p l in
      rw (entry-at p l, e) (entry-same-figures r ok F (figure_in figures-written) (λ q lq. sym (figure-at q lq)) p (F p) (E p) l (plan p l))

-- THE PROMISE CAN BE KEPT
pub record Made (r : Railway) (figs sets : List ℕ) : Type 0 where
  pub new-figs : List ℕ
  pub new-sets : List ℕ
  pub made : SolverTables r figs sets new-figs new-sets

pub tables-exist : (r : Railway) → record_refusal r ≡ none → (figs sets : List ℕ) → placements r ≤ length figs → placements r ≤ length sets → Made r figs sets
tables-exist r accepted figs sets lf ls =
    let x : Solution r = solution r accepted in
    record {
      new-figs = figures-written r x.figure x.entry x.small figs sets lf ls;
      new-sets = entries-written r x.figure x.entry x.small figs sets lf ls;
      made =
          record {
            filled =
                record {
                  figures = λ p l. rw (figure-at r x.figure x.entry x.small figs sets lf ls p l) (x.figures p l);
                  settings = settings-written r x.figure x.entry x.small figs sets lf ls (facts r accepted) x.entries;
                };
            kept-figs = figures-kept r x.figure x.entry x.small figs sets lf ls;
            kept_sets = entries-kept r x.figure x.entry x.small figs sets lf ls;
          };
    }

-- NO ENTRY of a filled table is larger than the number for none, for figures are smaller
pub filled-most : (r : Railway) → record_refusal r ≡ none → (figs sets : List ℕ) → Filled r figs sets → (p : ℕ) → p < placements r → get_or figs p no_figure ≤ no_figure
filled-most r accepted figs sets filled p l = elim (lt? no_figure (get_or figs p no_figure)) [
  | inr b ↦ b
  | inl b ↦
      let x : Solution r = solution r accepted in
      let e : eqb (get_or figs p no_figure) no_figure ≡ false = ne_eqb (get_or figs p no_figure) no_figure (λ q. omega arith) in
      let f : figure_in figs p ≡ some (get_or figs p no_figure) = rw e in
      omega (arith, x.small p (get_or figs p no_figure) l (figure-one (game_of r) p (x.figure p) (figure_in figs p) (x.figures p l) (filled.figures p l) ∙ f))
]
