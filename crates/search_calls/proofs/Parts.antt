-- The entries of the placements alone, lent as a part of each table: a round on these parts is one on the tables, and what lies past the last code is as it was, whatever the
-- round did. Assumes nothing.
use mathlib.Core.Path.{◌≡◌, sym, ◌∙◌, ap}
use mathlib.Core.List.{List, ◌++◌}
use mathlib.Core.Option.{none}
use Prim.Native.Nat.{ℕ, ◌+◌, ◌-◌, ◌≤◌, ◌<◌}
use native.Mathlib.Omega.{arith}
use lib.ListN.{length, get_or, take, drop, length-append, length-drop, get_or-append}
use lib.Seq.{length-take-le, get_or-append-add, get_or-take, get_or-drop}
use Rattle.railway.specs.declared.Railway.{Railway}
use Rattle.railway.specs.Rows.{record_refusal}
use Rattle.game.specs.Placement.{placements}
use Rattle.game.proofs.Accepted.{facts}
use Rattle.game_tables.specs.Tables.{no_figure, figure_entry, figure_in, IsPlanEntry}
use Rattle.game_tables.specs.Solver.{Kept}
use Rattle.game_tables.specs.Rounds.{RoundTables}
use Rattle.game_tables.proofs.Carry.{entry-same-figures}
use Rattle.solver_rounds.specs.Visits.{MarkedFor}

-- TABLES THAT AGREE at the codes of the placements
module _ (r : Railway) (accepted : record_refusal r ≡ none) (figs figs' : List ℕ) (same : (p : ℕ) → p < placements r → get_or figs' p no_figure ≡ get_or figs p no_figure) where
  figure-same : (p : ℕ) → p < placements r → figure_in figs p ≡ figure_in figs' p
  figure-same p l = ap figure_entry (sym (same p l))

  pub tables-same : (sets sets' : List ℕ) → ((p : ℕ) → p < placements r → get_or sets' p 0 ≡ get_or sets p 0) → (n : ℕ) → RoundTables r n figs sets → RoundTables r n figs' sets'
  tables-same sets sets' same-sets n t =
      record {
        figures = λ p l f i. sym (figure-same p l) ∙ t.figures p l f i;
        settings = λ p l.
            let x : IsPlanEntry r (figure_in figs) p (figure_in figs' p) (get_or sets p 0) = rw (figure-same p l) at (t.settings p l) in
            rw (same-sets p l) (entry-same-figures r (facts r accepted) (figure_in figs) (figure_in figs') figure-same p (figure_in figs' p) (get_or sets p 0) l x);
      }

  pub marked-same : (n : ℕ) (marks : List ℕ) → MarkedFor r n figs marks → MarkedFor r n figs' marks
  marked-same n marks k =
      record {
        room = k.room;
        few = k.few;
        most = λ q j l e. k.most q j l (figure-same q l ∙ e);
        due = λ q j t lq lt first e. k.due q j t lq lt first (figure-same q lq ∙ e);
      }

-- A PART of m entries
module _ (m : ℕ) (xs part : List ℕ) (long : m ≤ length xs) (as_long : length part ≡ length (take m xs)) where
  part_length : length part ≡ m
  part_length = as_long ∙ length-take-le m xs long

  abbrev joined : List ℕ
  joined = part ++ drop m xs

  pub joined-part : (p d : ℕ) → p < m → get_or joined p d ≡ get_or part p d
  joined-part p d l = get_or-append part (drop m xs) d p (omega (arith, part_length))

  pub joined-past : (p d : ℕ) → m ≤ p → get_or joined p d ≡ get_or xs p d
  joined-past p d l =
      let i : ℕ = p - m in
      let e : p ≡ length part + i = omega (arith, part_length) in
      let z : m + i ≡ p = omega arith in
      ap (λ (k : ℕ). get_or joined k d) e ∙ get_or-append-add part (drop m xs) i d ∙ get_or-drop m xs i d ∙ ap (λ (k : ℕ). get_or xs k d) z

  pub joined_length : length joined ≡ length xs
  joined_length = length-append part (drop m xs) ∙ (let a = length-drop m xs in omega (arith, part_length, a))

  pub joined-kept : (r : Railway) → m ≡ placements r → Kept r xs joined
  joined-kept r e = record { as_long = joined_length; past = λ p l. joined-past p 0 (rw e l) }

pub part_same : (m : ℕ) (xs : List ℕ) (p d : ℕ) → p < m → get_or (take m xs) p d ≡ get_or xs p d
part_same m xs p d l = get_or-take m xs p d l
